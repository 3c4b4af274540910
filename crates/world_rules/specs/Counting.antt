-- Numbers kept by address, and how they change.
use Rattle.std.specs.Prelude.{◌≡◌, ℕ, cond, List}
use Rattle.std.specs.Option.{unwrap_or}
use Rattle.std.specs.Ordering.{nat_cmp}
use Rattle.std.specs.Cmp.Lexicographic.{slice_cmp}
use Rattle.std.specs.BTreeMap as tree
use Rattle.std.specs.BTreeMap.{BTreeMap}
use Rattle.world_rules.specs.World.{is_same}

-- the number that a map has at a key, or 0
abbrev pub count_in : BTreeMap (List ℕ) ℕ → List ℕ → ℕ
count_in counts key = unwrap_or (tree.get (slice_cmp nat_cmp) counts key) 0

-- the count at this key becomes this one, and the others stay
abbrev pub CountsAs : List ℕ → ℕ → BTreeMap (List ℕ) ℕ → BTreeMap (List ℕ) ℕ → Type 0
CountsAs first count old new = (key : List ℕ) → count_in new key ≡ cond (is_same first key) count (count_in old key)
