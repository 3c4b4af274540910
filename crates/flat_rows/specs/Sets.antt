-- Sets of tumblers.
use Rattle.std.specs.Prelude.{◌≡◌, ℕ, ◌&&◌, Bool, List}
use Rattle.std.specs.List.{list_any}
use Rattle.std.specs.BTreeSet.{BTreeSet, contains}
use Rattle.std.specs.Ordering.{nat_cmp}
use Rattle.std.specs.Cmp.Lexicographic.{slice_cmp}
use Rattle.world_rules.specs.declared.rows.Row.{Row}
use Rattle.world_rules.specs.World.{is_same}

-- the set has the tumbler
abbrev pub is_in_set : BTreeSet (List ℕ) → List ℕ → Bool
is_in_set set tumbler = contains (slice_cmp nat_cmp) set tumbler

-- the set has just these tumblers
abbrev pub IsSetOf : List (List ℕ) → BTreeSet (List ℕ) → Type 0
IsSetOf tumblers set = (tumbler : List ℕ) → is_in_set set tumbler ≡ list_any (is_same tumbler) tumblers

-- the set has just the documents in which a row has one of the addresses
abbrev pub IsSetShowing : List Row → BTreeSet (List ℕ) → BTreeSet (List ℕ) → Type 0
IsSetShowing rows addresses set = (document : List ℕ) → is_in_set set document ≡ list_any (λ (row : Row). is_same row.document document && is_in_set addresses row.address) rows
