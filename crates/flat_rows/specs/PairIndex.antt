-- What the search for pairs keeps: the positions of each address, and the pairs as a set.
use Rattle.std.specs.Prelude.{ℕ, ◌≡◌, Bool, List, [], ◌∷◌, ◌++◌, if◌then◌else◌, map, filter}
use Rattle.std.specs.List.{flat_map}
use Rattle.std.specs.Option.{option_map, unwrap_or}
use Rattle.std.specs.Global.{Vec}
use Rattle.std.specs.BTreeMap.{BTreeMap, get}
use Rattle.std.specs.BTreeSet as sets
use Rattle.std.specs.declared.cmp.Ordering.{Ordering}
use Rattle.std.specs.Ordering.{nat_cmp, ordering_then}
use Rattle.std.specs.Cmp.Lexicographic.{slice_cmp}
use Rattle.febe_data.specs.Plain.{PlainSpec}
use Rattle.world_rules.specs.declared.pairs.Pair.{Pair}
use Rattle.world_rules.specs.declared.rows.Row.{Row}
use Rattle.world_rules.specs.World.{is_same}
use Rattle.world_rules.specs.Picking.{is_picked_by}
use Rattle.world_rules.specs.Relation.{pairs_of_row, has_pair}

-- the positions of the rows with an address, in their order
abbrev pub places_at : List Row → List ℕ → List ℕ
places_at rows address = map (λ (row : Row). row.n) (filter (λ (row : Row). is_same row.address address) rows)

abbrev pub places_in : BTreeMap (List ℕ) (Vec ℕ) → List ℕ → List ℕ
places_in index address = unwrap_or (option_map (λ (places : Vec ℕ). places.items) (get (slice_cmp nat_cmp) index address)) []

-- the index has at each address the positions of its rows
abbrev pub IsPlaceIndex : List Row → BTreeMap (List ℕ) (Vec ℕ) → Type 0
IsPlaceIndex rows index = (address : List ℕ) → places_in index address ≡ places_at rows address

-- one position more at this address, behind those that it has
abbrev pub AddsPlace : List ℕ → ℕ → (old new : BTreeMap (List ℕ) (Vec ℕ)) → Type 0
AddsPlace address place old new = (other : List ℕ) → places_in new other ≡ (if is_same address other then places_in old other ++ place ∷ [] else places_in old other)

-- the pairs of a position on the left with these on the right
abbrev pub pairs_with : ℕ → List ℕ → List Pair
pairs_with left rights = map (λ (right : ℕ). record { left = left; right = right }) rights

-- the pairs of the rows that the one spec picks with those that the other picks
abbrev pub pairs_among : List Row → (left right : PlainSpec) → List Pair
pairs_among rows left right = flat_map (pairs_of_row (filter (is_picked_by right) rows)) (filter (is_picked_by left) rows)

-- by left and then by right
abbrev pub pair_cmp : ℕ × ℕ → ℕ × ℕ → Ordering
pair_cmp a b = ordering_then (nat_cmp a.0 b.0) (nat_cmp a.1 b.1)

abbrev pub set_has : sets.BTreeSet (ℕ × ℕ) → (left right : ℕ) → Bool
set_has members left right = sets.contains pair_cmp members (left, right)

-- the set has the pairs of the list, and no others
abbrev pub IsPairSet : List Pair → sets.BTreeSet (ℕ × ℕ) → Type 0
IsPairSet pairs members = (left right : ℕ) → set_has members left right ≡ has_pair pairs (record { left = left; right = right })
