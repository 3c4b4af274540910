-- Where two specs pick the same content.
use Rattle.std.specs.Prelude.{ℕ, zero, suc, ◌+◌, ◌==◌, ◌&&◌, Bool, not, List, length, map, filter, if◌then◌else◌}
use Rattle.std.specs.List.{list_any, flat_map}
use Rattle.febe_data.specs.declared.run.Diagonal.{Diagonal}
use Rattle.febe_data.specs.Plain.{PlainSpec}
use Rattle.world_rules.specs.declared.pairs.Pair.{Pair}
use Rattle.world_rules.specs.declared.rows.Row.{Row}
use Rattle.world_rules.specs.World.{World, is_same}
use Rattle.world_rules.specs.Picking.{picked_once}

-- the pairs of a row with these rows: its position, and the position of each that has its I-address, of the row itself too
abbrev pub pairs_of_row : List Row → Row → List Pair
pairs_of_row others row = map (λ (other : Row). record { left = row.n; right = other.n }) (filter (λ (other : Row). is_same other.address row.address) others)

-- All pairs of positions with the same I-address, the one picked by the left spec and the other by the right one.
-- Where the text of both documents ascends, they come by left and then by right.
abbrev pub pairs_of : World → (left right : PlainSpec) → List Pair
pairs_of world left right = flat_map (pairs_of_row (picked_once world right)) (picked_once world left)

abbrev pub is_pair : Pair → Pair → Bool
is_pair a b = a.left == b.left && a.right == b.right

abbrev pub has_pair : List Pair → Pair → Bool
has_pair pairs pair = list_any (is_pair pair) pairs

-- one position on, on both sides
abbrev pub next_pair : Pair → Pair
next_pair pair = record { left = pair.left + 1; right = pair.right + 1 }

-- no pair stands just before this one
abbrev pub is_start : List Pair → Pair → Bool
is_start pairs pair = not (list_any (λ before. is_pair pair (next_pair before)) pairs)

-- how many pairs follow each other from here on; at most as many as there are
abbrev pub reach : List Pair → ℕ → Pair → ℕ
reach pairs zero pair = 0
reach pairs (suc most) pair = if has_pair pairs pair then reach pairs most (next_pair pair) + 1 else 0

abbrev pub diagonal_from : List Pair → Pair → Diagonal
diagonal_from pairs pair = record { left = pair.left; right = pair.right; length = reach pairs (length pairs) pair }

-- from each pair that has none before it as far as pairs follow
abbrev pub diagonals_of : List Pair → List Diagonal
diagonals_of pairs = map (diagonal_from pairs) (filter (is_start pairs) pairs)

abbrev pub diagonals : World → (left right : PlainSpec) → List Diagonal
diagonals world left right = diagonals_of (pairs_of world left right)
