-- What spans of V-addresses pick from a document's rows, and what they leave.
use Rattle.std.specs.Prelude.{ℕ, ◌+◌, ◌&&◌, not, Bool, List, [], ◌∷◌, if◌then◌else◌}
use Rattle.tumbler.specs.declared.span.Span.{Span}
use Rattle.tumbler.specs.Places.{comes_before}
use Rattle.tumbler.specs.Span.{end_of}

-- whether an address is at the span's start or past it, and before its end
abbrev pub is_picked : Span → List ℕ → Bool
is_picked span address = not (comes_before address span.start) && comes_before address (end_of span)

-- of addresses that stand at `part.n` and on, those whose V-addresses are in the span
abbrev pub picked_from : ℕ → Span → ℕ → List (List ℕ) → List (List ℕ)
picked_from part span n [] = []
picked_from part span n (address ∷ addresses) =
    if is_picked span (part ∷ n ∷ []) then address ∷ picked_from part span (n + 1) addresses else picked_from part span (n + 1) addresses

-- and the others
abbrev pub left_from : ℕ → Span → ℕ → List (List ℕ) → List (List ℕ)
left_from part span n [] = []
left_from part span n (address ∷ addresses) =
    if is_picked span (part ∷ n ∷ []) then left_from part span (n + 1) addresses else address ∷ left_from part span (n + 1) addresses
