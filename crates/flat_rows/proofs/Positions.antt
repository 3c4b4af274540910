-- The intervals of positions, one position more.
use Rattle.std.proofs.Common.{◌≡◌, ℕ, ◌+◌, ◌==◌, ◌++◌, ◌∷◌, ◌<◌, ◌≤◌, ◌∙◌, [], true, false, List, length, drop, get_or, map, refl, add-one, append_assoc}
use Rattle.std.proofs.Math.Seq.{drop-cons}
use Rattle.std.proofs.Math.ListN.{drop_of_length-le}
use Rattle.tumbler.specs.declared.span.Span.{Span}
use Rattle.world_rules.specs.Picking.{stretches_on, interval}

-- the intervals of an open stretch and of what is behind it
abbrev intervals_on : (first last count : ℕ) → List ℕ → List Span
intervals_on first last count positions = map interval (stretches_on (λ a b. b == a + 1) first last count positions)

behind : (xs : List ℕ) (i : ℕ) → i < length xs → drop i xs ≡ get_or xs i 0 ∷ drop (i + 1) xs
behind xs i lt = rw add-one (drop-cons xs i 0 lt)

-- a position that follows
pub extends : (made all : List Span) (first last count : ℕ) (xs : List ℕ) (i : ℕ) → i < length xs → (get_or xs i 0 == last + 1) ≡ true
    → made ++ intervals_on first last count (drop i xs) ≡ all → made ++ intervals_on first (get_or xs i 0) (count + 1) (drop (i + 1) xs) ≡ all
extends made all first last count xs i lt follows before =
    let step : intervals_on first last count (drop i xs) ≡ intervals_on first (get_or xs i 0) (count + 1) (drop (i + 1) xs) = rw (behind xs i lt, follows) refl in
    rw step at before

-- one that does not
pub begins : (made new all : List Span) (first last count : ℕ) (xs : List ℕ) (i : ℕ) → i < length xs → (get_or xs i 0 == last + 1) ≡ false
    → new ≡ made ++ interval (record { first = first; count = count }) ∷ [] → made ++ intervals_on first last count (drop i xs) ≡ all
    → new ++ intervals_on (get_or xs i 0) (get_or xs i 0) 1 (drop (i + 1) xs) ≡ all
begins made new all first last count xs i lt apart pushed before =
    let step : intervals_on first last count (drop i xs) ≡ interval (record { first = first; count = count }) ∷ intervals_on (get_or xs i 0) (get_or xs i 0) 1 (drop (i + 1) xs) = rw (behind xs i lt, apart) refl in
    rw (pushed, append_assoc) (rw step at before)

-- none is left
pub ends : (made new all : List Span) (first last count : ℕ) (xs : List ℕ) (i : ℕ) → length xs ≤ i
    → new ≡ made ++ interval (record { first = first; count = count }) ∷ [] → made ++ intervals_on first last count (drop i xs) ≡ all → new ≡ all
ends made new all first last count xs i past pushed before = pushed ∙ (rw (drop_of_length-le xs past) at before)
