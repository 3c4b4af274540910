-- The last place of a tumbler.
use Rattle.std.proofs.Common.{ℕ, ◌<◌, List, [], ◌∷◌, ◌++◌, length, arith, refl, subst}
use Rattle.std.proofs.lemmas.List.{get_or_push, length-append}
use Rattle.std.proofs.lemmas.List.Elements.{All-get_or}
use Rattle.tumbler.specs.Places.{IsTumbler, place_bound}

pub last_small : (front : List ℕ) (n : ℕ) → IsTumbler (front ++ n ∷ []) → n < place_bound
last_small front n tumbler =
    subst (λ (m : ℕ). m < place_bound) (get_or_push front n 0 (length front) refl)
    (All-get_or (λ (p : ℕ). p < place_bound) (front ++ n ∷ []) (length front) 0 (omega (arith, length-append front (n ∷ []))) tumbler.small)
