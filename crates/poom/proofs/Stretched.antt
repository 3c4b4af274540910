-- Elements that follow each other make one stretch.
use Rattle.std.proofs.Common.{◌≡◌, ℕ, ◌+◌, Bool, true, false, List, [], ◌∷◌, ◌++◌, length, refl, arith, ap, ◌∙◌}
use Rattle.poom.specs.Runs.{stretches_on, stretches}

-- each of the elements follows the one in front of it, where x is in front of the first, and the last of all is `last`
abbrev pub IsChain : {X : Type 0} → (X → X → Bool) → X → List X → X → Type 0
IsChain follows x [] last = x ≡ last
IsChain follows x (y ∷ ys) last = (follows x y ≡ true) × IsChain follows y ys last

-- what comes behind does not follow
abbrev pub IsBreak : {X : Type 0} → (X → X → Bool) → X → List X → Type 0
IsBreak follows last [] = Unit {0}
IsBreak follows last (y ∷ ys) = follows last y ≡ false

ends_there : {X : Type 0} (follows : X → X → Bool) (first last : X) (count : ℕ) (rest : List X) → IsBreak follows last rest → stretches_on follows first last count rest ≡ record { first = first; count = count } ∷ stretches follows rest
ends_there follows first last count [] h = refl
ends_there follows first last count (y ∷ ys) h = rw h refl

goes_on : {X : Type 0} (follows : X → X → Bool) (first x last : X) (count n : ℕ) (xs rest : List X) → IsChain follows x xs last → n ≡ count + length xs
    → stretches_on follows first x count (xs ++ rest) ≡ stretches_on follows first last n rest
goes_on {X} follows first x last count n [] rest chain e =
    let same : count ≡ n = omega arith in
    ap (λ (y : X). stretches_on follows first y count rest) chain ∙ ap (λ (k : ℕ). stretches_on follows first last k rest) same
goes_on {X} follows first x last count n (y ∷ ys) rest chain e = rw chain.0 (goes_on follows first y last (count + 1) n ys rest chain.1 (omega arith))

pub one_stretch : {X : Type 0} (follows : X → X → Bool) (x last : X) (n : ℕ) (xs rest : List X) → IsChain follows x xs last → n ≡ 1 + length xs → IsBreak follows last rest
    → stretches follows (x ∷ (xs ++ rest)) ≡ record { first = x; count = n } ∷ stretches follows rest
one_stretch follows x last n xs rest chain e behind = goes_on follows x x last 1 n xs rest chain e ∙ ends_there follows x last n rest behind
