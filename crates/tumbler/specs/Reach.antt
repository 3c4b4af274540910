-- How far places may be moved: to where all of them stay tumblers.
use Rattle.std.specs.Prelude.{◌≡◌, ℕ, zero, suc, ◌+◌, ◌<◌, ◌≤◌, ◌⊎◌, max, List, [], ◌∷◌, length, drop}
use Rattle.tumbler.specs.Places.{place, place_bound}

-- the places up to and with the first one that is not 0
abbrev pub lead : List ℕ → List ℕ
lead [] = []
lead (zero ∷ places) = 0 ∷ lead places
lead (suc x ∷ places) = suc x ∷ []

-- index by index the greater place
abbrev pub greater : List ℕ → List ℕ → List ℕ
greater [] b = b
greater (x ∷ a) [] = x ∷ a
greater (x ∷ a) (y ∷ b) = max x y ∷ greater a b

-- the reach of several places: index by index the most that one of them adds there
abbrev pub reach : List (List ℕ) → List ℕ
reach [] = []
reach (places ∷ more) = greater (lead places) (reach more)

-- a leaves room for a reach: place by place their sum stays below the bound
abbrev pub HasRoom : List ℕ → List ℕ → Type 0
HasRoom a [] = Unit {0}
HasRoom a (x ∷ r) = (place a 0 + x < place_bound) × HasRoom (drop 1 a) r

-- no place of a stands behind the lead of d, or d is zero
abbrev pub IsCovered : List ℕ → List ℕ → Type 0
IsCovered a d = (length (lead d) ≡ 0) ⊎ (length a ≤ length (lead d))
