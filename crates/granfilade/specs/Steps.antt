-- The last place of an address.
use Rattle.std.specs.Prelude.{ℕ, List, [], ◌∷◌}

-- the last place, or 0 where there is none
abbrev pub last_of : List ℕ → ℕ
last_of [] = 0
last_of (x ∷ []) = x
last_of (x ∷ y ∷ places) = last_of (y ∷ places)
