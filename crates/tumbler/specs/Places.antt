-- What a tumbler is, and the arithmetic of places.
use Rattle.std.specs.Prelude.{◌≡◌, ◌≢◌, ℕ, zero, suc, ◌+◌, ◌-◌, ◌^◌, ◌<◌, ◌≤◌, ◌==◌, nat_lt, Bool, true, IsTrue, if◌then◌else◌, List, [], ◌∷◌, ◌++◌, length, drop, replicate, All, slice_index}
use Rattle.std.specs.Ordering.{nat_cmp, is_lt}
use Rattle.std.specs.declared.cmp.Ordering.TheVariants.{Less, Greater}
use Rattle.std.specs.Cmp.Lexicographic.{slice_cmp}

-- the most places that a tumbler has
abbrev pub most_places : ℕ
most_places = 24

-- each place is below this
abbrev pub place_bound : ℕ
place_bound = 2 ^ 32

-- the place at k, counted from 0; a missing place is 0
abbrev pub place : List ℕ → ℕ → ℕ
place places k = slice_index places k

-- the last place is 0 nowhere but in the empty list
abbrev pub EndsWell : List ℕ → Type 0
EndsWell places = place places (length places - 1) ≡ 0 → length places ≡ 0

-- places each below the bound, as many as one likes, of which the last is not 0
pub record ArePlaces (places : List ℕ) : Type 0 where
  pub small : All (λ p. p < place_bound) places
  pub ends : EndsWell places

-- a tumbler has no more of them than it may
pub record IsTumbler (places : List ℕ) : Type 0 where
  pub few : length places ≤ most_places
  pub small : All (λ p. p < place_bound) places
  pub ends : EndsWell places

-- a comes before b: at the first place where they differ, a has the lesser
abbrev pub IsBefore : List ℕ → List ℕ → Type 0
IsBefore a b = slice_cmp nat_cmp a b ≡ Less

-- a is before b or equal to it
abbrev pub IsUpTo : List ℕ → List ℕ → Type 0
IsUpTo a b = slice_cmp nat_cmp a b ≢ Greater

-- whether a comes before b
abbrev pub comes_before : List ℕ → List ℕ → Bool
comes_before a b = is_lt (slice_cmp nat_cmp a b)

-- The sum keeps the places of a as long as those of d are 0, adds the first place of d that is not,
-- and has the places of d from there on.
abbrev pub sum : List ℕ → List ℕ → List ℕ
sum a [] = a
sum a (zero ∷ d) = place a 0 ∷ sum (drop 1 a) d
sum a (suc x ∷ d) = (place a 0 + suc x) ∷ d

-- the one place that is added stays below the bound
abbrev pub fits : List ℕ → List ℕ → Bool
fits a [] = true
fits a (zero ∷ d) = fits (drop 1 a) d
fits a (suc x ∷ d) = nat_lt (place a 0 + suc x) place_bound

abbrev pub Fits : List ℕ → List ℕ → Type 0
Fits a d = IsTrue (fits a d)

-- one place 0 more in front, and none before the empty list, which is zero
abbrev pub after_zero : List ℕ → List ℕ
after_zero [] = []
after_zero (x ∷ places) = 0 ∷ x ∷ places

-- What leads from a to b, for a up to b: 0 where they are alike, then the difference of the first
-- places that differ, then the places of b.
abbrev pub difference : List ℕ → List ℕ → List ℕ
difference b [] = b
difference [] (x ∷ a) = []
difference (y ∷ b) (x ∷ a) = if y == x then after_zero (difference b a) else (y - x) ∷ b

-- ---- places beside others

-- n at the last of so many places: zero where n is 0 or there is no place
abbrev pub width_at : ℕ → ℕ → List ℕ
width_at zero n = []
width_at (suc long) zero = []
width_at (suc long) (suc n) = replicate long 0 ++ suc n ∷ []

-- x in front of the places, but no 0 in front of none
abbrev pub led_by : ℕ → List ℕ → List ℕ
led_by zero places = after_zero places
led_by (suc x) places = suc x ∷ places

-- the places without the zeros at their end
abbrev pub trimmed : List ℕ → List ℕ
trimmed [] = []
trimmed (x ∷ places) = led_by x (trimmed places)

-- the last place less 1
abbrev pub lessened : List ℕ → List ℕ
lessened [] = []
lessened (x ∷ []) = (x - 1) ∷ []
lessened (x ∷ y ∷ places) = x ∷ lessened (y ∷ places)

-- A place that comes before this one, of the fewest places: the last place less 1, without the zeros at
-- the end. Zero stays.
abbrev pub just_before : List ℕ → List ℕ
just_before places = trimmed (lessened places)
