-- Page numbers that are chosen, and numbers that come to others.
use Rattle.std.specs.Prelude.{◌≡◌, ℕ, ◌+◌, ◌<◌, ◌≤◌, ◌||◌, false, List, [], ◌∷◌, ◌++◌, length}
use Rattle.page_chains.specs.Chains.{is_in}

-- the numbers are those that were there, and these
abbrev pub HasAlso : List ℕ → List ℕ → List ℕ → Type 0
HasAlso numbers old new = (k : ℕ) → is_in k new ≡ (is_in k numbers || is_in k old)

-- a page from this number on that is not spared
pub record IsFresh (spared : List ℕ) (from number : ℕ) : Type 0 where
  pub behind : from ≤ number
  pub low : number < 1099511627776
  pub apart : is_in number spared ≡ false

-- pages that are not spared, in ascending order, from the first of two numbers on and below the second
abbrev pub AreFresh : List ℕ → ℕ → ℕ → List ℕ → Type 0
AreFresh spared from to [] = from ≤ to
AreFresh spared from to (number ∷ numbers) = IsFresh spared from number × AreFresh spared (number + 1) to numbers

-- so many of these stand behind the old numbers
pub record AreChosen (spared : List ℕ) (from to count : ℕ) (old new : List ℕ) : Type 0 where
  pub fresh : List ℕ
  pub numbers : new ≡ old ++ fresh
  pub many : length fresh ≡ count
  pub are : AreFresh spared from to fresh
