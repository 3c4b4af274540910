-- Histories: lists of entries, each of which belongs to a number.
use Rattle.std.specs.Prelude.{◌≡◌, ◌≢◌, ◌⊎◌, ◌==◌, ℕ, List, [], ◌∷◌, ◌++◌, filter}

-- the history begins with what was seen
abbrev pub StartsWith : {E : Type 0} → List E → List E → Type 0
StartsWith {E} history seen = (past : List E) × (history ≡ seen ++ past)

module _ {E : Type 0} (owner : E → ℕ) where
  -- the entries of a number, in order
  abbrev pub entries_of : ℕ → List E → List E
  entries_of number history = filter (λ e. owner e == number) history

  -- the history begins with what was seen, and past that it has nothing of number 0 and nothing of this number
  abbrev pub Extends : ℕ → List E → List E → Type 0
  Extends number seen history = (past : List E) × (history ≡ seen ++ past) × (entries_of 0 past ≡ []) × (entries_of number past ≡ [])

  -- Nothing is added to the history and the number stays; or one entry, which belongs to the number after it.
  -- That is not 0. A number other than 0 stays, and one that takes the place of 0 had no entry yet.
  abbrev pub Adds : ℕ → List E → ℕ → List E → Type 0
  Adds number history after added =
      ((added ≡ []) × (after ≡ number))
      ⊎ ((e : E) × (added ≡ e ∷ []) × (owner e ≡ after) × (after ≢ 0) × (number ≡ 0 → entries_of after history ≡ []) × (number ≢ 0 → after ≡ number))

  -- the history after a play is the one before it and what the play adds
  abbrev pub Grows : ℕ → List E → ℕ → List E → Type 0
  Grows number before after history = (added : List E) × (history ≡ before ++ added) × Adds number before after added
