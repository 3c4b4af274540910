-- The words of a command line that are a form of the program.
use Rattle.std.specs.Prelude.{◌≡◌, ◌⊎◌, ℕ, ◌<◌, ◌^◌, Bool, false, true, not, List, [], ◌∷◌, ◌==◌, codes, decimal}
use Rattle.febe_data.specs.LimitsView.{LimitsView, AreLimits, standard_limits}

-- a folder's word is not empty, and does not begin with a hyphen
abbrev pub is_folder : List ℕ → Bool
is_folder [] = false
is_folder (first ∷ word) = not (first == 45)

-- the three words are limits: each is a decimal number within its bounds, without sign or leading zeros
pub record SpellLimits (entries text flush : List ℕ) (limits : LimitsView) : Type 0 where
  pub entries_are : entries ≡ decimal limits.entries
  pub text_is : text ≡ decimal limits.text
  pub flush_is : flush ≡ decimal limits.flush
  pub bounds : AreLimits limits.entries limits.text limits.flush

-- no limits are spelled by the three words
abbrev pub SpellNoLimits : List ℕ → List ℕ → List ℕ → Type 0
SpellNoLimits entries text flush = (limits : LimitsView) → ¬ SpellLimits entries text flush limits

-- The words are the program's name and one folder, for a run with the standard limits; or behind these
-- `--limits` and three numbers, for a run with those.
abbrev pub AreWords : List (List ℕ) → LimitsView → Type 0
AreWords (name ∷ folder ∷ []) limits = (is_folder folder ≡ true) × (limits ≡ standard_limits)
AreWords (name ∷ folder ∷ option ∷ entries ∷ text ∷ flush ∷ []) limits = (is_folder folder ≡ true) × (option ≡ codes "--limits") × SpellLimits entries text flush limits
AreWords other limits = ⊥

-- The words are the program's name, a folder, `--generate`, and a decimal number of 32 bits without sign or leading zeros.
abbrev pub AreGenerateWords : List (List ℕ) → ℕ → Type 0
AreGenerateWords (name ∷ folder ∷ option ∷ number ∷ []) start = (is_folder folder ≡ true) × (option ≡ codes "--generate") × (number ≡ decimal start) × (start < 2 ^ 32)
AreGenerateWords other start = ⊥

-- the words are no form of the program
pub record AreNoWords (words : List (List ℕ)) : Type 0 where
  pub no_session : (limits : LimitsView) → ¬ AreWords words limits
  pub no_generate : (start : ℕ) → ¬ AreGenerateWords words start

-- the limits of a run with these words: a generated session has the standard ones
abbrev pub HasLimits : List (List ℕ) → LimitsView → Type 0
HasLimits words limits = AreWords words limits ⊎ (((start : ℕ) × AreGenerateWords words start) × (limits ≡ standard_limits))
