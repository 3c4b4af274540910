-- The answers of a clock.
use Rattle.std.specs.Prelude.{◌≡◌, ℕ, suc, Option, None, Some}

-- An answer is the next one of those that a clock had still to give, and the others are still to come, each one place
-- sooner. A clock that does not tell its answers never does.
abbrev pub IsNext : ℕ → Option (ℕ → ℕ) → Option (ℕ → ℕ) → Type 0
IsNext answer None None = Unit {0}
IsNext answer (Some old) (Some new) = (answer ≡ old 0) × ((k : ℕ) → new k ≡ old (suc k))
IsNext answer _ _ = ⊥
