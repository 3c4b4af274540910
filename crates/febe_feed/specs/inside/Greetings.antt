-- The scan of the greeting.
use Rattle.std.specs.Prelude.{ℕ, List, [], ◌∷◌, ◌==◌, if◌then◌else◌}
use Rattle.febe_fields.specs.Scanning.{Outcome, goes, done, fails}

-- the byte that is awaited, and those behind it
pub record Rest : Type 0 where
  pub first : ℕ
  pub others : List ℕ

abbrev pub all_of_it : Rest
all_of_it = record { first = 80; others = 48 ∷ 126 ∷ [] }

-- the byte behind the one that came
abbrev pub behind_first : List ℕ → Outcome Rest
behind_first [] = done
behind_first (b ∷ others) = goes (record { first = b; others = others })

abbrev pub greeting_step : Rest → ℕ → Outcome Rest
greeting_step rest byte = if byte == rest.first then behind_first rest.others else fails
