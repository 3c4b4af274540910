-- What holds inside turns.
use Rattle.std.specs.Prelude.{ℕ, ◌^◌, ◌<◌}

-- both are numbers of 64 bits
pub record AreTurns (limit taken : ℕ) : Type 0 where
  pub limit_bound : limit < 2 ^ 64
  pub taken_bound : taken < 2 ^ 64
