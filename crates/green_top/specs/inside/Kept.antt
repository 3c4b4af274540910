-- What contracts see of a sink in memory.
use Rattle.std.specs.Prelude.{ℕ, List}

-- what it has taken, and how many writes failed
pub record KeptView : Type 0 where
  pub taken : List ℕ
  pub faults : ℕ
