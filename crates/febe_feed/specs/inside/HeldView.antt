-- What contracts see of the bytes that a feed holds.
use Rattle.std.specs.Prelude.{ℕ, List}

-- the bytes, in order
pub record HeldView : Type 0 where
  pub bytes : List ℕ
