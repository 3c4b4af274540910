-- The numbers that a generator gives.
use Rattle.std.specs.Prelude.{ℕ, ◌+◌, ◌*◌, ◌^◌, ◌/◌, ◌%◌}

-- the state that follows a state
abbrev pub state_after : ℕ → ℕ
state_after state = (state * 6364136223846793005 + 1442695040888963407) % 2 ^ 64

-- the number that a state gives: its upper half
abbrev pub value_of : ℕ → ℕ
value_of state = state / 2 ^ 32
