-- What contracts see of a clock in memory, and its answers.
use Rattle.std.specs.Prelude.{ℕ, ◌+◌, ◌-◌, ◌*◌, ◌^◌, min}

-- the next answer, and by how much each answer is greater than the one before it
pub record ClockView : Type 0 where
  pub next : ℕ
  pub step : ℕ

-- the answer behind so many others, which is the greatest number of 64 bits at most
abbrev pub answer_at : ClockView → ℕ → ℕ
answer_at clock k = min (clock.next + k * clock.step) (2 ^ 64 - 1)
