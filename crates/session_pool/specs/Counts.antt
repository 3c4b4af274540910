-- Counts that stop at the greatest number of 64 bits.
use Rattle.std.specs.Prelude.{ℕ, ◌+◌, ◌-◌, ◌^◌, min}

abbrev pub saturated : ℕ → ℕ
saturated n = min n (2 ^ 64 - 1)

-- one more
abbrev pub raised : ℕ → ℕ
raised n = saturated (n + 1)
