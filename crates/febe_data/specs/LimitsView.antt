-- What contracts see of limits.
use Rattle.std.specs.Prelude.{ℕ, ◌≤◌}

-- kept entries, content bytes, and kept entries between pages
pub record LimitsView : Type 0 where
  pub entries : ℕ
  pub text : ℕ
  pub flush : ℕ

-- the bounds of the three numbers
pub record AreLimits (entries text flush : ℕ) : Type 0 where
  pub entries_bound : entries ≤ 4194304
  pub text_bound : text ≤ 1073741824
  pub flush_from : 1 ≤ flush
  pub flush_bound : flush ≤ 4194304

-- the limits of a back end that is given none
abbrev pub standard_limits : LimitsView
standard_limits = record { entries = 4194304; text = 1073741824; flush = 256 }
