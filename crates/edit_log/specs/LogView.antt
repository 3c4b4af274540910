-- What contracts see of an open log.
use Rattle.std.specs.Prelude.{ℕ, Bool, true, false}
use Rattle.entry_codec.specs.declared.format.LogFormat.{LogFormat}
use Rattle.edit_log.specs.declared.pending.Pending.{Pending}
use Rattle.edit_log.specs.declared.pending.Pending.TheVariants.{Nothing, Shut, Gated}

-- where the end gate stands, whether an edit is pending, and in which format the log was read when it was opened
pub record LogView : Type 0 where
  pub end : ℕ
  pub pending : Pending
  pub read : LogFormat

-- an edit is pending
abbrev pub is_pending : Pending → Bool
is_pending Nothing = false
is_pending Shut = true
is_pending Gated = true
