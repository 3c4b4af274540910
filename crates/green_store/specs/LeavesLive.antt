-- Changes that are neither the begin nor the end of a session, nor a restart.
use Rattle.std.specs.Prelude.{◌≡◌, ℕ, Bool}
use Rattle.febe_data.specs.Plain.{PlainChange}
use Rattle.world_rules.specs.History.{live_after}

-- whatever session makes the change, each session is live after it that was live before it, and no other
abbrev pub LeavesLive : PlainChange → Type 0
LeavesLive change = (session : ℕ) (live : Bool) (maker serial : ℕ) → live_after session live (record { session = maker; serial = serial; change = change }) ≡ live
