-- A store over a disk while a session is served, and what a crash leaves meanwhile.
use Rattle.std.specs.Prelude.{◌≡◌, ℕ, ◌≤◌, List, [], ◌++◌, length, Option, None, Some}
use Rattle.febe_data.specs.LimitsView.{LimitsView}
use Rattle.febe_data.specs.Plain.{PlainEntry}
use Rattle.entry_codec.specs.Logged.{PlainLogged}
use Rattle.green_io.specs.Disk.{DiskState, LeavesOnly}
use Rattle.world_rules.specs.History.{durable_entries}
use Rattle.world_rules.specs.Legal.{Exchange}
use Rattle.green_store.specs.Durable.{Keeps}
use Rattle.green_store.specs.StoreView.{StoreView}
use Rattle.green_top.specs.Crash.{HoldsFront, WasMade}
use Rattle.green_top.specs.declared.session_end.SessionEnd.{SessionEnd}
use Rattle.green_top.specs.Times.{Coming, GivenBy, RunStep, TimedStep, steps_in, moments_in, exchanges_of, moments_kept, AreStepsOf, AreTends}

-- no edit is pending; or one that a request of these steps made, and that was refused when the disk failed
abbrev pub IsMade : LimitsView → ℕ → List TimedStep → ℕ → List PlainEntry → ℕ → ℕ → Option PlainLogged → Type 0
IsMade limits session steps least history faults_before faults_now None = Unit {0}
IsMade limits session steps least history faults_before faults_now (Some row) = WasMade limits session steps least history faults_before faults_now row

-- after these steps the disk has the kept entries of the history, and no edit is pending, or one of the session's
pub record StandsOn (limits : LimitsView) (session : ℕ) (steps : List TimedStep) (least faults_before : ℕ) (disk : DiskState) (store : StoreView) (faults_now : ℕ) : Type 0 where
  pub pending : Option PlainLogged
  pub keeps : Keeps disk store pending
  pub made : IsMade limits session steps least store.history faults_before faults_now pending
  pub since : faults_before ≤ faults_now

-- there is a moment for each kept entry
abbrev pub HasMoments : StoreView → Type 0
HasMoments store = length store.moments ≡ length (durable_entries store.history)

-- From one store over a disk to another these steps were made, the history grew, the moments of the kept entries came, and the count
-- of disk faults did not fall. A crash leaves meanwhile what some front of the history has, and the disk has all of it afterwards, if
-- it had so before, after some steps.
pub record Endures (limits : LimitsView) (session : ℕ) (steps : List TimedStep) (disk : DiskState) (store : StoreView) (faults : ℕ) (after_disk : DiskState) (after : StoreView) (after_faults : ℕ) : Type 0 where
  pub grows : (added : List PlainEntry) × (after.history ≡ store.history ++ added)
  pub moments_come : after.moments ≡ store.moments ++ moments_kept steps
  pub for_each : HasMoments store → HasMoments after
  pub never_falls : faults ≤ after_faults
  pub any_moment : (earlier : List TimedStep) (least faults_before : ℕ) → HasMoments store → least ≤ length store.history → StandsOn limits session earlier least faults_before disk store faults
      → LeavesOnly disk after_disk (HoldsFront limits session (earlier ++ steps) least after.history after.moments)
  pub stands : (earlier : List TimedStep) (least faults_before : ℕ) → least ≤ length store.history → StandsOn limits session earlier least faults_before disk store faults
      → StandsOn limits session (earlier ++ steps) least faults_before after_disk after after_faults

-- A session was served in these exchanges up to this end, by its steps and those behind it, each at its own answer of the clock.
pub record RunsThrough (end : SessionEnd) (limits : LimitsView) (next session : ℕ) (exchanges : List Exchange) (behind : List RunStep) (coming coming' : Coming) (disk : DiskState) (store : StoreView) (faults : ℕ) (after_disk : DiskState) (after : StoreView) (after_faults : ℕ) : Type 0 where
  pub steps : List TimedStep
  pub steps_are : AreStepsOf end session exchanges behind (steps_in steps)
  pub exchanges_are : exchanges ≡ exchanges_of steps
  pub given : GivenBy (moments_in steps) coming coming'
  pub endures : Endures limits next steps disk store faults after_disk after after_faults

-- The store's trees and pages were put right, step by step, each at its own answer of the clock.
pub record Settles (coming coming' : Coming) (disk : DiskState) (store : StoreView) (faults : ℕ) (after_disk : DiskState) (after : StoreView) (after_faults : ℕ) : Type 0 where
  pub steps : List TimedStep
  pub only_tends : AreTends (steps_in steps)
  pub none_asked : exchanges_of steps ≡ []
  pub given : GivenBy (moments_in steps) coming coming'
  pub endures : (limits : LimitsView) (session : ℕ) → Endures limits session steps disk store faults after_disk after after_faults
