-- What one call of the top does.
use Rattle.std.specs.Prelude.{◌≡◌, ◌≢◌, ◌⊎◌, ℕ, List, [], ◌++◌, length, Option}
use Rattle.febe_data.specs.LimitsView.{LimitsView}
use Rattle.febe_data.specs.Plain.{PlainEntry, plain_history}
use Rattle.entry_codec.specs.Logged.{PlainLogged, entries_of, moments_of}
use Rattle.green_io.specs.Areas.{Areas}
use Rattle.green_io.specs.Disk.{WhereTold}
use Rattle.green_io.specs.Outside.{HasRisen}
use Rattle.world_rules.specs.History.{durable_entries}
use Rattle.world_rules.specs.Legal.{Exchange}
use Rattle.green_store.specs.declared.opening.OpenFault.{OpenFault}
use Rattle.green_store.specs.declared.opening.OpenFault.TheVariants as faults
use Rattle.green_store.specs.Opening.{IsOpenedFrom, IsDamagedLog, LeavesMisspelled, ReadsAsBefore, opened_with}
use Rattle.green_top.specs.declared.report.Report.{Report}
use Rattle.green_top.specs.declared.session_end.SessionEnd.{SessionEnd}
use Rattle.green_top.specs.declared.session_end.SessionEnd.TheVariants as ends
use Rattle.green_top.specs.GeneratedRun.{IsGeneratedRun, inner_end}
use Rattle.green_top.specs.IoState.{IoState, with_disk_faults}
use Rattle.green_top.specs.Outcome.{IsRun, HasServedAlone}
use Rattle.green_top.specs.Times.{RunStep, TimedStep, steps_in, moments_kept, AreStepsOf, AreTends}
use Rattle.green_top.specs.Words.{AreWords, AreGenerateWords, AreNoWords, HasLimits}

-- the status of a run whose session ended so
abbrev pub status_of : SessionEnd → ℕ
status_of ends.Quit = 0
status_of ends.End = 0
status_of (ends.Malformed at) = 3
status_of (ends.Truncated at) = 4
status_of ends.ReadFault = 5
status_of ends.WriteFault = 6
status_of ends.Memory = 9
status_of ends.Budget = 10
status_of ends.NoNumber = 11

-- the offset in the input that a status names, or 0
abbrev pub place_of : SessionEnd → ℕ
place_of (ends.Malformed at) = at
place_of (ends.Truncated at) = at
place_of other = 0

-- the status of a run whose store was not opened, for this fault
abbrev pub fault_status : OpenFault → ℕ
fault_status (faults.Damaged at) = 8
fault_status faults.Disk = 7
fault_status faults.Memory = 9

-- the offset in the logged area that it names, or 0
abbrev pub fault_place : OpenFault → ℕ
fault_place (faults.Damaged at) = at
fault_place other = 0

-- Why a store was not opened on what the areas read when the call began: the log is damaged at the place; or the disk failed;
-- or there was no memory. Unless the disk failed, the logged area has the entries that it had, with their moments, though a log of
-- before may have moved; and where no body, or one too many, stands behind the gate at the place, nothing has changed at all.
abbrev pub FaultCause : OpenFault → Option Areas → Option Areas → IoState → IoState → Type 0
FaultCause (faults.Damaged at) reads left before after = WhereTold reads (IsDamagedLog at) × ReadsAsBefore reads left × LeavesMisspelled at reads left
FaultCause faults.Disk reads left before after = HasRisen before.disk_faults after.disk_faults
FaultCause faults.Memory reads left before after = ReadsAsBefore reads left

-- the words are no form of the program: the status is 2, and the disk had no fault
pub record IsUsage (words : List (List ℕ)) (before after : IoState) (place status : ℕ) : Type 0 where
  pub wrong : AreNoWords words
  pub status_is : status ≡ 2
  pub place_is : place ≡ 0
  pub disk_stays : after.disk_faults ≡ before.disk_faults

-- the words are a form of the program, but the store was not opened: the status and the place tell why
pub record IsNotOpened (words : List (List ℕ)) (reads left : Option Areas) (before after : IoState) (place status : ℕ) : Type 0 where
  pub limits : LimitsView
  pub words_are : HasLimits words limits
  pub fault : OpenFault
  pub cause : FaultCause fault reads left before after
  pub status_is : status ≡ fault_status fault
  pub place_is : place ≡ fault_place fault

-- no step was made, and nothing was read from the source or written to the sink
pub record NothingOpened (words : List (List ℕ)) (reads left : Option Areas) (before after : IoState) (report : Report) (steps : List TimedStep) (exchanges : List Exchange) (status : ℕ) : Type 0 where
  pub why : IsUsage words before after report.place status ⊎ IsNotOpened words reads left before after report.place status
  pub stays : after ≡ with_disk_faults before after.disk_faults
  pub history_is : report.history.items ≡ []
  pub moments_are : report.moments.items ≡ []
  pub opened_is : report.opened ≡ 0
  pub no_steps : steps ≡ []
  pub none_answered : exchanges ≡ []
  pub no_points : report.points.items ≡ []
  pub counted : report.bytes_read ≡ 0

-- The moments that are reported are one for each kept entry of the history, in order: those of the entries that were opened, as
-- they were logged, and then for each kept entry that these steps made the moment of its step.
pub record AreMoments (opened : List ℕ) (steps : List TimedStep) (report : Report) : Type 0 where
  pub moments_are : report.moments.items ≡ opened ++ moments_kept steps
  pub for_each : length report.moments.items ≡ length (durable_entries (plain_history report.history.items))

-- A back end opened with the entries of the log as it was read and a restart, under the limits of the words, and its session,
-- which it served alone by these steps, ended so.
pub record Opened (words : List (List ℕ)) (reads : Option Areas) (before after : IoState) (report : Report) (steps : List TimedStep) (exchanges : List Exchange) (status : ℕ) : Type 0 where
  pub limits : LimitsView
  pub opened : List PlainEntry
  pub moments : List ℕ
  pub session : ℕ
  pub end : SessionEnd
  pub words_are : AreWords words limits
  pub from : IsOpenedFrom reads opened moments
  pub status_is : status ≡ status_of end
  pub place_is : report.place ≡ place_of end
  pub opened_is : report.opened ≡ length opened
  pub run : IsRun limits session before after (plain_history report.history.items) exchanges report.points.items report.bytes_read end
  pub alone : HasServedAlone opened session (plain_history report.history.items) exchanges before.disk_faults after.disk_faults
  pub steps_are : AreStepsOf end session exchanges [] (steps_in steps)
  pub are_moments : AreMoments moments steps report

-- A back end opened so under the standard limits, and the session that the words' start generates, which it served alone, ended so.
-- Then its trees and pages were put right, step by step. No byte of the source was read.
pub record OpenedGenerated (words : List (List ℕ)) (reads : Option Areas) (before after : IoState) (report : Report) (steps : List TimedStep) (exchanges : List Exchange) (status : ℕ) : Type 0 where
  pub start : ℕ
  pub opened : List PlainEntry
  pub moments : List ℕ
  pub session : ℕ
  pub end : SessionEnd
  pub behind : List RunStep
  pub words_are : AreGenerateWords words start
  pub from : IsOpenedFrom reads opened moments
  pub status_is : status ≡ status_of end
  pub place_is : report.place ≡ 0
  pub opened_is : report.opened ≡ length opened
  pub counted : report.bytes_read ≡ 0
  pub run : IsGeneratedRun start session before after (plain_history report.history.items) exchanges report.points.items end
  pub alone : HasServedAlone opened session (plain_history report.history.items) exchanges before.disk_faults after.disk_faults
  pub put_right : AreTends behind
  pub steps_are : AreStepsOf (inner_end end) session exchanges behind (steps_in steps)
  pub are_moments : AreMoments moments steps report

-- A call from this source, sink and disk to those left the report, made these steps, answered requests in these exchanges, and then
-- the status. The areas of the disk read this before, and that after, where it tells that.
abbrev pub IsBatch : List (List ℕ) → Option Areas → Option Areas → IoState → IoState → Report → List TimedStep → List Exchange → ℕ → Type 0
IsBatch words reads left before after report steps exchanges status =
    NothingOpened words reads left before after report steps exchanges status
    ⊎ Opened words reads before after report steps exchanges status ⊎ OpenedGenerated words reads before after report steps exchanges status

-- The history is these entries and a restart, and then what came behind them; and so are the moments these entries' own, and then
-- others.
abbrev pub GoesOnWith : List PlainLogged → Report → Type 0
GoesOnWith rows report =
    ((own : List PlainEntry) × (plain_history report.history.items ≡ opened_with (entries_of rows) ++ own))
    × ((own : List ℕ) × (report.moments.items ≡ moments_of rows ++ own))

-- The log was not told to be damaged, and no entry of it is lost, nor its moment, unless nothing was opened.
pub record BeginsWith (rows : List PlainLogged) (report : Report) (status : ℕ) : Type 0 where
  pub not_damaged : status ≢ 8
  pub history_is : (plain_history report.history.items ≡ []) ⊎ GoesOnWith rows report
