-- What follows of a run from what it was given.
use Rattle.std.specs.Prelude.{◌≡◌, ◌⊎◌, ℕ, ◌+◌, ◌^◌, ◌<◌, List, [], length, Option, Some}
use Rattle.febe_data.specs.LimitsView.{LimitsView}
use Rattle.entry_codec.specs.Logged.{PlainLogged, entries_of}
use Rattle.febe_wire.specs.Sessions.{IsInput}
use Rattle.green_io.specs.Areas.{Areas}
use Rattle.green_io.specs.Outside.{HasRisen}
use Rattle.entry_fits.specs.Fits.{AllFit}
use Rattle.edit_log.specs.Images.{AsRead}
use Rattle.world_rules.specs.Legal.{Exchange}
use Rattle.green_store.specs.Opening.{ReadsRows, IsDamagedLog}
use Rattle.green_store.specs.Sessions.{greatest_session}
use Rattle.green_top.specs.declared.report.Report.{Report}
use Rattle.green_top.specs.Batch.{IsBatch, NothingOpened}
use Rattle.green_top.specs.Ends.{most_input}
use Rattle.green_top.specs.IoState.{IoState}
use Rattle.green_top.specs.Times.{TimedStep}
use Rattle.green_top.specs.Words.{AreWords, AreGenerateWords}

-- neither the source's count of faults rose, nor the sink's
pub record NoFaults (before after : IoState) : Type 0 where
  pub none_read : ¬ HasRisen before.source_faults after.source_faults
  pub none_written : ¬ HasRisen before.sink_faults after.sink_faults

-- The status is 0; or 9, for want of memory; or 7, for a disk that failed while its log was opened. So a disk that fails later
-- has no part in the status.
abbrev pub IsServed : IoState → IoState → ℕ → Type 0
IsServed before after status = (status ≡ 0) ⊎ (status ≡ 9) ⊎ ((status ≡ 7) × HasRisen before.disk_faults after.disk_faults)

-- a source tells that it has a whole session's input left, shorter than the budget
pub record HasSession (source : Option (List ℕ)) : Type 0 where
  pub input : List ℕ
  pub left : source ≡ Some input
  pub whole : IsInput input
  pub short : length input < most_input

-- a disk tells what its logged area reads: entries that fit one after another, with a number left for one more session
pub record HasLog (reads : Option Areas) : Type 0 where
  pub rows : List PlainLogged
  pub read : AsRead reads (ReadsRows rows)
  pub fit : AllFit [] (entries_of rows)
  pub number : greatest_session (entries_of rows) + 1 < 2 ^ 64

-- a disk tells what its logged area reads, and it is damaged, at this place
abbrev pub HasDamage : Option Areas → Type 0
HasDamage reads = (at : ℕ) × AsRead reads (IsDamagedLog at)

-- Over a damaged log no session is served: the status is 8, or an earlier cause ended the run, which is the words, the disk or
-- want of memory; and no history is reported.
abbrev pub DamageIsTold : Type 0
DamageIsTold = (words : List (List ℕ)) (reads left : Option Areas) (before after : IoState) (report : Report) (steps : List TimedStep) (exchanges : List Exchange) (status : ℕ)
    → HasDamage reads → IsBatch words reads left before after report steps exchanges status
    → NothingOpened words reads left before after report steps exchanges status

-- With words of a form of the program, a whole session's input, a log that is not damaged, a number left, and no fault of the
-- source or the sink, the session is served, unless memory ran out or the disk failed while the log was opened.
abbrev pub Completeness : Type 0
Completeness = (words : List (List ℕ)) (limits : LimitsView) (reads left : Option Areas) (before after : IoState) (report : Report) (steps : List TimedStep) (exchanges : List Exchange) (status : ℕ)
    → AreWords words limits → HasSession before.left → HasLog reads → NoFaults before after → IsBatch words reads left before after report steps exchanges status
    → IsServed before after status

-- With words that generate a session, a log that is not damaged, a number left, and no fault of the sink, the same.
abbrev pub GeneratedCompleteness : Type 0
GeneratedCompleteness = (words : List (List ℕ)) (start : ℕ) (reads left : Option Areas) (before after : IoState) (report : Report) (steps : List TimedStep) (exchanges : List Exchange) (status : ℕ)
    → AreGenerateWords words start → HasLog reads → ¬ HasRisen before.sink_faults after.sink_faults → IsBatch words reads left before after report steps exchanges status
    → IsServed before after status
