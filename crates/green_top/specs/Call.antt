-- What one call of the top does, and what a crash leaves of it.
use Rattle.std.specs.Prelude.{◌≡◌, ℕ, ◌≤◌, List, IsSome}
use Rattle.febe_data.specs.Plain.{plain_history}
use Rattle.entry_codec.specs.Logged.{PlainLogged}
use Rattle.green_io.specs.Areas.{Areas}
use Rattle.green_io.specs.Disk.{DiskState, LeavesOnly, images_now}
use Rattle.edit_log.specs.Images.{AsRead}
use Rattle.edit_log.specs.Second.{HoldsWhole}
use Rattle.world_rules.specs.Legal.{Exchange}
use Rattle.green_top.specs.declared.report.Report.{Report}
use Rattle.green_top.specs.Batch.{IsBatch}
use Rattle.green_top.specs.Crash.{HoldsRun, HoldsAll}
use Rattle.green_top.specs.IoState.{IoState}
use Rattle.green_top.specs.Times.{Coming, GivenBy, TimedStep, moments_in, exchanges_of}

-- A call made these steps, each at its own answer of the clock, which was not asked for more, and answered requests in their
-- exchanges; and what a crash leaves of the log is told by the same steps: at any moment of the call, over a log that was whole
-- when it began, and once it has returned, where it had opened the log.
pub record IsCall (words : List (List ℕ)) (coming coming' : Coming) (disk disk' : DiskState) (before after : IoState) (report : Report) (status : ℕ) : Type 0 where
  pub steps : List TimedStep
  pub exchanges : List Exchange
  pub exchanges_are : exchanges ≡ exchanges_of steps
  pub given : GivenBy (moments_in steps) coming coming'
  pub batch : IsBatch words disk.reads disk'.reads before after report steps exchanges status
  pub any_moment : (rows : List PlainLogged) → AsRead disk.reads (HoldsWhole rows)
      → LeavesOnly disk disk' (HoldsRun words disk.reads rows (plain_history report.history.items) report.moments.items steps)
  pub kept : IsSome disk.reads → 1 ≤ report.opened → (image : Areas) → images_now disk' image
      → HoldsAll words report.opened (plain_history report.history.items) report.moments.items steps before.disk_faults after.disk_faults image
