-- The entries so far stand behind the gate, and end at `at`.
use Rattle.std.proofs.Common.{◌≡◌, ◌≤◌, List, ℕ, [], length, take}
use Rattle.entry_codec.specs.Logged.{plain_log}
use Rattle.entry_codec.specs.declared.format.LogFormat.TheVariants.{New}
use Rattle.green_io.specs.Areas.{is_same}
use Rattle.green_io.specs.declared.disk.Area.TheVariants as area
use Rattle.green_io.specs.Disk.{LeavesOnly, LeavesBut}
use Rattle.edit_log.specs.Log.{gated}
use Rattle.edit_log.specs.Second.{front_of}
use Rattle.edit_log.specs.inside.Migration.{BeginsShut, Beside, ImagesHave, IsWriting}
use Rattle.edit_log.proofs.migrating.write_rows.Given as goal

abbrev pub invariant-loop-row : goal.invariant-loop-row
invariant-loop-row g l = record {
  at_end : l.at ≡ length (front_of (plain_log (take l.row-index l.rows)));
  leaves : (log : List ℕ) → ImagesHave (g.D.Disk.state l.initial.disk) (Beside log BeginsShut) → LeavesOnly (g.D.Disk.state l.initial.disk) (g.D.Disk.state l.disk) (Beside log BeginsShut);
  written : (log : List ℕ) → IsWriting (g.D.Disk.state l.initial.disk) log [] → IsWriting (g.D.Disk.state l.disk) log (gated New (plain_log (take l.row-index l.rows)));
  others : LeavesBut (is_same area.Second) (g.D.Disk.state l.initial.disk) (g.D.Disk.state l.disk);
  faults : g.D.Disk.fault_count l.initial.disk ≤ g.D.Disk.fault_count l.disk;
}
