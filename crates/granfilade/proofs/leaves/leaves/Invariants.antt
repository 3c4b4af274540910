use Rattle.std.proofs.Common.{◌≤◌, ◌-◌, length, take, map}
use Rattle.enfilade_core.specs.Plain.{plain_row}
use Rattle.enfilade_core.specs.Planes.{plain_text}
use Rattle.granfilade.specs.Leaves.{AreLeaves}
use Rattle.granfilade.proofs.leaves.leaves.Given as goal

abbrev pub invariant-loop-done : goal.invariant-loop-done
invariant-loop-done l = (l.done ≤ length l.bytes) × AreLeaves l.start (take l.done l.bytes) (map (plain_row plain_text) l.rows.items)

abbrev pub decreases-loop-done : goal.decreases-loop-done
decreases-loop-done l = length l.bytes - l.done
