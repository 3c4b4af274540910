use Rattle.std.proofs.Common.{take}
use Rattle.flat_rows.specs.Sets.{IsSetShowing}
use Rattle.flat_rows.proofs.finding.documents_showing.Given as goal

abbrev pub invariant-loop-row : goal.invariant-loop-row
invariant-loop-row l = IsSetShowing (take l.row-index l.rows) l.addresses l.shown
