use Rattle.std.proofs.Common.{take}
use Rattle.poom.specs.Laid.{part_number}
use Rattle.poom.specs.Positions.{IsInterval, shown_by_all, StandFor}
use Rattle.poom.proofs.shown.show.Given as goal

abbrev pub invariant-loop-row : goal.invariant-loop-row
invariant-loop-row l =
    record { stand : StandFor (part_number l.fn.part) l.fn.spans.items (shown_by_all (part_number l.fn.part) l.fn.span (take l.row-index l.rows)) l.spans.items l.held; well_formed : IsInterval l.held }
