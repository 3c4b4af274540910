use Rattle.std.proofs.Common.{◌≡◌, take}
use Rattle.std.specs.List.{All}
use Rattle.poom.specs.Cuts.{AreApart}
use Rattle.poom.specs.Laid.{part_number}
use Rattle.poom.specs.Pieces.{IsPiece, laid}
use Rattle.poom.specs.Positions.{laid_between}
use Rattle.poom.proofs.between.clips.Given as goal

abbrev pub invariant-loop-row : goal.invariant-loop-row
invariant-loop-row l =
    record { laid_so_far : laid (part_number l.fn.part) l.pieces.items ≡ laid_between (part_number l.fn.part) l.fn.from l.fn.to (take l.row-index l.rows); each : All IsPiece l.pieces.items; apart : AreApart l.pieces.items }
