use Rattle.std.proofs.Common.{◌≡◌, ◌+◌, take, length}
use Rattle.std.specs.List.{All}
use Rattle.poom.specs.Pieces.{IsPiece, laid}
use Rattle.poom.specs.Edited.{run_addresses}
use Rattle.poom.proofs.edits.run_pieces.Given as goal

abbrev pub invariant-loop-run : goal.invariant-loop-run
invariant-loop-run l =
    record { laid_so_far : laid 1 l.pieces.items ≡ run_addresses (take l.run-index l.runs); each : All IsPiece l.pieces.items; room : l.pieces.spare + l.run-index ≡ length l.runs }
