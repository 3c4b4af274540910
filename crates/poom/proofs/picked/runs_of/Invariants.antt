use Rattle.std.proofs.Common.{◌≡◌, ◌+◌, take, map, length}
use Rattle.poom.specs.Edited.{piece_run}
use Rattle.poom.proofs.picked.runs_of.Given as goal

abbrev pub invariant-loop-piece : goal.invariant-loop-piece
invariant-loop-piece l = record { so_far : l.runs.items ≡ map (piece_run l.document) (take l.piece-index l.pieces); room : l.runs.spare + l.piece-index ≡ length l.pieces }
