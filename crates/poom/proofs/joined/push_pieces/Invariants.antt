use Rattle.std.proofs.Common.{◌≡◌, ℕ, ◌++◌, take}
use Rattle.std.specs.List.{All}
use Rattle.poom.specs.Pieces.{IsPiece, laid}
use Rattle.poom.proofs.joined.push_pieces.Given as goal

abbrev pub invariant-loop-piece : goal.invariant-loop-piece
invariant-loop-piece l =
    record { so_far : (part : ℕ) → laid part l.pieces.items ≡ laid part l.fn.pieces.items ++ laid part (take l.piece-index l.more); each : All IsPiece l.pieces.items }
