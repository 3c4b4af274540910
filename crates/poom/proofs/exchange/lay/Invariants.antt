use Rattle.std.proofs.Common.{◌≡◌, ◌+◌, take, length}
use Rattle.poom.specs.Pieces.{total, rows_from}
use Rattle.poom.specs.Laid.{part_number}
use Rattle.poom.proofs.exchange.lay.Given as goal

abbrev pub invariant-loop-piece : goal.invariant-loop-piece
invariant-loop-piece l =
    record { rows : l.rows.items ≡ rows_from (part_number l.fn.part) l.fn.from (take l.piece-index l.pieces); n : l.n ≡ l.fn.from + total (take l.piece-index l.pieces); room : l.rows.spare + l.piece-index ≡ length l.pieces }
