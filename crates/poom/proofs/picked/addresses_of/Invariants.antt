use Rattle.std.proofs.Common.{◌≡◌, take}
use Rattle.poom.specs.Pieces.{laid}
use Rattle.poom.specs.Laid.{part_number}
use Rattle.poom.proofs.picked.addresses_of.Given as goal

abbrev pub invariant-loop-piece : goal.invariant-loop-piece
invariant-loop-piece l = l.ids.items ≡ laid (part_number l.fn.part) (take l.piece-index l.pieces)
