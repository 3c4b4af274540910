use Rattle.std.proofs.Common.{◌≡◌, ◌++◌}
use Rattle.poom.specs.Pieces.{addresses_from}
use Rattle.poom.specs.Laid.{part_number}
use Rattle.poom.proofs.picked.push_addresses.Given as goal

abbrev pub invariant-loop-k : goal.invariant-loop-k
invariant-loop-k l = l.ids.items ≡ l.fn.ids.items ++ addresses_from (part_number l.fn.part) l.piece.document l.piece.first l.k
