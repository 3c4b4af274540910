use Rattle.std.proofs.Common.{refl}
use Rattle.poom.proofs.Puts.{head_in}
use Rattle.poom.proofs.put.head.Goals as goal

pub returns : goal.returns
returns c =
    rw (c.front_of.ensures)
    (head_in c.args.part c.args.poom.now c.args.root.0 c.args.n c.in-Some.at.start c.in-Some.at.piece c.requires.document c.in-Some.ensures.found c.requires.to_end c.in-Some.at.piece.document refl)
