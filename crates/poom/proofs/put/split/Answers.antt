use Rattle.std.proofs.Common.{refl}
use Rattle.poom.proofs.Puts.{tail_in}
use Rattle.poom.proofs.put.split.Goals as goal

pub returns-clause-tail : goal.returns-clause-tail
returns-clause-tail c =
    rw (c.rest_of.ensures)
    (tail_in c.args.part c.args.poom.now c.args.root.0 c.args.n c.in-Some.at.start c.in-Some.at.piece c.requires.document c.in-Some.ensures.found c.requires.to_end c.if-before-at.false c.in-Some.at.piece.document refl)
