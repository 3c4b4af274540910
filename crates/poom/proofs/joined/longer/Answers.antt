use Rattle.std.proofs.Common.{arith, refl, length}
use Rattle.poom.proofs.Joins.{lengthens}
use Rattle.poom.proofs.joined.longer.Goals as goal

pub returns-clause-some : goal.returns-clause-some
returns-clause-some c =
    lengthens c.args.pieces.now (length c.args.pieces.now) c.index-pieces-n.result c.args.piece.now c.copy.result refl (λ z. absurd (omega (arith, c.if-n-eq0.false, z))) c.index-pieces-n.is c.copy.ensures (c.if-not-continues.ensures.0 refl) c.requires.each c.requires.piece
