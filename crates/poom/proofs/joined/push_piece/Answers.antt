use Rattle.std.proofs.Common.{List, subst}
use Rattle.poom.specs.declared.piece.Piece.{Piece}
use Rattle.poom.specs.Cuts.{Lengthens}
use Rattle.poom.proofs.Joins.{pushed_pieces, longer_pieces}
use Rattle.poom.proofs.joined.push_piece.Goals as goal

pub returns-in_default-clause-each : goal.returns-in_default-clause-each
returns-in_default-clause-each c = pushed_pieces c.args.pieces.now.items _ c.args.piece c.in_ok-push.ensures.ok c.requires.each c.requires.piece

pub returns-clause-each : goal.returns-clause-each
returns-clause-each c =
    longer_pieces c.args.pieces.now.items _ _ c.len-n.result c.args.piece c.in-Some.longer (subst (λ (pieces : List Piece). Lengthens pieces c.args.piece c.in-Some.longer) c.as_slice.ensures c.in-Some.ensures.some)
    c.truncate.ensures.items c.in_ok-push-2.ensures.ok c.requires.each
