use Rattle.enfilade_core.specs.Rows.{rows_of}
use Rattle.poom.specs.Laid.{part_number, standing_in}
use Rattle.poom.proofs.Picks.{picked_between, none_picked}
use Rattle.poom.proofs.poom.Poom.pieces_of_span.Goals as goal

pub returns-then-to-from-clause-laid : goal.returns-then-to-from-clause-laid
returns-then-to-from-clause-laid c =
    none_picked (part_number c.args.part) c.bound-from.result c.bound-to.result c.args.span.now c.add.result c.length_of-length.result (standing_in c.args.part (rows_of c.args.self.now c.args.root.0)) c.new.result.items c.add.ensures c.bound-from.ensures c.bound-to.ensures c.length_of-length.ensures c.if-to-from.true c.new.ensures.items

pub returns-clause-laid : goal.returns-clause-laid
returns-clause-laid c =
    picked_between (part_number c.args.part) c.bound-from.result c.bound-to.result c.args.span.now c.add.result c.length_of-length.result (standing_in c.args.part (rows_of c.args.self.now c.args.root.0)) _ c.add.ensures c.bound-from.ensures c.bound-to.ensures c.length_of-length.ensures c.in_ok-pieces.ensures.laid
