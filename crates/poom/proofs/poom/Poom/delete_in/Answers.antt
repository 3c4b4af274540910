use Rattle.std.proofs.Common.{arith}
use Rattle.enfilade_core.specs.Rows.{rows_of}
use Rattle.poom.specs.Laid.{part_number, standing_in}
use Rattle.poom.proofs.Deletes.{all_left, left_between}
use Rattle.poom.proofs.poom.Poom.delete_in.Goals as goal

pub returns-then-to-from-clause-here : goal.returns-then-to-from-clause-here
returns-then-to-from-clause-here c =
    all_left (part_number c.args.part) c.bound-from.result c.bound-to.result c.args.span.now c.add.result c.length_of-length.result (standing_in c.args.part (rows_of c.args.self.now c.args.root.0)) c.add.ensures c.bound-from.ensures c.bound-to.ensures c.length_of-length.ensures c.if-to-from.true

pub returns-clause-here : goal.returns-clause-here
returns-clause-here c =
    left_between (part_number c.args.part) c.bound-from.result c.bound-to.result c.args.span.now c.add.result c.length_of-length.result (standing_in c.args.part (rows_of c.args.self.now c.args.root.0)) _ c.add.ensures c.bound-from.ensures c.bound-to.ensures c.length_of-length.ensures (omega (arith, c.if-to-from.false)) c.in_ok-made.ensures.here
