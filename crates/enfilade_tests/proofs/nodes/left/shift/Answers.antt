use Rattle.std.proofs.Common.{map, ap}
use Rattle.enfilade_core.specs.Rows.{rows_of}
use Rattle.enfilade_core.specs.Plain.{plain_row}
use Rattle.enfilade_core.proofs.Parts.{rows-ordered}
use Rattle.enfilade_core.proofs.AskedEdits.{asked_shift}
use Rattle.enfilade_tests.proofs.nodes.left.shift.Goals as goal

pub shift-requires-clause-well_formed : goal.shift-requires-clause-well_formed
shift-requires-clause-well_formed g c =
    let w = g.P.Plane.widths in
    let nodes = c.args.arena.now in
    let old = rows_of nodes c.held-root.result.0 in
    let order = rows-ordered w nodes c.held-root.result.0 c.allocator.ensures.well_formed c.held-root.ensures in
    asked_shift w c.args.from.now c.args.to.now old (map (plain_row g.P.Plane.plain) c.new-none.result.items) c.copy.result c.copy-2.result c.copy-3.result c.copy.ensures c.copy-2.ensures c.copy-3.ensures (ap (map (plain_row g.P.Plane.plain)) c.new-none.ensures.items) order c.ask.ensures.well_formed
