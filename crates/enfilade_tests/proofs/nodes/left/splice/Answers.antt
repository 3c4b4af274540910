use Rattle.std.proofs.Common.{map}
use Rattle.enfilade_core.specs.Rows.{rows_of}
use Rattle.enfilade_core.specs.Plain.{plain_row}
use Rattle.enfilade_core.proofs.Parts.{rows-ordered}
use Rattle.enfilade_core.proofs.AskedEdits.{asked_rows, asked_splice}
use Rattle.enfilade_tests.proofs.nodes.left.splice.Goals as goal

pub splice-requires-clause-well_formed : goal.splice-requires-clause-well_formed
splice-requires-clause-well_formed g c =
    let old = rows_of c.args.arena.now c.held-root.result.0 in
    let new = map (plain_row g.P.Plane.plain) c.args.rows.now.items in
    asked_rows g.P.Plane.widths c.args.at.now new old c.copy.result c.copy-2.result c.copy-3.result c.copy.ensures c.copy-2.ensures c.copy-3.ensures c.ask.ensures.well_formed

pub splice-requires-clause-ordered : goal.splice-requires-clause-ordered
splice-requires-clause-ordered g c =
    let nodes = c.args.arena.now in
    let old = rows_of nodes c.held-root.result.0 in
    let new = map (plain_row g.P.Plane.plain) c.args.rows.now.items in
    let order = rows-ordered g.P.Plane.widths nodes c.held-root.result.0 c.allocator-right.ensures.well_formed c.held-root.ensures in
    asked_splice g.P.Plane.widths c.args.at.now new old c.copy.result c.copy-2.result c.copy-3.result c.copy.ensures c.copy-2.ensures c.copy-3.ensures order c.ask.ensures.well_formed
