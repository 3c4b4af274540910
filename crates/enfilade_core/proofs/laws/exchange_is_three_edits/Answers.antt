use Rattle.enfilade_core.specs.Rows.{rows_of}
use Rattle.enfilade_core.proofs.Parts.{rows-well_formed, rows-ordered}
use Rattle.enfilade_core.proofs.EditsAre.{exchange_is_three}
use Rattle.enfilade_core.proofs.laws.exchange_is_three_edits.Goals as goal

pub returns : goal.returns
returns g c =
    let w = g.P.Plane.widths in
    exchange_is_three w (rows_of c.args.arena.now c.args.root.0) (rows-well_formed w c.args.arena.now c.args.root.0 c.nodes_are_well_formed.ensures c.requires)
    (rows-ordered w c.args.arena.now c.args.root.0 c.nodes_are_well_formed.ensures c.requires)
