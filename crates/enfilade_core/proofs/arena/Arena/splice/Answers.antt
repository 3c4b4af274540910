use Rattle.std.proofs.Common.{◌∙◌, sym, map}
use Rattle.tumbler.proofs.Order.{upto_itself}
use Rattle.enfilade_core.specs.Rows.{rows_of}
use Rattle.enfilade_core.specs.Plain.{plain_row}
use Rattle.enfilade_core.proofs.Parts.{rows-well_formed, rows-ordered}
use Rattle.enfilade_core.proofs.EditsAre.{put_is, splice_well_formed}
use Rattle.enfilade_core.proofs.arena.Arena.splice.Goals as goal

pub exchange-requires : goal.exchange-requires
exchange-requires g c =
    let w = g.P.Plane.widths in
    let old = rows_of c.args.self.now c.args.root.0 in
    let new = map (plain_row g.P.Plane.plain) c.args.rows.now.items in
    let well_formed = rows-well_formed w c.args.self.now c.args.root.0 c.nodes_are_well_formed.ensures c.requires.below in
    let order = rows-ordered w c.args.self.now c.args.root.0 c.nodes_are_well_formed.ensures c.requires.below in
    rw (c.copy.ensures, c.copy-2.ensures, c.copy-3.ensures) record {
      below = c.requires.below;
      up_to = upto_itself c.args.at.now;
      well_formed = splice_well_formed w c.args.at.now new old well_formed c.requires.well_formed order c.requires.ordered;
    }

pub returns-clause-rows : goal.returns-clause-rows
returns-clause-rows g c =
    let w = g.P.Plane.widths in
    let old = rows_of c.args.self.now c.args.root.0 in
    let new = map (plain_row g.P.Plane.plain) c.args.rows.now.items in
    let order = rows-ordered w c.args.self.now c.args.root.0 c.nodes_are_well_formed.ensures c.requires.below in
    c.in_ok-made.ensures.rows ∙ rw (c.copy.ensures, c.copy-2.ensures, c.copy-3.ensures) (sym (put_is c.args.at.now new old order))
