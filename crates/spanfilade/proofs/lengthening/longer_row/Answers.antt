use Rattle.std.proofs.Common.{◌∙◌, sym}
use Rattle.enfilade_core.specs.Rows.{rows_of}
use Rattle.enfilade_core.specs.Plain.{found_row}
use Rattle.enfilade_core.specs.Planes.{key_widths}
use Rattle.enfilade_core.proofs.Parts.{rows-well_formed}
use Rattle.spanfilade.proofs.Longer.{last_fits, last_reaches, longer_is}
use Rattle.spanfilade.proofs.lengthening.longer_row.Goals as goal

pub add-end-requires : goal.add-end-requires
add-end-requires c =
    last_fits c.args.span.now.start (rows_of c.args.arena.now c.args.root.0) (found_row (λ width. width) c.in-Some.row) c.in-Some.ensures.found (rows-well_formed key_widths c.args.arena.now c.args.root.0 c.nodes_are_well_formed.ensures c.requires.below)

pub minus-width-requires : goal.minus-width-requires
minus-width-requires c =
    last_reaches c.args.span.now (rows_of c.args.arena.now c.args.root.0) (found_row (λ width. width) c.in-Some.row) c.add-end.result c.add.result c.later-to.result c.in-Some.ensures.found
    (rows-well_formed key_widths c.args.arena.now c.args.root.0 c.nodes_are_well_formed.ensures c.requires.below) c.add-end.ensures c.add.ensures c.later-to.ensures

pub returns : goal.returns
returns c =
    longer_is c.args.span.now c.args.key.now (rows_of c.args.arena.now c.args.root.0) (found_row (λ width. width) c.in-Some.row) c.add-end.result c.add.result c.later-to.result c.copy.result c.copy-2.result c.minus-width.result c.in-Some.ensures.found
    (rows-well_formed key_widths c.args.arena.now c.args.root.0 c.nodes_are_well_formed.ensures c.requires.below) c.add-end.ensures c.add.ensures c.later-to.ensures c.is_tumbler.ensures (sym c.ne.ensures ∙ c.if-ne.false) (c.is_reached.ensures.up_to c.if-not-is_reached.false) (c.is_reached.ensures.inside c.if-not-is_reached.false)
    c.copy.ensures c.copy-2.ensures c.minus-width.ensures
