use Rattle.std.proofs.Common.{◌-◌, map, ◌∙◌, sym, arith}
use Rattle.std.proofs.lemmas.Option.{IfSome_then}
use Rattle.tumbler.proofs.Before.{up_to_if_false}
use Rattle.enfilade_core.specs.Rows.{node_at}
use Rattle.enfilade_core.specs.Plain.{plain_row}
use Rattle.enfilade_core.specs.Planes.{plain_text}
use Rattle.enfilade_search.proofs.Children.{node_rows, node_branches}
use Rattle.granfilade.proofs.WholeRows.{whole-rows, whole-child}
use Rattle.granfilade.proofs.whole.+below.Goals as goal

pub minus-requires : goal.minus-requires
minus-requires t c = up_to_if_false c.args.start.now c.index-children-many.result.first (sym c.is_before.ensures.value ∙ c.if-is_before.false)

pub returns-in-Bottom : goal.returns-in-Bottom
returns-in-Bottom t c =
    let nodes = c.args.arena.now in
    let slice = c.as_slice.result.now in
    let is = node_rows plain_text c.node.result.now (node_at nodes c.args.node.0) c.in-Bottom.rows slice c.node.ensures c.in-Bottom.is c.as_slice.ensures in
    IfSome_then c.in_rows.result c.in_rows.ensures (λ bytes h. whole-rows nodes c.args.node.0 (map (plain_row plain_text) slice) c.args.start.now c.args.count bytes.now c.allocator-well_formed.ensures.well_formed c.requires is h)

pub returns-else-is_before : goal.returns-else-is_before
returns-else-is_before t c =
    let nodes = c.args.arena.now in
    let slice = c.as_slice-children.result.now in
    let is = node_branches plain_text c.node.result.now (node_at nodes c.args.node.0) c.in-Inner.branches slice c.node.ensures c.in-Inner.is c.as_slice-children.ensures in
    IfSome_then c.below.result c.below.ensures (λ bytes h. whole-child nodes c.args.node.0 (c.partition_point-many.result - 1) slice c.index-children-many.result c.args.start.now c.minus.result c.args.count bytes.now c.allocator-well_formed.ensures.well_formed c.requires is
    (omega (arith, c.if-many-eq0.false, c.partition_point-many.ensures.bound)) c.index-children-many.is (up_to_if_false c.args.start.now c.index-children-many.result.first (sym c.is_before.ensures.value ∙ c.if-is_before.false)) c.minus.ensures h)
