use Rattle.std.proofs.Common.{◌≡◌, ◌++◌, map, rules, sym, subst}
use Rattle.std.specs.Prelude.{OnOk}
use Rattle.tumbler.proofs.SumOrder.{fits_if_tumbler}
use Rattle.enfilade_core.specs.Rows.{node_at}
use Rattle.enfilade_core.specs.Plain.{plain_row}
use Rattle.enfilade_core.specs.Planes.{content_widths, plain_text}
use Rattle.enfilade_search.proofs.Children.{child_at, bottom_fits, node_rows, node_branches}
use Rattle.granfilade.specs.Content.{laid_out, bytes_in}
use Rattle.granfilade.proofs.ReadBytes.{extent_fits, child-past, child-before, children-all, children-end}
use Rattle.granfilade.proofs.reading.+below.Goals as goal

pub append_child-add-first-requires : goal.append_child-add-first-requires
append_child-add-first-requires t c = fits_if_tumbler c.args.first.now c.args.child.now.first c.requires.fits.first_origin

pub append_child-returns-then-not-is_before-clause-ok : goal.append_child-returns-then-not-is_before-clause-ok
append_child-returns-then-not-is_before-clause-ok t c =
    child-past c.args.span.now c.args.arena.now c.args.child.now c.args.first.now c.args.second.now c.add-first.result c.args.end.now c.args.into.now.items c.is_before.result c.requires.start c.nodes_are_well_formed.ensures c.requires.fits c.add-first.ensures
    c.requires.end c.is_before.ensures.value c.if-not-is_before.true

pub append_child-add-requires : goal.append_child-add-requires
append_child-add-requires t c = extent_fits c.args.arena.now c.args.child.now c.args.first.now c.args.second.now c.add-first.result c.nodes_are_well_formed.ensures c.requires.fits c.add-first.ensures

pub append_child-returns-then-is_before-clause-ok : goal.append_child-returns-then-is_before-clause-ok
append_child-returns-then-is_before-clause-ok t c =
    child-before c.args.span.now c.args.arena.now c.args.child.now c.args.first.now c.args.second.now c.add-first.result c.add.result c.args.into.now.items c.is_before-2.result c.requires.start c.nodes_are_well_formed.ensures c.requires.fits c.add-first.ensures
    c.add.ensures c.is_before-2.ensures.value c.if-is_before.true

pub append_child-add-second-requires : goal.append_child-add-second-requires
append_child-add-second-requires t c = fits_if_tumbler c.args.second.now c.args.child.now.second c.requires.fits.second_origin

pub append_node-append_rows-requires-clause-well_formed : goal.append_node-append_rows-requires-clause-well_formed
append_node-append_rows-requires-clause-well_formed t c =
    let nodes = c.args.arena.now in
    let slice = c.as_slice.result.now in
    let is = node_rows plain_text c.node.result.now (node_at nodes c.args.node.0) c.in-Bottom.rows slice c.node.ensures c.in-Bottom.is c.as_slice.ensures in
    (bottom_fits content_widths nodes c.args.node.0 c.args.first.now c.args.second.now (map (plain_row plain_text) slice) c.nodes_are_well_formed.ensures is c.requires.fits).there

pub append_node-append_rows-requires-clause-ordered : goal.append_node-append_rows-requires-clause-ordered
append_node-append_rows-requires-clause-ordered t c =
    let nodes = c.args.arena.now in
    let slice = c.as_slice.result.now in
    let is = node_rows plain_text c.node.result.now (node_at nodes c.args.node.0) c.in-Bottom.rows slice c.node.ensures c.in-Bottom.is c.as_slice.ensures in
    (bottom_fits content_widths nodes c.args.node.0 c.args.first.now c.args.second.now (map (plain_row plain_text) slice) c.nodes_are_well_formed.ensures is c.requires.fits).ordered

pub append_node-append_child-requires : goal.append_node-append_child-requires
append_node-append_child-requires t c =
    let nodes = c.args.arena.now in
    let slice = c.as_slice-children.result.now in
    let is = node_branches plain_text c.node.result.now (node_at nodes c.args.node.0) c.in-Inner.branches slice c.node.ensures c.in-Inner.is c.as_slice-children.ensures in
    let it = child_at content_widths nodes c.args.node.0 c.args.first.now c.args.second.now slice c.loop-child.child-index c.child-item.result c.nodes_are_well_formed.ensures is c.requires.fits c.loop-child-test.true c.child-item.is in
    let fits = it.fits in
    let lesser = it.lesser in
    search rules

pub append_node-returns-then-not-branch-clause-ok : goal.append_node-returns-then-not-branch-clause-ok
append_node-returns-then-not-branch-clause-ok t c =
    let nodes = c.args.arena.now in
    let slice = c.as_slice-children.result.now in
    let is = node_branches plain_text c.node.result.now (node_at nodes c.args.node.0) c.in-Inner.branches slice c.node.ensures c.in-Inner.is c.as_slice-children.ensures in
    let it = child_at content_widths nodes c.args.node.0 c.args.first.now c.args.second.now slice c.loop-child.child-index c.child-item.result c.nodes_are_well_formed.ensures is c.requires.fits c.loop-child-test.true c.child-item.is in
    children-end c.args.span.now nodes c.args.node.0 c.args.first.now c.args.second.now slice c.loop-child.child-index c.child-item.result c.args.into.now.items c.loop-child.into.items c.append_child.new.into.items c.in_ok-append_child-in-Inner.field-0 c.requires.start
    c.nodes_are_well_formed.ensures c.requires.fits is it.fits c.loop-child-test.true c.child-item.is c.in_ok-append_child-in-Inner.ensures.goes_on c.if-not-branch.true c.loop-child.invariant c.in_ok-append_child-in-Inner.ensures.ok

pub append_node-returns-in-Bottom-clause-ok : goal.append_node-returns-in-Bottom-clause-ok
append_node-returns-in-Bottom-clause-ok t c =
    let nodes = c.args.arena.now in
    let slice = c.as_slice.result.now in
    let is = node_rows plain_text c.node.result.now (node_at nodes c.args.node.0) c.in-Bottom.rows slice c.node.ensures c.in-Bottom.is c.as_slice.ensures in
    let fits = bottom_fits content_widths nodes c.args.node.0 c.args.first.now c.args.second.now (map (plain_row plain_text) slice) c.nodes_are_well_formed.ensures is c.requires.fits in
    subst (λ rows. OnOk c.append_rows.result (c.append_rows.new.into.items ≡ c.args.into.now.items ++ bytes_in c.args.span.now (laid_out rows))) (sym fits.from_here) c.append_rows.ensures.ok

pub append_node-returns-after-loop-child-clause-ok : goal.append_node-returns-after-loop-child-clause-ok
append_node-returns-after-loop-child-clause-ok t c =
    let nodes = c.args.arena.now in
    let slice = c.as_slice-children.result.now in
    let is = node_branches plain_text c.node.result.now (node_at nodes c.args.node.0) c.in-Inner.branches slice c.node.ensures c.in-Inner.is c.as_slice-children.ensures in
    children-all c.args.span.now nodes c.args.node.0 c.args.first.now c.args.second.now slice c.loop-child.child-index c.args.into.now.items c.loop-child.into.items c.nodes_are_well_formed.ensures c.requires.fits.there is c.loop-child-test.false c.loop-child.invariant
