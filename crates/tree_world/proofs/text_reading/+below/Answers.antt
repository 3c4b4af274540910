use Rattle.std.proofs.Common.{◌≡◌, ℕ, List, ◌++◌, map, rules, ap, ◌∙◌, sym, subst}
use Rattle.std.specs.Prelude.{OnOk}
use Rattle.std.specs.List.{All}
use Rattle.tumbler.proofs.SumOrder.{fits_if_tumbler}
use Rattle.enfilade_core.specs.declared.tree.Row.{Row}
use Rattle.enfilade_core.specs.Rows.{moved, node_at}
use Rattle.enfilade_core.specs.Axes.{IsWellFormedRow}
use Rattle.enfilade_core.specs.Plain.{plain_row}
use Rattle.enfilade_core.specs.Planes.{text_widths}
use Rattle.enfilade_search.proofs.Children.{child_rows, child_at, bottom_fits, node_rows, node_branches}
use Rattle.granfilade.specs.Content.{content}
use Rattle.poom.specs.Positions.{IsPieceRow}
use Rattle.poom.proofs.Showing.{plain_rows}
use Rattle.tree_world.specs.inside.Wanted.{bytes_between}
use Rattle.tree_world.proofs.TextRead.{text_extent_fits, child_late, child_early, child_item, child_read_next, children_read_all}
use Rattle.tree_world.proofs.text_reading.+below.Goals as goal

pub append_child-add-first-requires : goal.append_child-add-first-requires
append_child-add-first-requires t c = fits_if_tumbler c.args.first.now c.args.child.now.first c.requires.fits.first_origin

pub append_child-returns-then-not-is_before : goal.append_child-returns-then-not-is_before
append_child-returns-then-not-is_before t c =
    child_late (content c.args.contents.now) c.args.wanted.now.from c.args.wanted.now.to c.args.arena.now c.args.child.now c.args.first.now c.args.second.now c.add-first.result c.args.wanted.now.end c.args.into.now.items c.is_before.result
    c.allocator-alloc.ensures.well_formed c.requires.fits c.requires.pieces c.add-first.ensures c.requires.wanted.end c.is_before.ensures.value c.if-not-is_before.true

pub append_child-add-requires : goal.append_child-add-requires
append_child-add-requires t c = text_extent_fits c.args.arena.now c.args.child.now c.args.first.now c.args.second.now c.add-first.result c.allocator-alloc.ensures.well_formed c.requires.fits c.add-first.ensures

pub append_child-returns-then-not-is_before-2 : goal.append_child-returns-then-not-is_before-2
append_child-returns-then-not-is_before-2 t c =
    child_early (content c.args.contents.now) c.args.wanted.now.from c.args.wanted.now.to c.args.arena.now c.args.child.now c.args.first.now c.args.second.now c.add-first.result c.add.result c.args.wanted.now.start c.args.into.now.items c.is_before-2.result
    c.allocator-alloc.ensures.well_formed c.requires.fits c.requires.pieces c.add-first.ensures c.add.ensures c.requires.wanted.start c.is_before-2.ensures.value c.if-not-is_before-2.true

pub append_child-add-second-requires : goal.append_child-add-second-requires
append_child-add-second-requires t c = fits_if_tumbler c.args.second.now c.args.child.now.second c.requires.fits.second_origin

pub append_node-append_rows-requires-clause-fit : goal.append_node-append_rows-requires-clause-fit
append_node-append_rows-requires-clause-fit t c =
    let nodes = c.args.arena.now in
    let slice = c.as_slice.result.now in
    let is = node_rows (λ (n : ℕ). n) c.node.result.now (node_at nodes c.args.node.0) c.in-Bottom.rows slice c.node.ensures c.in-Bottom.is c.as_slice.ensures in
    let fits = bottom_fits text_widths nodes c.args.node.0 c.args.first.now c.args.second.now (map (plain_row (λ (n : ℕ). n)) slice) c.allocator-alloc.ensures.well_formed is c.requires.fits in
    subst (λ (rows : List (Row ℕ)). All (IsWellFormedRow text_widths) (map (moved c.args.first.now c.args.second.now) rows)) (plain_rows slice) fits.there

pub append_node-append_rows-requires-clause-pieces : goal.append_node-append_rows-requires-clause-pieces
append_node-append_rows-requires-clause-pieces t c =
    let nodes = c.args.arena.now in
    let slice = c.as_slice.result.now in
    let is = node_rows (λ (n : ℕ). n) c.node.result.now (node_at nodes c.args.node.0) c.in-Bottom.rows slice c.node.ensures c.in-Bottom.is c.as_slice.ensures in
    let fits = bottom_fits text_widths nodes c.args.node.0 c.args.first.now c.args.second.now (map (plain_row (λ (n : ℕ). n)) slice) c.allocator-alloc.ensures.well_formed is c.requires.fits in
    subst (All IsPieceRow) (fits.from_here ∙ ap (map (moved c.args.first.now c.args.second.now)) (plain_rows slice)) c.requires.pieces

pub append_node-append_child-requires : goal.append_node-append_child-requires
append_node-append_child-requires t c =
    let nodes = c.args.arena.now in
    let slice = c.as_slice-children.result.now in
    let is = node_branches (λ (n : ℕ). n) c.node.result.now (node_at nodes c.args.node.0) c.in-Inner.branches slice c.node.ensures c.in-Inner.is c.as_slice-children.ensures in
    let it = child_at text_widths nodes c.args.node.0 c.args.first.now c.args.second.now slice c.loop-child.child-index c.child-item.result c.allocator-alloc.ensures.well_formed is c.requires.fits c.loop-child-test.true c.child-item.is in
    let fits = it.fits in
    let lesser = it.lesser in
    let pieces = child_item IsPieceRow nodes c.args.node.0 c.args.first.now c.args.second.now slice c.loop-child.child-index c.child-item.result c.allocator-alloc.ensures.well_formed c.requires.fits.there is c.requires.pieces c.loop-child-test.true c.child-item.is in
    search rules

pub append_node-loop-child-preserved : goal.append_node-loop-child-preserved
append_node-loop-child-preserved t c =
    child_read_next (content c.args.contents.now) c.args.wanted.now.from c.args.wanted.now.to (child_rows c.args.arena.now c.args.first.now c.args.second.now) c.as_slice-children.result.now c.loop-child.child-index c.child-item.result c.args.into.now.items
    c.loop-child.into.items c.append_child.new.into.items c.loop-child-test.true c.child-item.is c.loop-child.invariant c.in_ok-append_child-in-Inner.ensures

pub append_node-returns-in-Bottom : goal.append_node-returns-in-Bottom
append_node-returns-in-Bottom t c =
    let nodes = c.args.arena.now in
    let slice = c.as_slice.result.now in
    let is = node_rows (λ (n : ℕ). n) c.node.result.now (node_at nodes c.args.node.0) c.in-Bottom.rows slice c.node.ensures c.in-Bottom.is c.as_slice.ensures in
    let fits = bottom_fits text_widths nodes c.args.node.0 c.args.first.now c.args.second.now (map (plain_row (λ (n : ℕ). n)) slice) c.allocator-alloc.ensures.well_formed is c.requires.fits in
    subst (λ (rows : List (Row ℕ)). OnOk c.append_rows.result (c.append_rows.new.into.items ≡ c.args.into.now.items ++ bytes_between (content c.args.contents.now) c.args.wanted.now.from c.args.wanted.now.to rows))
    (sym (fits.from_here ∙ ap (map (moved c.args.first.now c.args.second.now)) (plain_rows slice))) c.append_rows.ensures

pub append_node-returns-after-loop-child : goal.append_node-returns-after-loop-child
append_node-returns-after-loop-child t c =
    let nodes = c.args.arena.now in
    let slice = c.as_slice-children.result.now in
    let is = node_branches (λ (n : ℕ). n) c.node.result.now (node_at nodes c.args.node.0) c.in-Inner.branches slice c.node.ensures c.in-Inner.is c.as_slice-children.ensures in
    children_read_all (content c.args.contents.now) c.args.wanted.now.from c.args.wanted.now.to nodes c.args.node.0 c.args.first.now c.args.second.now slice c.loop-child.child-index c.args.into.now.items c.loop-child.into.items c.allocator-alloc.ensures.well_formed
    c.requires.fits.there is c.loop-child-test.false c.loop-child.invariant
