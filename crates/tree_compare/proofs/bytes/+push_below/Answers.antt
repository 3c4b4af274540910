use Rattle.std.proofs.Common.{◌≡◌, ◌++◌, ℕ, List, map, rules, sym, subst}
use Rattle.std.specs.Prelude.{OnOk}
use Rattle.tumbler.specs.Places.{sum}
use Rattle.tumbler.proofs.SumOrder.{fits_if_tumbler}
use Rattle.enfilade_core.specs.Rows.{node_at}
use Rattle.enfilade_core.specs.Plain.{plain_row}
use Rattle.enfilade_core.specs.Planes.{content_widths, plain_text}
use Rattle.enfilade_search.specs.Sought.{FitsAt}
use Rattle.enfilade_search.proofs.Children.{child_at, node_rows, node_branches}
use Rattle.granfilade.specs.Content.{ByteAt}
use Rattle.tree_compare.specs.Stretches.{laid_stretches}
use Rattle.tree_compare.proofs.Lent.{rows-lie, bottom-laid, children-more, children-all}
use Rattle.tree_compare.proofs.bytes.+push_below.Goals as goal

pub node-requires : goal.node-requires
node-requires t c = c.requires.1.there

pub push_rows-requires : goal.push_rows-requires
push_rows-requires t c =
    let nodes = c.args.arena.now in
    let slice = c.as_slice.result.now in
    let is = node_rows plain_text c.node.result.now (node_at nodes c.args.node.0) c.in-Bottom.rows slice c.node.ensures c.in-Bottom.is c.as_slice.ensures in
    rows-lie nodes c.args.node.0 c.args.first.now c.requires.0 (map (plain_row plain_text) slice) c.nodes_are_well_formed.ensures is c.requires.1

pub add-requires : goal.add-requires
add-requires t c =
    let nodes = c.args.arena.now in
    let slice = c.as_slice-child-items.result.now in
    let is = node_branches plain_text c.node.result.now (node_at nodes c.args.node.0) c.in-Inner.branches slice c.node.ensures c.in-Inner.is c.as_slice-child-items.ensures in
    let it = child_at content_widths nodes c.args.node.0 c.args.first.now c.requires.0 slice c.loop-child.child-index c.child-item.result c.nodes_are_well_formed.ensures is c.requires.1 c.loop-child-test.true c.child-item.is in
    fits_if_tumbler c.args.first.now c.child-item.result.first it.fits.first_origin

pub push_below-requires : goal.push_below-requires
push_below-requires t c =
    let nodes = c.args.arena.now in
    let slice = c.as_slice-child-items.result.now in
    let is = node_branches plain_text c.node.result.now (node_at nodes c.args.node.0) c.in-Inner.branches slice c.node.ensures c.in-Inner.is c.as_slice-child-items.ensures in
    let it = child_at content_widths nodes c.args.node.0 c.args.first.now c.requires.0 slice c.loop-child.child-index c.child-item.result c.nodes_are_well_formed.ensures is c.requires.1 c.loop-child-test.true c.child-item.is in
    let lesser = it.lesser in
    let below : (second : List ℕ) × FitsAt content_widths nodes c.child-item.result.node.0 c.add.result second = (
      sum c.requires.0 c.child-item.result.second,
      subst (λ (a : List ℕ). FitsAt content_widths nodes c.child-item.result.node.0 a (sum c.requires.0 c.child-item.result.second)) (sym c.add.ensures) it.fits.below,
    ) in
    search rules

pub loop-child-preserved : goal.loop-child-preserved
loop-child-preserved t c = (
  children-more c.args.arena.now c.args.first.now c.add.result c.as_slice-child-items.result.now c.loop-child.child-index c.child-item.result (laid_stretches c.args.into.now.items) (laid_stretches c.loop-child.into.items)
      (laid_stretches c.push_below.new.into.items) c.loop-child-test.true c.child-item.is c.add.ensures c.loop-child.invariant.0 c.in_ok-push_below-in-Inner.ensures.laid,
  λ held. c.in_ok-push_below-in-Inner.ensures.each (c.loop-child.invariant.1 held),
)

pub returns-in-Bottom-clause-laid : goal.returns-in-Bottom-clause-laid
returns-in-Bottom-clause-laid t c =
    let nodes = c.args.arena.now in
    let slice = c.as_slice.result.now in
    let is = node_rows plain_text c.node.result.now (node_at nodes c.args.node.0) c.in-Bottom.rows slice c.node.ensures c.in-Bottom.is c.as_slice.ensures in
    subst (λ (bs : List ByteAt). OnOk c.push_rows.result (laid_stretches c.push_rows.new.into.items ≡ laid_stretches c.args.into.now.items ++ bs))
    (bottom-laid nodes c.args.node.0 c.args.first.now (map (plain_row plain_text) slice) c.nodes_are_well_formed.ensures c.requires.1.there is) c.push_rows.ensures.laid

pub returns-after-loop-child-clause-laid : goal.returns-after-loop-child-clause-laid
returns-after-loop-child-clause-laid t c =
    let nodes = c.args.arena.now in
    let slice = c.as_slice-child-items.result.now in
    let is = node_branches plain_text c.node.result.now (node_at nodes c.args.node.0) c.in-Inner.branches slice c.node.ensures c.in-Inner.is c.as_slice-child-items.ensures in
    children-all nodes c.args.node.0 c.args.first.now slice c.loop-child.child-index (laid_stretches c.args.into.now.items) (laid_stretches c.loop-child.into.items) c.nodes_are_well_formed.ensures c.requires.1.there is c.loop-child-test.false
    c.loop-child.invariant.0
