use Rattle.std.proofs.Common.{refl, ◌++◌, map, rules, sym, subst}
use Rattle.std.specs.Prelude.{OnOk}
use Rattle.std.specs.List.{filter}
use Rattle.tumbler.specs.Places.{sum}
use Rattle.tumbler.proofs.SumOrder.{fits_if_tumbler}
use Rattle.enfilade_core.specs.Rows.{node_at}
use Rattle.enfilade_core.specs.Plain.{plain_row}
use Rattle.enfilade_search.specs.declared.sought.By.TheVariants.{First, Second}
use Rattle.enfilade_search.specs.Sought.{is_sought}
use Rattle.enfilade_search.specs.Limits.{HoldsUpTo}
use Rattle.enfilade_search.proofs.Skipping.{child_extent_fits, child_skipped}
use Rattle.enfilade_search.proofs.Children.{child_rows, rows_of_branches, child_at, bottom_fits, node_rows, node_branches}
use Rattle.enfilade_search.proofs.Stopping.{child_past, goes_on, stops}
use Rattle.enfilade_search.proofs.UpToLimit.{all_held, children_more_held, children_stop_held, children_given_up, children_all_held}
use Rattle.enfilade_search.proofs.bounded.+below.Goals as goal

pub gather_up_to-take_rows_up_to-requires-clause-there : goal.gather_up_to-take_rows_up_to-requires-clause-there
gather_up_to-take_rows_up_to-requires-clause-there g t c =
    let nodes = c.args.arena.now in
    let slice = c.as_slice.result.now in
    let is = node_rows g.P.Plane.plain c.node.result.now (node_at nodes c.args.node.0) c.in-Bottom.rows slice c.node.ensures c.in-Bottom.is c.as_slice.ensures in
    (bottom_fits g.P.Plane.widths nodes c.args.node.0 c.args.first.now c.args.second.now (map (plain_row g.P.Plane.plain) slice) c.allocator-alloc.ensures.well_formed is c.requires).there

pub gather_up_to-take_rows_up_to-requires-clause-ordered : goal.gather_up_to-take_rows_up_to-requires-clause-ordered
gather_up_to-take_rows_up_to-requires-clause-ordered g t c =
    let nodes = c.args.arena.now in
    let slice = c.as_slice.result.now in
    let is = node_rows g.P.Plane.plain c.node.result.now (node_at nodes c.args.node.0) c.in-Bottom.rows slice c.node.ensures c.in-Bottom.is c.as_slice.ensures in
    (bottom_fits g.P.Plane.widths nodes c.args.node.0 c.args.first.now c.args.second.now (map (plain_row g.P.Plane.plain) slice) c.allocator-alloc.ensures.well_formed is c.requires).ordered

pub gather_up_to-gather_child_up_to-requires : goal.gather_up_to-gather_child_up_to-requires
gather_up_to-gather_child_up_to-requires g t c κs within =
    let nodes = c.args.arena.now in
    let slice = c.as_slice-children.result.now in
    let is = node_branches g.P.Plane.plain c.node.result.now (node_at nodes c.args.node.0) c.in-Inner.branches slice c.node.ensures c.in-Inner.is c.as_slice-children.ensures in
    let it = child_at g.P.Plane.widths nodes c.args.node.0 c.args.first.now c.args.second.now slice c.loop-child.child-index c.child-item.result c.allocator-alloc.ensures.well_formed is c.requires c.loop-child-test.true c.child-item.is in
    let fits = it.fits in
    let lesser = it.lesser in
    search rules

pub gather_up_to-returns-in-Bottom : goal.gather_up_to-returns-in-Bottom
gather_up_to-returns-in-Bottom g t c =
    let nodes = c.args.arena.now in
    let slice = c.as_slice.result.now in
    let is = node_rows g.P.Plane.plain c.node.result.now (node_at nodes c.args.node.0) c.in-Bottom.rows slice c.node.ensures c.in-Bottom.is c.as_slice.ensures in
    let fits = bottom_fits g.P.Plane.widths nodes c.args.node.0 c.args.first.now c.args.second.now (map (plain_row g.P.Plane.plain) slice) c.allocator-alloc.ensures.well_formed is c.requires in
    subst (λ r. OnOk c.take_rows_up_to.result (HoldsUpTo c.args.limit (map (plain_row g.P.Plane.plain) c.args.out.now.items ++ filter (is_sought g.P.Plane.widths c.args.sought.now) r) (map (plain_row g.P.Plane.plain) c.take_rows_up_to.new.out.items)))
    (sym fits.from_here) c.take_rows_up_to.ensures

pub gather_up_to-loop-child-preserved : goal.gather_up_to-loop-child-preserved
gather_up_to-loop-child-preserved g t c =
    children_more_held (is_sought g.P.Plane.widths c.args.sought.now) (child_rows c.args.arena.now c.args.first.now c.args.second.now) c.args.limit c.as_slice-children.result.now c.loop-child.child-index c.child-item.result
    (map (plain_row g.P.Plane.plain) c.args.out.now.items) (map (plain_row g.P.Plane.plain) c.loop-child.out.items) (map (plain_row g.P.Plane.plain) c.gather_child_up_to.new.out.items)
    c.loop-child-test.true c.child-item.is c.loop-child.invariant c.in_ok-gather_child_up_to-in-Inner.ensures.gathered

pub gather_up_to-returns-then-len-limit : goal.gather_up_to-returns-then-len-limit
gather_up_to-returns-then-len-limit g t c =
    let nodes = c.args.arena.now in
    let slice = c.as_slice-children.result.now in
    let is = node_branches g.P.Plane.plain c.node.result.now (node_at nodes c.args.node.0) c.in-Inner.branches slice c.node.ensures c.in-Inner.is c.as_slice-children.ensures in
    children_given_up g.P.Plane.plain (is_sought g.P.Plane.widths c.args.sought.now) (child_rows nodes c.args.first.now c.args.second.now) c.args.limit c.loop-child.child-index c.len.result slice (map (plain_row g.P.Plane.plain) c.args.out.now.items) _ c.loop-child.out.items
    (rows_of_branches g.P.Plane.widths nodes c.args.node.0 c.args.first.now c.args.second.now slice c.allocator-alloc.ensures.well_formed c.requires.there is)
    c.len.ensures c.if-len-limit.true c.loop-child.invariant

pub gather_up_to-returns-after-loop-child : goal.gather_up_to-returns-after-loop-child
gather_up_to-returns-after-loop-child g t c =
    let nodes = c.args.arena.now in
    let slice = c.as_slice-children.result.now in
    let is = node_branches g.P.Plane.plain c.node.result.now (node_at nodes c.args.node.0) c.in-Inner.branches slice c.node.ensures c.in-Inner.is c.as_slice-children.ensures in
    children_all_held (is_sought g.P.Plane.widths c.args.sought.now) (child_rows nodes c.args.first.now c.args.second.now) c.args.limit slice c.loop-child.child-index (map (plain_row g.P.Plane.plain) c.args.out.now.items) (map (plain_row g.P.Plane.plain) c.loop-child.out.items)
    _ c.loop-child-test.false
    (rows_of_branches g.P.Plane.widths nodes c.args.node.0 c.args.first.now c.args.second.now slice c.allocator-alloc.ensures.well_formed c.requires.there is) c.loop-child.invariant

pub gather_up_to-returns-then-not-branch : goal.gather_up_to-returns-then-not-branch
gather_up_to-returns-then-not-branch g t c =
    let nodes = c.args.arena.now in
    let slice = c.as_slice-children.result.now in
    let test = is_sought g.P.Plane.widths c.args.sought.now in
    let rows = child_rows nodes c.args.first.now c.args.second.now in
    let held = map (plain_row g.P.Plane.plain) c.args.out.now.items in
    let now = map (plain_row g.P.Plane.plain) c.gather_child_up_to.new.out.items in
    let is = node_branches g.P.Plane.plain c.node.result.now (node_at nodes c.args.node.0) c.in-Inner.branches slice c.node.ensures c.in-Inner.is c.as_slice-children.ensures in
    let it = child_at g.P.Plane.widths nodes c.args.node.0 c.args.first.now c.args.second.now slice c.loop-child.child-index c.child-item.result c.allocator-alloc.ensures.well_formed is c.requires c.loop-child-test.true c.child-item.is in
    children_stop_held g.P.Plane.widths nodes c.args.sought.now c.args.limit c.args.node.0 c.args.first.now c.args.second.now slice c.loop-child.child-index c.child-item.result c.in_ok-gather_child_up_to-in-Inner.field-0 held now c.allocator-alloc.ensures.well_formed c.requires
    (rows_of_branches g.P.Plane.widths nodes c.args.node.0 c.args.first.now c.args.second.now slice c.allocator-alloc.ensures.well_formed c.requires.there is) it.fits.branch c.loop-child-test.true c.child-item.is c.in_ok-gather_child_up_to-in-Inner.ensures.goes_on
    c.if-not-branch.true
    (children_more_held test rows c.args.limit slice c.loop-child.child-index c.child-item.result held (map (plain_row g.P.Plane.plain) c.loop-child.out.items) now c.loop-child-test.true c.child-item.is c.loop-child.invariant c.in_ok-gather_child_up_to-in-Inner.ensures.gathered)

pub gather_child_up_to-add-first-requires : goal.gather_child_up_to-add-first-requires
gather_child_up_to-add-first-requires g t c = fits_if_tumbler c.args.first.now c.args.child.now.first c.requires.first_origin

pub gather_child_up_to-add-second-requires : goal.gather_child_up_to-add-second-requires
gather_child_up_to-add-second-requires g t c = fits_if_tumbler c.args.second.now c.args.child.now.second c.requires.second_origin

pub gather_child_up_to-can_be_below-requires-clause-first_fits : goal.gather_child_up_to-can_be_below-requires-clause-first_fits
gather_child_up_to-can_be_below-requires-clause-first_fits g t c =
    child_extent_fits g.P.Plane.widths g.met.P.Plane.widths_stay c.args.arena.now c.nodes_are_well_formed.ensures First c.args.child.now c.args.first.now c.args.second.now c.add-first.result (sum c.args.second.now c.args.child.now.second) c.requires c.add-first.ensures refl

pub gather_child_up_to-can_be_below-requires-clause-second_fits : goal.gather_child_up_to-can_be_below-requires-clause-second_fits
gather_child_up_to-can_be_below-requires-clause-second_fits g t c =
    child_extent_fits g.P.Plane.widths g.met.P.Plane.widths_stay c.args.arena.now c.nodes_are_well_formed.ensures Second c.args.child.now c.args.first.now c.args.second.now c.add-first.result (sum c.args.second.now c.args.child.now.second) c.requires c.add-first.ensures refl

pub gather_child_up_to-returns-then-not-can_be_below-clause-gathered : goal.gather_child_up_to-returns-then-not-can_be_below-clause-gathered
gather_child_up_to-returns-then-not-can_be_below-clause-gathered g t c =
    all_held c.args.limit _ (map (plain_row g.P.Plane.plain) c.args.out.now.items)
    (child_skipped g.P.Plane.widths g.met.P.Plane.widths_stay c.args.arena.now c.nodes_are_well_formed.ensures c.args.sought.now c.args.child.now c.args.first.now c.args.second.now c.add-first.result (sum c.args.second.now c.args.child.now.second) c.can_be_below.result
    (map (plain_row g.P.Plane.plain) c.args.out.now.items) c.requires c.add-first.ensures refl c.can_be_below.ensures c.if-not-can_be_below.true)

pub gather_child_up_to-returns-then-not-can_be_below-clause-goes_on : goal.gather_child_up_to-returns-then-not-can_be_below-clause-goes_on
gather_child_up_to-returns-then-not-can_be_below-clause-goes_on g t c = goes_on c.args.sought.now c.add-first.result (sum c.args.first.now c.args.child.now.first) c.is_past.result c.add-first.ensures c.is_past.ensures c.if-is_past.false

pub gather_child_up_to-returns-clause-goes_on : goal.gather_child_up_to-returns-clause-goes_on
gather_child_up_to-returns-clause-goes_on g t c = goes_on c.args.sought.now c.add-first.result (sum c.args.first.now c.args.child.now.first) c.is_past.result c.add-first.ensures c.is_past.ensures c.if-is_past.false

pub gather_child_up_to-returns-then-is_past-clause-gathered : goal.gather_child_up_to-returns-then-is_past-clause-gathered
gather_child_up_to-returns-then-is_past-clause-gathered g t c =
    all_held c.args.limit _ (map (plain_row g.P.Plane.plain) c.args.out.now.items)
    (child_past g.P.Plane.widths c.args.arena.now c.args.sought.now c.args.child.now c.args.first.now c.args.second.now c.add-first.result c.is_past.result (map (plain_row g.P.Plane.plain) c.args.out.now.items) c.nodes_are_well_formed.ensures c.requires
    c.add-first.ensures c.is_past.ensures c.if-is_past.true)

pub gather_child_up_to-returns-then-is_past-clause-goes_on : goal.gather_child_up_to-returns-then-is_past-clause-goes_on
gather_child_up_to-returns-then-is_past-clause-goes_on g t c = stops c.args.sought.now c.add-first.result (sum c.args.first.now c.args.child.now.first) c.is_past.result c.add-first.ensures c.is_past.ensures c.if-is_past.true

pub gather_child_up_to-can_be_below-requires-clause-second_origin : goal.gather_child_up_to-can_be_below-requires-clause-second_origin
gather_child_up_to-can_be_below-requires-clause-second_origin g t c = fits_if_tumbler c.args.second.now c.args.child.now.second c.requires.second_origin
