use Rattle.std.proofs.Common.{◌∙◌, List, map, ap, sym}
use Rattle.enfilade_core.specs.declared.tree.Row.{Row}
use Rattle.enfilade_core.specs.declared.tree.Branch.{Branch}
use Rattle.enfilade_core.specs.Rows.{Rows, Branches}
use Rattle.enfilade_core.specs.Plain.{plain_row}
use Rattle.enfilade_core.proofs.OpenedAt.{bottom-is, inner-is, bottom-fits, bottom-opened, inner-opened, inner-fits_first, inner-fits_second}
use Rattle.enfilade_balance.specs.OneStep.{children_at}
use Rattle.enfilade_balance.proofs.Owed.{bottom-stands, inner-stands}
use Rattle.enfilade_balance.proofs.opening.opened.Goals as goal

pub rows_moved-requires : goal.rows_moved-requires
rows_moved-requires g c =
    bottom-fits g.P.Plane.widths c.args.arena.now c.args.node.0 c.args.first.now c.args.second.now (map (plain_row g.P.Plane.plain) c.as_slice.result.now) c.allocator-alloc.ensures.well_formed c.requires
    (bottom-is g.P.Plane.plain c.args.arena.now c.args.node.0 c.node.result.now c.in-Bottom.rows c.as_slice.result.now c.node.ensures c.in-Bottom.is c.as_slice.ensures)

pub branches_moved-requires-clause-first_origins : goal.branches_moved-requires-clause-first_origins
branches_moved-requires-clause-first_origins g c =
    inner-fits_first g.P.Plane.widths c.args.arena.now c.args.node.0 c.args.first.now c.args.second.now c.as_slice-in-Inner.result.now c.allocator-alloc.ensures.well_formed c.requires
    (inner-is g.P.Plane.plain c.args.arena.now c.args.node.0 c.node.result.now c.in-Inner.branches c.as_slice-in-Inner.result.now c.node.ensures c.in-Inner.is c.as_slice-in-Inner.ensures)

pub branches_moved-requires-clause-second_origins : goal.branches_moved-requires-clause-second_origins
branches_moved-requires-clause-second_origins g c =
    inner-fits_second g.P.Plane.widths c.args.arena.now c.args.node.0 c.args.first.now c.args.second.now c.as_slice-in-Inner.result.now c.allocator-alloc.ensures.well_formed c.requires
    (inner-is g.P.Plane.plain c.args.arena.now c.args.node.0 c.node.result.now c.in-Inner.branches c.as_slice-in-Inner.result.now c.node.ensures c.in-Inner.is c.as_slice-in-Inner.ensures)

pub returns-in_ok-moved-in-Bottom-clause-opened : goal.returns-in_ok-moved-in-Bottom-clause-opened
returns-in_ok-moved-in-Bottom-clause-opened g c =
    bottom-opened g.P.Plane.widths c.args.arena.now c.args.node.0 c.args.first.now c.args.second.now (map (plain_row g.P.Plane.plain) c.as_slice.result.now) (map (plain_row g.P.Plane.plain) c.in_ok-moved-in-Bottom.moved.items) c.allocator-alloc.ensures.well_formed c.requires
    (bottom-is g.P.Plane.plain c.args.arena.now c.args.node.0 c.node.result.now c.in-Bottom.rows c.as_slice.result.now c.node.ensures c.in-Bottom.is c.as_slice.ensures) c.in_ok-moved-in-Bottom.ensures

pub returns-in_ok-moved-in-Bottom-clause-stands : goal.returns-in_ok-moved-in-Bottom-clause-stands
returns-in_ok-moved-in-Bottom-clause-stands g c =
    bottom-stands g.P.Plane.widths c.args.arena.now c.args.node.0 c.args.first.now c.args.second.now (map (plain_row g.P.Plane.plain) c.as_slice.result.now) (map (plain_row g.P.Plane.plain) c.in_ok-moved-in-Bottom.moved.items) c.allocator-alloc.ensures.well_formed c.requires.below
    (bottom-is g.P.Plane.plain c.args.arena.now c.args.node.0 c.node.result.now c.in-Bottom.rows c.as_slice.result.now c.node.ensures c.in-Bottom.is c.as_slice.ensures) c.in_ok-moved-in-Bottom.ensures

pub returns-in_ok-moved-in-Inner-clause-opened : goal.returns-in_ok-moved-in-Inner-clause-opened
returns-in_ok-moved-in-Inner-clause-opened g c =
    inner-opened g.P.Plane.widths c.args.arena.now c.args.node.0 c.args.first.now c.args.second.now c.as_slice-in-Inner.result.now c.in_ok-moved-in-Inner.moved.items c.allocator-alloc.ensures.well_formed c.requires
    (inner-is g.P.Plane.plain c.args.arena.now c.args.node.0 c.node.result.now c.in-Inner.branches c.as_slice-in-Inner.result.now c.node.ensures c.in-Inner.is c.as_slice-in-Inner.ensures) c.in_ok-moved-in-Inner.ensures

pub returns-in_ok-moved-in-Inner-clause-stands : goal.returns-in_ok-moved-in-Inner-clause-stands
returns-in_ok-moved-in-Inner-clause-stands g c =
    inner-stands g.P.Plane.widths c.args.arena.now c.args.node.0 c.args.first.now c.args.second.now c.as_slice-in-Inner.result.now c.in_ok-moved-in-Inner.moved.items c.allocator-alloc.ensures.well_formed c.requires.below
    (inner-is g.P.Plane.plain c.args.arena.now c.args.node.0 c.node.result.now c.in-Inner.branches c.as_slice-in-Inner.result.now c.node.ensures c.in-Inner.is c.as_slice-in-Inner.ensures) c.in_ok-moved-in-Inner.ensures

pub returns-in_ok-moved-in-Bottom-clause-is : goal.returns-in_ok-moved-in-Bottom-clause-is
returns-in_ok-moved-in-Bottom-clause-is g c =
    ap (λ (rs : List (Row _)). Rows rs) c.in_ok-moved-in-Bottom.ensures
    ∙ sym (ap (children_at c.args.first.now c.args.second.now) (bottom-is g.P.Plane.plain c.args.arena.now c.args.node.0 c.node.result.now c.in-Bottom.rows c.as_slice.result.now c.node.ensures c.in-Bottom.is c.as_slice.ensures))

pub returns-in_ok-moved-in-Inner-clause-is : goal.returns-in_ok-moved-in-Inner-clause-is
returns-in_ok-moved-in-Inner-clause-is g c =
    ap (λ (bs : List Branch). Branches bs) c.in_ok-moved-in-Inner.ensures
    ∙ sym (ap (children_at c.args.first.now c.args.second.now) (inner-is g.P.Plane.plain c.args.arena.now c.args.node.0 c.node.result.now c.in-Inner.branches c.as_slice-in-Inner.result.now c.node.ensures c.in-Inner.is c.as_slice-in-Inner.ensures))
