use Rattle.std.proofs.Common.{◌≡◌, map, ap, arith, None}
use Rattle.std.specs.List.{flat_map}
use Rattle.enfilade_core.specs.Rows.{moved, branch_rows, rows_table, rows_of}
use Rattle.enfilade_core.specs.Plain.{plain_row, found_row}
use Rattle.enfilade_core.specs.Edits.{last_before}
use Rattle.enfilade_core.specs.Exchange.{branch_at}
use Rattle.enfilade_core.proofs.GoneThrough.{if_none}
use Rattle.enfilade_core.proofs.OpenedAt.{bottom-is, inner-is}
use Rattle.enfilade_core.specs.Summary.{height_of}
use Rattle.enfilade_core.proofs.WalkedDown.{bottom-seen, inner-seen, one-below, last-of_same, some-in, none-in, visits-in_bottom, visits-in_inner}
use Rattle.enfilade_core.proofs.arena.Arena.+row_below.Goals as goal

pub last_row-requires-clause-well_formed : goal.last_row-requires-clause-well_formed
last_row-requires-clause-well_formed g t c =
    let f = plain_row g.P.Plane.plain in
    let a = c.args.first.now in
    let b = c.args.second.now in
    let nodes = c.args.self.now in
    let rows = map f c.as_slice.result.now in
    let seen = bottom-seen g.P.Plane.widths nodes c.args.node.0 a b rows c.nodes_are_well_formed.ensures c.requires
    (bottom-is g.P.Plane.plain nodes c.args.node.0 c.node.result.now c.in-Bottom.rows c.as_slice.result.now c.node.ensures c.in-Bottom.is c.as_slice.ensures) in
    seen.well_formed

pub last_row-requires-clause-own : goal.last_row-requires-clause-own
last_row-requires-clause-own g t c =
    let f = plain_row g.P.Plane.plain in
    let a = c.args.first.now in
    let b = c.args.second.now in
    let nodes = c.args.self.now in
    let rows = map f c.as_slice.result.now in
    let seen = bottom-seen g.P.Plane.widths nodes c.args.node.0 a b rows c.nodes_are_well_formed.ensures c.requires
    (bottom-is g.P.Plane.plain nodes c.args.node.0 c.node.result.now c.in-Bottom.rows c.as_slice.result.now c.node.ensures c.in-Bottom.is c.as_slice.ensures) in
    seen.own

pub last_branch-requires-clause-parts : goal.last_branch-requires-clause-parts
last_branch-requires-clause-parts g t c =
    let a = c.args.first.now in
    let b = c.args.second.now in
    let nodes = c.args.self.now in
    let branches = c.as_slice-in-Inner.result.now in
    let seen = inner-seen g.P.Plane.widths nodes c.args.node.0 a b branches c.nodes_are_well_formed.ensures c.requires
    (inner-is g.P.Plane.plain nodes c.args.node.0 c.node.result.now c.in-Inner.branches branches c.node.ensures c.in-Inner.is c.as_slice-in-Inner.ensures) in
    seen.parts

pub last_branch-requires-clause-well_formed : goal.last_branch-requires-clause-well_formed
last_branch-requires-clause-well_formed g t c =
    let a = c.args.first.now in
    let b = c.args.second.now in
    let nodes = c.args.self.now in
    let branches = c.as_slice-in-Inner.result.now in
    let seen = inner-seen g.P.Plane.widths nodes c.args.node.0 a b branches c.nodes_are_well_formed.ensures c.requires
    (inner-is g.P.Plane.plain nodes c.args.node.0 c.node.result.now c.in-Inner.branches branches c.node.ensures c.in-Inner.is c.as_slice-in-Inner.ensures) in
    seen.well_formed

pub returns-in_err-branch-in-Inner-clause-none : goal.returns-in_err-branch-in-Inner-clause-none
returns-in_err-branch-in-Inner-clause-none g t c =
    let a = c.args.first.now in
    let b = c.args.second.now in
    let nodes = c.args.self.now in
    let branches = c.as_slice-in-Inner.result.now in
    let seen = inner-seen g.P.Plane.widths nodes c.args.node.0 a b branches c.nodes_are_well_formed.ensures c.requires
    (inner-is g.P.Plane.plain nodes c.args.node.0 c.node.result.now c.in-Inner.branches branches c.node.ensures c.in-Inner.is c.as_slice-in-Inner.ensures) in
    let at = c.args.at.now in
    let whole = last_before at (map (moved a b) (rows_of nodes c.args.node.0)) in
    if_none (whole ≡ None) c.from_residual.result
    (last-of_same at (map (moved a b) (rows_of nodes c.args.node.0)) (flat_map (branch_rows (rows_table nodes)) (map (branch_at a b) branches)) None seen.same c.in_err-branch-in-Inner.ensures.none)

pub row_below-requires : goal.row_below-requires
row_below-requires g t c κs within =
    let a = c.args.first.now in
    let b = c.args.second.now in
    let nodes = c.args.self.now in
    let branches = c.as_slice-in-Inner.result.now in
    let seen = inner-seen g.P.Plane.widths nodes c.args.node.0 a b branches c.nodes_are_well_formed.ensures c.requires
    (inner-is g.P.Plane.plain nodes c.args.node.0 c.node.result.now c.in-Inner.branches branches c.node.ensures c.in-Inner.is c.as_slice-in-Inner.ensures) in
    let below = one-below g.P.Plane.widths nodes c.args.node.0 a b branches c.in_ok-branch-in-Inner.branch seen c.in_ok-branch-in-Inner.ensures.one in
    (omega (arith, below.lower, c.decreases), (within.0, (within.1, below.at)))

pub returns-in-Bottom-clause-found : goal.returns-in-Bottom-clause-found
returns-in-Bottom-clause-found g t c =
    let f = plain_row g.P.Plane.plain in
    let a = c.args.first.now in
    let b = c.args.second.now in
    let nodes = c.args.self.now in
    let rows = map f c.as_slice.result.now in
    let seen = bottom-seen g.P.Plane.widths nodes c.args.node.0 a b rows c.nodes_are_well_formed.ensures c.requires
    (bottom-is g.P.Plane.plain nodes c.args.node.0 c.node.result.now c.in-Bottom.rows c.as_slice.result.now c.node.ensures c.in-Bottom.is c.as_slice.ensures) in
    let at = c.args.at.now in
    let whole = last_before at (map (moved a b) (rows_of nodes c.args.node.0)) in
    some-in (found_row g.P.Plane.plain) c.last_row.result (last_before at (map (moved a b) rows)) whole (ap (last_before at) seen.same) c.last_row.ensures.found

pub returns-in-Bottom-clause-none : goal.returns-in-Bottom-clause-none
returns-in-Bottom-clause-none g t c =
    let f = plain_row g.P.Plane.plain in
    let a = c.args.first.now in
    let b = c.args.second.now in
    let nodes = c.args.self.now in
    let rows = map f c.as_slice.result.now in
    let seen = bottom-seen g.P.Plane.widths nodes c.args.node.0 a b rows c.nodes_are_well_formed.ensures c.requires
    (bottom-is g.P.Plane.plain nodes c.args.node.0 c.node.result.now c.in-Bottom.rows c.as_slice.result.now c.node.ensures c.in-Bottom.is c.as_slice.ensures) in
    let at = c.args.at.now in
    let whole = last_before at (map (moved a b) (rows_of nodes c.args.node.0)) in
    none-in c.last_row.result (last_before at (map (moved a b) rows)) whole (ap (last_before at) seen.same) c.last_row.ensures.none

pub returns-in_ok-branch-in-Inner-clause-found : goal.returns-in_ok-branch-in-Inner-clause-found
returns-in_ok-branch-in-Inner-clause-found g t c =
    let a = c.args.first.now in
    let b = c.args.second.now in
    let nodes = c.args.self.now in
    let branches = c.as_slice-in-Inner.result.now in
    let seen = inner-seen g.P.Plane.widths nodes c.args.node.0 a b branches c.nodes_are_well_formed.ensures c.requires
    (inner-is g.P.Plane.plain nodes c.args.node.0 c.node.result.now c.in-Inner.branches branches c.node.ensures c.in-Inner.is c.as_slice-in-Inner.ensures) in
    let at = c.args.at.now in
    let whole = last_before at (map (moved a b) (rows_of nodes c.args.node.0)) in
    let branch = c.in_ok-branch-in-Inner.branch in
    some-in (found_row g.P.Plane.plain) c.row_below.result (last_before at (branch_rows (rows_table nodes) branch)) whole
    (last-of_same at (map (moved a b) (rows_of nodes c.args.node.0)) (flat_map (branch_rows (rows_table nodes)) (map (branch_at a b) branches)) (last_before at (branch_rows (rows_table nodes) branch)) seen.same c.in_ok-branch-in-Inner.ensures.found) c.row_below.ensures.found

pub returns-in_ok-branch-in-Inner-clause-none : goal.returns-in_ok-branch-in-Inner-clause-none
returns-in_ok-branch-in-Inner-clause-none g t c =
    let a = c.args.first.now in
    let b = c.args.second.now in
    let nodes = c.args.self.now in
    let branches = c.as_slice-in-Inner.result.now in
    let seen = inner-seen g.P.Plane.widths nodes c.args.node.0 a b branches c.nodes_are_well_formed.ensures c.requires
    (inner-is g.P.Plane.plain nodes c.args.node.0 c.node.result.now c.in-Inner.branches branches c.node.ensures c.in-Inner.is c.as_slice-in-Inner.ensures) in
    let at = c.args.at.now in
    let whole = last_before at (map (moved a b) (rows_of nodes c.args.node.0)) in
    let branch = c.in_ok-branch-in-Inner.branch in
    none-in c.row_below.result (last_before at (branch_rows (rows_table nodes) branch)) whole
    (last-of_same at (map (moved a b) (rows_of nodes c.args.node.0)) (flat_map (branch_rows (rows_table nodes)) (map (branch_at a b) branches)) (last_before at (branch_rows (rows_table nodes) branch)) seen.same c.in_ok-branch-in-Inner.ensures.found) c.row_below.ensures.none

pub returns-in-Bottom-clause-visits : goal.returns-in-Bottom-clause-visits
returns-in-Bottom-clause-visits g t c =
    let f = plain_row g.P.Plane.plain in
    let a = c.args.first.now in
    let b = c.args.second.now in
    let nodes = c.args.self.now in
    let rows = map f c.as_slice.result.now in
    let seen = bottom-seen g.P.Plane.widths nodes c.args.node.0 a b rows c.nodes_are_well_formed.ensures c.requires
    (bottom-is g.P.Plane.plain nodes c.args.node.0 c.node.result.now c.in-Bottom.rows c.as_slice.result.now c.node.ensures c.in-Bottom.is c.as_slice.ensures) in
    visits-in_bottom (λ f. f.visits) c.last_row.result c.args.visits c.saturating_add-visits.result (height_of g.P.Plane.widths nodes c.args.node.0) c.saturating_add-visits.ensures seen.level c.last_row.ensures.visits

pub returns-in_ok-branch-in-Inner-clause-visits : goal.returns-in_ok-branch-in-Inner-clause-visits
returns-in_ok-branch-in-Inner-clause-visits g t c =
    let a = c.args.first.now in
    let b = c.args.second.now in
    let nodes = c.args.self.now in
    let branches = c.as_slice-in-Inner.result.now in
    let seen = inner-seen g.P.Plane.widths nodes c.args.node.0 a b branches c.nodes_are_well_formed.ensures c.requires
    (inner-is g.P.Plane.plain nodes c.args.node.0 c.node.result.now c.in-Inner.branches branches c.node.ensures c.in-Inner.is c.as_slice-in-Inner.ensures) in
    let branch = c.in_ok-branch-in-Inner.branch in
    let below = one-below g.P.Plane.widths nodes c.args.node.0 a b branches branch seen c.in_ok-branch-in-Inner.ensures.one in
    visits-in_inner (λ f. f.visits) c.row_below.result c.args.visits c.saturating_add-visits.result (height_of g.P.Plane.widths nodes c.args.node.0) (height_of g.P.Plane.widths nodes branch.node.0) c.saturating_add-visits.ensures below.level c.row_below.ensures.visits
