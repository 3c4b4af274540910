use Rattle.std.proofs.Common.{◌∙◌, ap, sym, subst, List}
use Rattle.tumbler.specs.Places.{IsTumbler, sum}
use Rattle.enfilade_core.specs.declared.tree.Branch.{Branch}
use Rattle.enfilade_core.specs.Touched.{branches_at, IsTouched}
use Rattle.enfilade_core.specs.Rows.{Branches}
use Rattle.enfilade_core.specs.WellFormed.{IsWellFormed}
use Rattle.enfilade_core.proofs.OpenedAt.{inner-fits_first, inner-fits_second}
use Rattle.enfilade_core.proofs.TouchedRows.{well_formed-under, opened-under, all-within, is-touched}
use Rattle.enfilade_core.proofs.RestBehind.{rows-opened}
use Rattle.enfilade_core.proofs.arena.Arena.touched.Goals as goal

pub touched_from-front-requires : goal.touched_from-front-requires
touched_from-front-requires g c = record {
  well_formed = rw c.branches_under-branches.ensures (well_formed-under g.P.Plane.widths c.args.self.now c.args.node.0 c.allocator-alloc.ensures.well_formed c.requires.at.below c.requires.inner);
}

pub behind-requires-clause-well_formed : goal.behind-requires-clause-well_formed
behind-requires-clause-well_formed g c =
    rw c.branches_under-branches.ensures (well_formed-under g.P.Plane.widths c.args.self.now c.args.node.0 c.allocator-alloc.ensures.well_formed c.requires.at.below c.requires.inner)

pub behind-requires-clause-opened : goal.behind-requires-clause-opened
behind-requires-clause-opened g c =
    subst (λ (bs : List Branch). IsWellFormed g.P.Plane.widths c.args.self.now (Branches (branches_at c.args.first.now c.args.second.now bs))) (sym c.branches_under-branches.ensures)
    (opened-under g.P.Plane.widths c.args.self.now c.args.node.0 c.args.first.now c.args.second.now c.allocator-alloc.ensures.well_formed c.requires.at c.requires.inner).well_formed

pub behind-requires-clause-rows : goal.behind-requires-clause-rows
behind-requires-clause-rows g c =
    rows-opened g.P.Plane.widths c.args.self.now c.args.gap.now c.args.node.0 c.args.first.now c.args.second.now c.branches_under-branches.result.now c.allocator-alloc.ensures.well_formed c.requires.at c.requires.inner c.branches_under-branches.ensures c.requires.rows

pub branches_moved-requires-clause-first_origins : goal.branches_moved-requires-clause-first_origins
branches_moved-requires-clause-first_origins g c =
    all-within (λ branch. IsTumbler (sum c.args.first.now branch.first)) c.branches_under-branches.result.now c.split_at.result.0.now c.split_at-2.result.1.now c.touched_from-front.result c.in_ok-behind.field-0.behind c.split_at.ensures.front c.split_at-2.ensures.back
    (inner-fits_first g.P.Plane.widths c.args.self.now c.args.node.0 c.args.first.now c.args.second.now c.branches_under-branches.result.now c.allocator-alloc.ensures.well_formed c.requires.at (c.requires.inner ∙ ap (λ (bs : List Branch). Branches bs) (sym c.branches_under-branches.ensures)))

pub branches_moved-requires-clause-second_origins : goal.branches_moved-requires-clause-second_origins
branches_moved-requires-clause-second_origins g c =
    all-within (λ branch. IsTumbler (sum c.args.second.now branch.second)) c.branches_under-branches.result.now c.split_at.result.0.now c.split_at-2.result.1.now c.touched_from-front.result c.in_ok-behind.field-0.behind c.split_at.ensures.front c.split_at-2.ensures.back
    (inner-fits_second g.P.Plane.widths c.args.self.now c.args.node.0 c.args.first.now c.args.second.now c.branches_under-branches.result.now c.allocator-alloc.ensures.well_formed c.requires.at (c.requires.inner ∙ ap (λ (bs : List Branch). Branches bs) (sym c.branches_under-branches.ensures)))

pub returns : goal.returns
returns g c =
    let a = c.args.first.now in
    let b = c.args.second.now in
    subst (λ (bs : List Branch). IsTouched g.P.Plane.widths c.args.self.now c.args.gap.now a b (branches_at a b bs) (record { front = c.touched_from-front.result; behind = c.in_ok-behind.field-0.behind; branches = c.in_ok-branches.branches; rest = c.in_ok-behind.field-0.rest })) c.branches_under-branches.ensures
    (is-touched g.P.Plane.widths c.args.self.now c.args.gap.now a b c.branches_under-branches.result.now c.split_at.result.0.now c.split_at-2.result.1.now c.touched_from-front.result c.in_ok-behind.field-0.behind c.in_ok-branches.branches c.in_ok-behind.field-0.rest
    c.touched_from-front.ensures.front c.in_ok-behind.ensures c.split_at.ensures.front c.split_at-2.ensures.back c.in_ok-branches.ensures)
