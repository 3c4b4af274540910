use Rattle.std.proofs.Common.{◌∙◌, ◌++◌, ap, sym, subst, List}
use Rattle.std.specs.List.{All}
use Rattle.std.proofs.lemmas.List.Elements.{All-take, All-weaker}
use Rattle.tumbler.specs.Places.{IsTumbler, sum}
use Rattle.enfilade_core.specs.declared.tree.Branch.{Branch}
use Rattle.enfilade_core.specs.Rows.{Branches, node_at, branches_under}
use Rattle.enfilade_core.specs.Touched.{FitsFrom, branches_at}
use Rattle.enfilade_core.proofs.OpenedAt.{inner-fits_first, inner-fits_second}
use Rattle.enfilade_core.proofs.AroundMiddle.{made-opened}
use Rattle.enfilade_core.proofs.arena.Arena.around_opened.Goals as goal

pub branches_moved-requires-clause-first_origins : goal.branches_moved-requires-clause-first_origins
branches_moved-requires-clause-first_origins g c =
    let P : Branch → Type 0 = λ branch. IsTumbler (sum c.args.first.now branch.first) in
    subst (All P) (sym c.split_at.ensures.front) (All-take P c.args.touched.now.front c.branches_under-branches.result.now
    (inner-fits_first g.P.Plane.widths c.args.self.now c.args.node.0 c.args.first.now c.args.second.now c.branches_under-branches.result.now c.allocator-alloc.ensures.well_formed c.requires.at (c.requires.inner ∙ ap (λ (bs : List Branch). Branches bs) (sym c.branches_under-branches.ensures))))

pub branches_moved-requires-clause-second_origins : goal.branches_moved-requires-clause-second_origins
branches_moved-requires-clause-second_origins g c =
    let P : Branch → Type 0 = λ branch. IsTumbler (sum c.args.second.now branch.second) in
    subst (All P) (sym c.split_at.ensures.front) (All-take P c.args.touched.now.front c.branches_under-branches.result.now
    (inner-fits_second g.P.Plane.widths c.args.self.now c.args.node.0 c.args.first.now c.args.second.now c.branches_under-branches.result.now c.allocator-alloc.ensures.well_formed c.requires.at (c.requires.inner ∙ ap (λ (bs : List Branch). Branches bs) (sym c.branches_under-branches.ensures))))

pub branches_moved-requires-2-clause-first_origins : goal.branches_moved-requires-2-clause-first_origins
branches_moved-requires-2-clause-first_origins g c =
    let P : Branch → Type 0 = λ branch. IsTumbler (sum c.args.first.now branch.first) in
    subst (All P) (sym c.as_slice-2.ensures) (All-weaker (FitsFrom c.args.first.now c.args.second.now) P (λ branch fits. fits.first) c.args.touched.now.rest.items c.requires.within.rest)

pub branches_moved-requires-2-clause-second_origins : goal.branches_moved-requires-2-clause-second_origins
branches_moved-requires-2-clause-second_origins g c =
    let P : Branch → Type 0 = λ branch. IsTumbler (sum c.args.second.now branch.second) in
    subst (All P) (sym c.as_slice-2.ensures) (All-weaker (FitsFrom c.args.first.now c.args.second.now) P (λ branch fits. fits.second) c.args.touched.now.rest.items c.requires.within.rest)

pub returns : goal.returns
returns g c =
    made-opened c.args.first.now c.args.second.now c.branches_under-branches.result.now c.split_at.result.0.now (branches_under (node_at c.args.self.now c.args.node.0)) c.args.touched.now
    c.in_ok-made.made.items c.append_branches.new.into.items c.append_branches-2.new.into.items c.in_ok-rest.rest.items
    c.branches_under-branches.ensures c.split_at.ensures.front c.in_ok-made.ensures
    (c.in_ok-append_branches.ensures ∙ ap (λ (bs : List Branch). c.in_ok-made.made.items ++ bs) c.as_slice.ensures)
    (c.in_ok-rest.ensures ∙ ap (branches_at c.args.first.now c.args.second.now) c.as_slice-2.ensures)
    (c.in_ok-append_branches-2.ensures ∙ ap (λ (bs : List Branch). c.append_branches.new.into.items ++ bs) c.as_slice-3.ensures)
