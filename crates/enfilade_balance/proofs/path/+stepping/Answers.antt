use Rattle.std.proofs.Common.{◌≡◌, true, ◌<◌, ◌∙◌, List, map, arith, ap, sym, subst}
use Rattle.enfilade_core.specs.declared.tree.Row.{Row}
use Rattle.enfilade_core.specs.declared.balance_state.BalanceState.{BalanceState}
use Rattle.enfilade_core.specs.Rows.{Rows, Branches}
use Rattle.enfilade_core.specs.WellFormed.{IsWellFormed}
use Rattle.enfilade_core.specs.BalanceState.{balance_states}
use Rattle.enfilade_core.specs.Plain.{shape, plain_row}
use Rattle.enfilade_core.proofs.GoneThrough.{item-well_formed}
use Rattle.enfilade_core.proofs.OpenedAt.{at-of_part}
use Rattle.std.proofs.lemmas.Result.{IfOk-weaker}
use Rattle.enfilade_core.specs.declared.tree.Branch.{Branch}
use Rattle.enfilade_balance.specs.Path.{InTwo, InOne, StepsFor}
use Rattle.enfilade_balance.proofs.Over.{for-split, for-under, both-if}
use Rattle.enfilade_balance.proofs.Places.{part-at, told-at, child-step, child-stepped}
use Rattle.enfilade_balance.proofs.path.+stepping.Goals as goal

pub branch_stepped-opened-requires : goal.branch_stepped-opened-requires
branch_stepped-opened-requires g t c = at-of_part g.P.Plane.widths c.args.arena.now c.args.branch.now c.requires.part

pub branch_stepped-rows_split-requires-clause-well_formed : goal.branch_stepped-rows_split-requires-clause-well_formed
branch_stepped-rows_split-requires-clause-well_formed g t c =
    let plain = g.P.Plane.plain in
    let node : shape plain c.in_ok-children.children ≡ Rows (map (plain_row plain) c.as_slice.result.now) =
    ap (shape plain) c.in-Bottom.is ∙ ap (λ (rs : List (Row _)). Rows (map (plain_row plain) rs)) (sym c.as_slice.ensures) in
    let well_formed = subst (IsWellFormed g.P.Plane.widths c.args.arena.now) node c.in_ok-children.ensures.opened.well_formed in
    record { each = well_formed.rows; ordered = well_formed.ordered }

pub branches_stepped-branch_stepped-requires : goal.branches_stepped-branch_stepped-requires
branches_stepped-branch_stepped-requires g t c κs within =
    let found = c.in-Some.ensures.some in
    let branch = c.index-branches-k.result in
    let lesser = item-well_formed (λ b. b.node.0 < c.args.below.0) c.args.branches.now c.in-Some.k branch found.0 c.index-branches-k.is c.requires.named in (
      omega (arith, c.decreases, lesser),
      (
        within.0,
        (
          within.1,
          (
            part-at g.P.Plane.widths c.args.arena.now c.args.branches.now c.in-Some.k branch c.requires.well_formed record { there = found.0; is = c.index-branches-k.is },
            ap (λ (s : BalanceState). s.allows) (told-at (balance_states c.args.arena.now) c.args.branches.now c.in-Some.k branch record { there = found.0; is = c.index-branches-k.is }) ∙ found.1,
          ),
        ),
      ),
    )

pub branches_stepped-returns-clause-stepped : goal.branches_stepped-returns-clause-stepped
branches_stepped-returns-clause-stepped g t c =
    child-stepped g.P.Plane.widths c.args.arena.now c.branch_stepped.new.arena c.args.branches.now c.in_ok-made.made.items c.in-Some.k c.index-branches-k.result c.as_slice.result.now c.requires.well_formed
    record { there = c.in-Some.ensures.some.0; is = c.index-branches-k.is } c.in_ok-stepped.ensures.grows (rw c.as_slice.ensures c.in_ok-stepped.ensures.replaces) c.in_ok-made.ensures

pub branches_stepped-returns-clause-steps : goal.branches_stepped-returns-clause-steps
branches_stepped-returns-clause-steps g t c =
    child-step g.P.Plane.widths c.branch_stepped.new.arena c.in_ok-stepped.stepped.is_split c.args.branches.now c.in_ok-made.made.items c.in-Some.k c.index-branches-k.result c.as_slice.result.now record { there = c.in-Some.ensures.some.0; is = c.index-branches-k.is }
    (rw c.as_slice.ensures c.in_ok-stepped.ensures.steps) c.in_ok-made.ensures

pub branch_stepped-returns-in-Bottom-clause-steps : goal.branch_stepped-returns-in-Bottom-clause-steps
branch_stepped-returns-in-Bottom-clause-steps g t c =
    let plain = g.P.Plane.plain in
    let w = g.P.Plane.widths in
    let old = c.args.arena.now in
    let new = c.rows_split.new.arena in
    let rows = map (plain_row plain) c.as_slice.result.now in
    let node : shape plain c.in_ok-children.children ≡ Rows rows = ap (shape plain) c.in-Bottom.is ∙ ap (λ (rs : List (Row _)). Rows (map (plain_row plain) rs)) (sym c.as_slice.ensures) in
    IfOk-weaker c.rows_split.result (λ made. (made.is_split ≡ true) × InTwo w new (Rows rows) made.branches.items) (λ made. StepsFor w new made.is_split c.args.branch.now made.branches.items)
    (λ made s. for-split w old new made.is_split c.args.branch.now (Rows rows) made.branches.items c.rows_split.ensures.grows c.requires.part.branch.below (sym node ∙ c.in_ok-children.ensures.is) s.0 s.1) c.rows_split.ensures.split

pub branch_stepped-returns-then-len-gt-SPLIT_ABOVE-clause-steps : goal.branch_stepped-returns-then-len-gt-SPLIT_ABOVE-clause-steps
branch_stepped-returns-then-len-gt-SPLIT_ABOVE-clause-steps g t c =
    let plain = g.P.Plane.plain in
    let w = g.P.Plane.widths in
    let old = c.args.arena.now in
    let new = c.branches_split.new.arena in
    let branches = c.as_slice-then-len-gt-SPLIT_ABOVE.result.now in
    let node : shape plain c.in_ok-children.children ≡ Branches branches = ap (shape plain) c.in-Inner.is ∙ ap (λ (bs : List Branch). Branches bs) (sym c.as_slice-then-len-gt-SPLIT_ABOVE.ensures) in
    IfOk-weaker c.branches_split.result (λ made. (made.is_split ≡ true) × InTwo w new (Branches branches) made.branches.items) (λ made. StepsFor w new made.is_split c.args.branch.now made.branches.items)
    (λ made s. for-split w old new made.is_split c.args.branch.now (Branches branches) made.branches.items c.branches_split.ensures.grows c.requires.part.branch.below (sym node ∙ c.in_ok-children.ensures.is) s.0 s.1) c.branches_split.ensures.split

pub branch_stepped-returns-in_ok-stepped-in-Inner-clause-steps : goal.branch_stepped-returns-in_ok-stepped-in-Inner-clause-steps
branch_stepped-returns-in_ok-stepped-in-Inner-clause-steps g t c =
    let plain = g.P.Plane.plain in
    let w = g.P.Plane.widths in
    let mid = c.branches_stepped.new.arena in
    let new = c.under_one.new.arena in
    let below = c.in_ok-stepped-in-Inner in
    let branches = c.as_slice-in-Inner.result.now in
    let node : shape plain c.in_ok-children.children ≡ Branches branches = ap (shape plain) c.in-Inner.is ∙ ap (λ (bs : List Branch). Branches bs) (sym c.as_slice-in-Inner.ensures) in
    IfOk-weaker c.under_one.result (λ made. (made.is_split ≡ below.stepped.is_split) × InOne w new below.stepped.branches.items made.branches.items) (λ made. StepsFor w new made.is_split c.args.branch.now made.branches.items)
    (λ made s. for-under w c.args.arena.now mid new made.is_split below.stepped.is_split c.args.branch.now (shape plain c.in_ok-children.children) branches below.stepped.branches.items made.branches.items below.ensures.grows c.under_one.ensures.grows c.requires.part.branch.below
    c.in_ok-children.ensures.is node below.ensures.steps s.0 s.1)
    (both-if c.under_one.result (λ made. made.is_split ≡ below.stepped.is_split) (λ made. InOne w new below.stepped.branches.items made.branches.items) c.under_one.ensures.same c.under_one.ensures.one)
