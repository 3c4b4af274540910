use Rattle.std.proofs.Common.{◌≡◌, ◌∙◌, sym, subst, Contains, map}
use Rattle.tumbler.proofs.SumOrder.{fits_if_tumbler}
use Rattle.enfilade_core.specs.Rows.{branch_rows, rows_table}
use Rattle.enfilade_core.specs.WellFormed.{IsWellFormedPart}
use Rattle.enfilade_core.specs.Edits.{last_before}
use Rattle.enfilade_core.specs.Exchange.{branch_at}
use Rattle.enfilade_core.proofs.Nodes.{node-parts}
use Rattle.enfilade_core.proofs.GoneThrough.{item-well_formed}
use Rattle.enfilade_core.proofs.ExchangeGrown.{flat_rows}
use Rattle.enfilade_core.proofs.WalkedBefore.{moved-fits, branch-found, no-branch, one-moved}
use Rattle.enfilade_core.proofs.arena.Arena.last_branch.Goals as goal

pub starts_before-requires : goal.starts_before-requires
starts_before-requires g c =
    record { part = item-well_formed (IsWellFormedPart g.P.Plane.widths c.args.self.now) c.args.branches.now c.chosen_from_end-k.result c.index-branches-k.result c.chosen_from_end-k.ensures.is.there c.index-branches-k.is (node-parts g.P.Plane.widths c.args.self.now c.args.branches.now c.requires.well_formed) }

pub branch_moved-requires-clause-first_fits : goal.branch_moved-requires-clause-first_fits
branch_moved-requires-clause-first_fits g c =
    fits_if_tumbler c.args.first.now c.index-branches-k.result.first
    (moved-fits g.P.Plane.widths c.args.self.now c.args.first.now c.args.second.now c.args.branches.now c.chosen_from_end-k.result c.index-branches-k.result c.chosen_from_end-k.ensures.is.there c.index-branches-k.is c.requires.parts).0

pub branch_moved-requires-clause-second_fits : goal.branch_moved-requires-clause-second_fits
branch_moved-requires-clause-second_fits g c =
    fits_if_tumbler c.args.second.now c.index-branches-k.result.second
    (moved-fits g.P.Plane.widths c.args.self.now c.args.first.now c.args.second.now c.args.branches.now c.chosen_from_end-k.result c.index-branches-k.result c.chosen_from_end-k.ensures.is.there c.index-branches-k.is c.requires.parts).1

pub returns-then-not-starts_before-clause-none : goal.returns-then-not-starts_before-clause-none
returns-then-not-starts_before-clause-none g c =
    no-branch g.P.Plane.widths c.args.self.now c.args.at.now c.args.first.now c.args.second.now c.seen_from-seen.result c.args.branches.now c.chosen_from_end-k.result c.index-branches-k.result c.seen_from-seen.ensures
    record { well_formed = c.requires.well_formed; chosen = c.chosen_from_end-k.ensures.is; here = c.chosen_from_end-k.ensures.here; item = c.index-branches-k.is; some = c.starts_before.ensures.some } (sym c.starts_before.ensures.value ∙ c.if-not-starts_before.true)

pub returns-clause-found : goal.returns-clause-found
returns-clause-found g c =
    let told = rows_table c.args.self.now in
    let there = map (branch_at c.args.first.now c.args.second.now) c.args.branches.now in
    subst (λ branch. last_before c.args.at.now (flat_rows c.args.self.now there) ≡ last_before c.args.at.now (branch_rows told branch)) (sym c.branch_moved.ensures)
    (branch-found g.P.Plane.widths c.args.self.now c.args.at.now c.args.first.now c.args.second.now c.seen_from-seen.result c.args.branches.now c.chosen_from_end-k.result c.index-branches-k.result c.seen_from-seen.ensures
    record { well_formed = c.requires.well_formed; chosen = c.chosen_from_end-k.ensures.is; here = c.chosen_from_end-k.ensures.here; item = c.index-branches-k.is; some = c.starts_before.ensures.some } (sym c.starts_before.ensures.value ∙ c.if-not-starts_before.false))

pub returns-clause-one : goal.returns-clause-one
returns-clause-one g c =
    subst (Contains (map (branch_at c.args.first.now c.args.second.now) c.args.branches.now)) (sym c.branch_moved.ensures)
    (one-moved c.args.first.now c.args.second.now c.args.branches.now c.chosen_from_end-k.result c.index-branches-k.result c.chosen_from_end-k.ensures.is.there c.index-branches-k.is)
