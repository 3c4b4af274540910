use Rattle.std.proofs.Common.{◌≢◌, [], List, sym, subst}
use Rattle.enfilade_core.specs.declared.tree.Branch.{Branch}
use Rattle.enfilade_core.proofs.AroundMiddle.{filled-if_well_formed}
use Rattle.enfilade_core.proofs.ExchangeGrown.{flat_rows}
use Rattle.enfilade_core.specs.Rows.{Branches}
use Rattle.enfilade_balance.specs.Path.{Packs}
use Rattle.enfilade_balance.proofs.Over.{packed-over, named-there}
use Rattle.enfilade_balance.proofs.path.under_one.Goals as goal

pub branches_packed-requires-clause-filled : goal.branches_packed-requires-clause-filled
branches_packed-requires-clause-filled g c =
    subst (λ (bs : List Branch). flat_rows c.args.arena.now bs ≢ []) (sym c.as_slice.ensures) (filled-if_well_formed g.P.Plane.widths c.args.arena.now c.args.stepped.branches.items c.requires)

pub returns-clause-one : goal.returns-clause-one
returns-clause-one g c =
    let w = g.P.Plane.widths in
    let old = c.args.arena.now in
    let new = c.branches_packed.new.self in
    let packs : Packs w old new (Branches c.as_slice.result.now) c.in_ok-branch.branch = record { grows = c.in_ok-branch.ensures.grows; packed = c.in_ok-branch.ensures.packed; stands = c.in_ok-branch.ensures.balance_state } in
    record {
      one = c.in_ok-branch.branch;
      over = packed-over w old new (Branches c.args.stepped.branches.items) c.in_ok-branch.branch (subst (λ (bs : List Branch). Packs w old new (Branches bs) c.in_ok-branch.branch) c.as_slice.ensures packs)
          (named-there w old (Branches c.args.stepped.branches.items) c.requires);
      is = c.in_ok-branches.ensures;
    }
