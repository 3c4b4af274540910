use Rattle.std.proofs.Common.{◌≡◌, ◌∷◌, []}
use Rattle.std.proofs.lemmas.Result.{IfOk-weaker}
use Rattle.enfilade_core.specs.Rows.{Branches}
use Rattle.enfilade_core.proofs.AroundMiddle.{filled-if_well_formed}
use Rattle.enfilade_balance.specs.Path.{IsHalved}
use Rattle.enfilade_balance.proofs.Halved.{front-branches, back-branches, branches-cut}
use Rattle.enfilade_balance.proofs.halves.branches_halved.Goals as goal

pub branches_packed-requires-clause-well_formed : goal.branches_packed-requires-clause-well_formed
branches_packed-requires-clause-well_formed g c = front-branches g.P.Plane.widths c.args.arena.now c.args.branches.now c.split_at.result.0.now c.requires.well_formed c.requires.many c.split_at.ensures.front

pub branches_packed-requires-clause-filled : goal.branches_packed-requires-clause-filled
branches_packed-requires-clause-filled g c = filled-if_well_formed g.P.Plane.widths c.args.arena.now c.split_at.result.0.now (front-branches g.P.Plane.widths c.args.arena.now c.args.branches.now c.split_at.result.0.now c.requires.well_formed c.requires.many c.split_at.ensures.front)

pub branches_packed-requires-2-clause-well_formed : goal.branches_packed-requires-2-clause-well_formed
branches_packed-requires-2-clause-well_formed g c =
    back-branches g.P.Plane.widths c.args.arena.now c.branches_packed.new.self c.args.branches.now c.split_at.result.1.now c.in_ok-lower.ensures.grows c.requires.well_formed c.requires.many c.split_at.ensures.back

pub branches_packed-requires-2-clause-filled : goal.branches_packed-requires-2-clause-filled
branches_packed-requires-2-clause-filled g c =
    filled-if_well_formed g.P.Plane.widths c.branches_packed.new.self c.split_at.result.1.now
    (back-branches g.P.Plane.widths c.args.arena.now c.branches_packed.new.self c.args.branches.now c.split_at.result.1.now c.in_ok-lower.ensures.grows c.requires.well_formed c.requires.many c.split_at.ensures.back)

pub returns-clause-halved : goal.returns-clause-halved
returns-clause-halved g c =
    let w = g.P.Plane.widths in
    let lower = c.in_ok-lower in
    let upper = c.in_ok-upper in
    IfOk-weaker c.pair.result (λ made. made.items ≡ lower.lower ∷ upper.upper ∷ []) (λ made. IsHalved w c.args.arena.now c.branches_packed-2.new.self (Branches c.args.branches.now) made.items) (λ made is.
    branches-cut w c.args.arena.now c.branches_packed.new.self c.branches_packed-2.new.self c.args.branches.now c.split_at.result.0.now c.split_at.result.1.now lower.lower upper.upper made.items c.requires.well_formed c.requires.many c.split_at.ensures.front c.split_at.ensures.back
    record { grows = lower.ensures.grows; packed = lower.ensures.packed; stands = lower.ensures.balance_state }
    record { grows = upper.ensures.grows; packed = upper.ensures.packed; stands = upper.ensures.balance_state } is) c.pair.ensures
