use Rattle.std.proofs.Common.{◌≡◌, ◌∷◌, ◌/◌, [], length, map}
use Rattle.std.proofs.lemmas.Result.{IfOk-weaker}
use Rattle.enfilade_core.specs.Rows.{Rows}
use Rattle.enfilade_core.specs.Plain.{plain_row}
use Rattle.enfilade_balance.specs.Path.{IsHalved}
use Rattle.enfilade_balance.proofs.Halved.{front-fits, back-fits, rows-cut}
use Rattle.enfilade_balance.proofs.halves.rows_halved.Goals as goal

pub rows_packed-requires-clause-well_formed : goal.rows_packed-requires-clause-well_formed
rows_packed-requires-clause-well_formed g c = front-fits g.P.Plane.widths (plain_row g.P.Plane.plain) c.args.rows.now c.split_at.result.0.now (length c.args.rows.now / 2) c.requires.well_formed c.split_at.ensures.front

pub rows_packed-requires-2-clause-well_formed : goal.rows_packed-requires-2-clause-well_formed
rows_packed-requires-2-clause-well_formed g c = back-fits g.P.Plane.widths (plain_row g.P.Plane.plain) c.args.rows.now c.split_at.result.1.now (length c.args.rows.now / 2) c.requires.well_formed c.split_at.ensures.back

pub returns-clause-halved : goal.returns-clause-halved
returns-clause-halved g c =
    let w = g.P.Plane.widths in
    let f = plain_row g.P.Plane.plain in
    let lower = c.in_ok-lower in
    let upper = c.in_ok-upper in
    IfOk-weaker c.pair.result (λ made. made.items ≡ lower.lower ∷ upper.upper ∷ []) (λ made. IsHalved w c.args.arena.now c.rows_packed-2.new.self (Rows (map f c.args.rows.now)) made.items) (λ made is.
    rows-cut w f c.args.arena.now c.rows_packed.new.self c.rows_packed-2.new.self c.args.rows.now c.split_at.result.0.now c.split_at.result.1.now lower.lower upper.upper made.items c.requires.well_formed c.requires.many c.split_at.ensures.front c.split_at.ensures.back
    record { grows = lower.ensures.grows; packed = lower.ensures.packed; stands = lower.ensures.balance_state }
    record { grows = upper.ensures.grows; packed = upper.ensures.packed; stands = upper.ensures.balance_state } is) c.pair.ensures
