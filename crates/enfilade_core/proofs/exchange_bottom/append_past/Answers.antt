use Rattle.std.proofs.Common.{◌≡◌, ◌++◌, OnOk, map, subst, List}
use Rattle.enfilade_core.specs.Plain.{plain_row}
use Rattle.enfilade_core.proofs.KeptRows.{still-back}
use Rattle.enfilade_core.proofs.exchange_bottom.append_past.Goals as goal

pub returns-then-is_same : goal.returns-then-is_same
returns-then-is_same g c =
    subst (λ (r : List _). OnOk c.append_copies.result (map (plain_row g.P.Plane.plain) c.append_copies.new.into.items ≡ map (plain_row g.P.Plane.plain) c.args.into.now.items ++ r))
    (still-back g.P.Plane.widths c.args.first.now c.args.second.now c.args.gap.now (map (plain_row g.P.Plane.plain) c.args.rows.now) (c.is_same.ensures.0 c.if-is_same.true) c.requires.own c.requires.past) c.append_copies.ensures
