use Rattle.std.proofs.Common.{◌≢◌, [], sym, subst}
use Rattle.std.proofs.lemmas.Result.{IfOk-weaker}
use Rattle.enfilade_core.specs.Rows.{Shape, rows_in, rows_table}
use Rattle.enfilade_core.specs.WellFormed.{IsWellFormed}
use Rattle.enfilade_core.specs.Plain.{shape}
use Rattle.enfilade_core.proofs.OpenedAt.{at-of_part}
use Rattle.enfilade_balance.specs.Path.{Packs, IsMerged}
use Rattle.enfilade_balance.proofs.Merged.{are-alike, both-have, both-filled, both-merged}
use Rattle.enfilade_balance.proofs.merging.merged.Goals as goal

pub opened-requires : goal.opened-requires
opened-requires g c = at-of_part g.P.Plane.widths c.args.arena.now c.args.a.now c.requires.first

pub opened-requires-2 : goal.opened-requires-2
opened-requires-2 g c = at-of_part g.P.Plane.widths c.args.arena.now c.args.b.now c.requires.second

pub joined-requires : goal.joined-requires
joined-requires g c =
    are-alike g.P.Plane.widths c.args.arena.now c.args.a.now c.args.b.now (shape g.P.Plane.plain c.in_ok-lower.lower) (shape g.P.Plane.plain c.in_ok-upper.upper) c.requires
    record { opened = c.in_ok-lower.ensures.opened; stands = c.in_ok-lower.ensures.stands; is = c.in_ok-lower.ensures.is } record { opened = c.in_ok-upper.ensures.opened; stands = c.in_ok-upper.ensures.stands; is = c.in_ok-upper.ensures.is }

pub packed-requires-clause-well_formed : goal.packed-requires-clause-well_formed
packed-requires-clause-well_formed g c =
    subst (IsWellFormed g.P.Plane.widths c.args.arena.now) (sym c.in_ok-children.ensures)
    (both-have g.P.Plane.widths c.args.arena.now c.args.a.now c.args.b.now (shape g.P.Plane.plain c.in_ok-lower.lower) (shape g.P.Plane.plain c.in_ok-upper.upper) c.requires
    record { opened = c.in_ok-lower.ensures.opened; stands = c.in_ok-lower.ensures.stands; is = c.in_ok-lower.ensures.is } record { opened = c.in_ok-upper.ensures.opened; stands = c.in_ok-upper.ensures.stands; is = c.in_ok-upper.ensures.is }).well_formed

pub packed-requires-clause-filled : goal.packed-requires-clause-filled
packed-requires-clause-filled g c =
    subst (λ (node : Shape _). rows_in (rows_table c.args.arena.now) node ≢ []) (sym c.in_ok-children.ensures)
    (both-filled g.P.Plane.widths c.args.arena.now c.args.a.now c.args.b.now (shape g.P.Plane.plain c.in_ok-lower.lower) (shape g.P.Plane.plain c.in_ok-upper.upper) c.requires
    record { opened = c.in_ok-lower.ensures.opened; stands = c.in_ok-lower.ensures.stands; is = c.in_ok-lower.ensures.is } record { opened = c.in_ok-upper.ensures.opened; stands = c.in_ok-upper.ensures.stands; is = c.in_ok-upper.ensures.is })

pub returns-clause-merged : goal.returns-clause-merged
returns-clause-merged g c =
    let w = g.P.Plane.widths in
    let old = c.args.arena.now in
    let new = c.packed.new.arena in
    let a = c.args.a.now in
    let b = c.args.b.now in
    let lower = shape g.P.Plane.plain c.in_ok-lower.lower in
    let upper = shape g.P.Plane.plain c.in_ok-upper.upper in
    IfOk-weaker c.packed.result (λ made. Packs w old new (shape g.P.Plane.plain c.in_ok-children.children) made) (λ made. IsMerged w old new a b made) (λ made packs.
    both-merged w old new a b lower upper made c.requires
    record { opened = c.in_ok-lower.ensures.opened; stands = c.in_ok-lower.ensures.stands; is = c.in_ok-lower.ensures.is } record { opened = c.in_ok-upper.ensures.opened; stands = c.in_ok-upper.ensures.stands; is = c.in_ok-upper.ensures.is }
    (subst (λ (node : Shape _). Packs w old new node made) c.in_ok-children.ensures packs)) c.packed.ensures.packs
