use Rattle.std.proofs.Common.{◌∙◌, ◌++◌, arith, ap, map, take, drop, length, List}
use Rattle.enfilade_core.specs.Plain.{plain_row}
use Rattle.enfilade_core.proofs.ExchangeBottom.{ordered-own, count-short, count-later, slice-before, slice-within, slice-past, past-passes, well_formed-moved, bottom-made}
use Rattle.enfilade_core.proofs.exchange.rows_exchanged.Goals as goal

pub count_before-requires : goal.count_before-requires
count_before-requires g c = ordered-own g.P.Plane.plain c.args.old.now c.requires.old_well_formed.ordered

pub count_before-requires-2 : goal.count_before-requires-2
count_before-requires-2 g c = ordered-own g.P.Plane.plain c.args.old.now c.requires.old_well_formed.ordered

pub split_at-requires : goal.split_at-requires
split_at-requires g c = omega (arith, c.count_before.ensures, count-short c.args.gap.now.from c.args.old.now)

pub split_at-requires-2 : goal.split_at-requires-2
split_at-requires-2 g c = omega (arith, c.count_before-2.ensures, count-short c.args.gap.now.to c.args.old.now)

pub split_at-requires-3 : goal.split_at-requires-3
split_at-requires-3 g c =
    omega (arith, c.split_at.ensures.front_len, c.split_at-2.ensures.front_len, c.count_before.ensures, c.count_before-2.ensures, count-later c.args.gap.now.from c.args.gap.now.to c.args.old.now c.requires.up_to)

pub append_shifted-requires-clause-past : goal.append_shifted-requires-clause-past
append_shifted-requires-clause-past g c =
    past-passes c.args.gap.now.to (map (plain_row g.P.Plane.plain) c.args.old.now) (map (plain_row g.P.Plane.plain) c.split_at-2.result.1.now)
    (ap (map (plain_row g.P.Plane.plain)) c.split_at-2.ensures.back ∙ slice-past g.P.Plane.plain c.args.gap.now.to c.args.old.now c.count_before-2.result c.requires.old_well_formed.ordered c.count_before-2.ensures)

pub append_shifted-requires-clause-well_formed : goal.append_shifted-requires-clause-well_formed
append_shifted-requires-clause-well_formed g c =
    well_formed-moved g.P.Plane.widths c.args.gap.now (map (plain_row g.P.Plane.plain) c.args.rows.now) (map (plain_row g.P.Plane.plain) c.args.old.now) (map (plain_row g.P.Plane.plain) c.split_at-2.result.1.now)
    (ap (map (plain_row g.P.Plane.plain)) c.split_at-2.ensures.back ∙ slice-past g.P.Plane.plain c.args.gap.now.to c.args.old.now c.count_before-2.result c.requires.old_well_formed.ordered c.count_before-2.ensures)
    c.requires.well_formed

pub returns-clause-rows : goal.returns-clause-rows
returns-clause-rows g c =
    bottom-made c.args.gap.now (map (plain_row g.P.Plane.plain) c.args.rows.now) (map (plain_row g.P.Plane.plain) c.args.old.now)
    (map (plain_row g.P.Plane.plain) c.reserve.new.self.items) (map (plain_row g.P.Plane.plain) c.append_copies.new.into.items) (map (plain_row g.P.Plane.plain) c.append_copies-2.new.into.items) (map (plain_row g.P.Plane.plain) c.append_shifted.new.into.items)
    (map (plain_row g.P.Plane.plain) c.split_at.result.0.now) (map (plain_row g.P.Plane.plain) c.split_at-2.result.1.now)
    (ap (map (plain_row g.P.Plane.plain)) (c.reserve.ensures.items ∙ c.new-made.ensures.items)) c.in_ok-append_copies.ensures c.in_ok-append_copies-2.ensures c.in_ok-append_shifted.ensures
    (ap (map (plain_row g.P.Plane.plain)) c.split_at.ensures.front ∙ slice-before g.P.Plane.plain c.args.gap.now.from c.args.old.now c.count_before.result c.requires.old_well_formed.ordered c.count_before.ensures)
    (ap (map (plain_row g.P.Plane.plain)) c.split_at-2.ensures.back ∙ slice-past g.P.Plane.plain c.args.gap.now.to c.args.old.now c.count_before-2.result c.requires.old_well_formed.ordered c.count_before-2.ensures)

pub returns-clause-out : goal.returns-clause-out
returns-clause-out g c =
    c.in_ok-append_copies-3.ensures
    ∙ ap (λ (r : List _). map (plain_row g.P.Plane.plain) c.args.out.now.items ++ r)
    (ap (map (plain_row g.P.Plane.plain)) (c.split_at-3.ensures.back ∙ ap (λ (xs : List _). drop (length xs) c.split_at-2.result.0.now) c.split_at.ensures.front ∙ ap (drop (length (take c.count_before.result c.args.old.now))) c.split_at-2.ensures.front)
    ∙ slice-within g.P.Plane.plain c.args.gap.now.from c.args.gap.now.to c.args.old.now c.count_before.result c.count_before-2.result c.requires.old_well_formed.ordered c.requires.up_to c.count_before.ensures c.count_before-2.ensures)
