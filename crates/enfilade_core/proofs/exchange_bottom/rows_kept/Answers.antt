use Rattle.std.proofs.Common.{◌∙◌, ◌++◌, arith, refl, ap, map, take, drop, length, List}
use Rattle.enfilade_core.specs.Rows.{moved}
use Rattle.enfilade_core.specs.Plain.{plain_row}
use Rattle.enfilade_core.specs.Exchange.{rows_before}
use Rattle.enfilade_core.proofs.ExchangeBottom.{ordered-own, past-passes, well_formed-moved}
use Rattle.enfilade_core.proofs.KeptRows.{count-there, kept-counts, kept-past, kept-past_own, kept-past_there, kept-within, kept-within_there, kept-made}
use Rattle.enfilade_core.proofs.exchange_bottom.rows_kept.Goals as goal

pub count_before-requires : goal.count_before-requires
count_before-requires g c = ordered-own g.P.Plane.plain c.args.old.now c.requires.ordered

pub count_before-requires-2 : goal.count_before-requires-2
count_before-requires-2 g c = ordered-own g.P.Plane.plain c.args.old.now c.requires.ordered

pub split_at-requires : goal.split_at-requires
split_at-requires g c =
    let to = c.args.gap.now.to in
    let m = length (rows_before to (map (moved c.args.first.now c.args.second.now) (map (plain_row g.P.Plane.plain) c.args.old.now))) in
    (kept-counts g.P.Plane.plain g.P.Plane.widths c.args.first.now c.args.second.now c.args.gap.now c.args.old.now c.count_before.result m record {
      up_to = c.requires.up_to;
      own = c.requires.own;
      there = c.requires.there;
      before = count-there g.P.Plane.plain g.P.Plane.widths c.args.gap.now.from c.args.first.now c.args.second.now c.seen_from.result c.args.old.now c.count_before.result c.seen_from.ensures c.requires.own c.count_before.ensures;
      behind = refl;
    }).short

pub split_at-requires-2 : goal.split_at-requires-2
split_at-requires-2 g c = (kept-counts g.P.Plane.plain g.P.Plane.widths c.args.first.now c.args.second.now c.args.gap.now c.args.old.now c.count_before.result c.count_before-2.result record {
  up_to = c.requires.up_to;
  own = c.requires.own;
  there = c.requires.there;
  before = count-there g.P.Plane.plain g.P.Plane.widths c.args.gap.now.from c.args.first.now c.args.second.now c.seen_from.result c.args.old.now c.count_before.result c.seen_from.ensures c.requires.own c.count_before.ensures;
  behind = count-there g.P.Plane.plain g.P.Plane.widths c.args.gap.now.to c.args.first.now c.args.second.now c.seen_from-2.result c.args.old.now c.count_before-2.result c.seen_from-2.ensures c.requires.own c.count_before-2.ensures;
}).few

pub split_at-requires-3 : goal.split_at-requires-3
split_at-requires-3 g c =
    let counts = kept-counts g.P.Plane.plain g.P.Plane.widths c.args.first.now c.args.second.now c.args.gap.now c.args.old.now c.count_before.result c.count_before-2.result record {
      up_to = c.requires.up_to;
      own = c.requires.own;
      there = c.requires.there;
      before = count-there g.P.Plane.plain g.P.Plane.widths c.args.gap.now.from c.args.first.now c.args.second.now c.seen_from.result c.args.old.now c.count_before.result c.seen_from.ensures c.requires.own c.count_before.ensures;
      behind = count-there g.P.Plane.plain g.P.Plane.widths c.args.gap.now.to c.args.first.now c.args.second.now c.seen_from-2.result c.args.old.now c.count_before-2.result c.seen_from-2.ensures c.requires.own c.count_before-2.ensures;
    } in
    omega (arith, c.split_at.ensures.front_len, c.split_at-2.ensures.front_len, counts.short, counts.few, counts.later)

pub append_moved-requires : goal.append_moved-requires
append_moved-requires g c = kept-within_there g.P.Plane.plain g.P.Plane.widths c.args.first.now c.args.second.now c.args.gap.now c.args.old.now c.count_before.result c.count_before-2.result c.split_at-3.result.1.now record {
  up_to = c.requires.up_to;
  own = c.requires.own;
  there = c.requires.there;
  before = count-there g.P.Plane.plain g.P.Plane.widths c.args.gap.now.from c.args.first.now c.args.second.now c.seen_from.result c.args.old.now c.count_before.result c.seen_from.ensures c.requires.own c.count_before.ensures;
  behind = count-there g.P.Plane.plain g.P.Plane.widths c.args.gap.now.to c.args.first.now c.args.second.now c.seen_from-2.result c.args.old.now c.count_before-2.result c.seen_from-2.ensures c.requires.own c.count_before-2.ensures;
} (c.split_at-3.ensures.back ∙ ap (λ (xs : List _). drop (length xs) c.split_at-2.result.0.now) c.split_at.ensures.front ∙ ap (drop (length (take c.count_before.result c.args.old.now))) c.split_at-2.ensures.front)

pub append_past-requires-clause-own : goal.append_past-requires-clause-own
append_past-requires-clause-own g c = kept-past_own g.P.Plane.plain g.P.Plane.widths c.args.first.now c.args.second.now c.args.gap.now c.args.old.now c.count_before.result c.count_before-2.result c.split_at-2.result.1.now record {
  up_to = c.requires.up_to;
  own = c.requires.own;
  there = c.requires.there;
  before = count-there g.P.Plane.plain g.P.Plane.widths c.args.gap.now.from c.args.first.now c.args.second.now c.seen_from.result c.args.old.now c.count_before.result c.seen_from.ensures c.requires.own c.count_before.ensures;
  behind = count-there g.P.Plane.plain g.P.Plane.widths c.args.gap.now.to c.args.first.now c.args.second.now c.seen_from-2.result c.args.old.now c.count_before-2.result c.seen_from-2.ensures c.requires.own c.count_before-2.ensures;
} c.split_at-2.ensures.back

pub append_past-requires-clause-fits : goal.append_past-requires-clause-fits
append_past-requires-clause-fits g c = kept-past_there g.P.Plane.plain g.P.Plane.widths c.args.first.now c.args.second.now c.args.gap.now c.args.old.now c.count_before.result c.count_before-2.result c.split_at-2.result.1.now record {
  up_to = c.requires.up_to;
  own = c.requires.own;
  there = c.requires.there;
  before = count-there g.P.Plane.plain g.P.Plane.widths c.args.gap.now.from c.args.first.now c.args.second.now c.seen_from.result c.args.old.now c.count_before.result c.seen_from.ensures c.requires.own c.count_before.ensures;
  behind = count-there g.P.Plane.plain g.P.Plane.widths c.args.gap.now.to c.args.first.now c.args.second.now c.seen_from-2.result c.args.old.now c.count_before-2.result c.seen_from-2.ensures c.requires.own c.count_before-2.ensures;
} c.split_at-2.ensures.back

pub append_past-requires-clause-past : goal.append_past-requires-clause-past
append_past-requires-clause-past g c = past-passes c.args.gap.now.to (map (moved c.args.first.now c.args.second.now) (map (plain_row g.P.Plane.plain) c.args.old.now)) (map (moved c.args.first.now c.args.second.now) (map (plain_row g.P.Plane.plain) c.split_at-2.result.1.now)) (kept-past g.P.Plane.plain g.P.Plane.widths c.args.first.now c.args.second.now c.args.gap.now c.args.old.now c.count_before.result c.count_before-2.result c.split_at-2.result.1.now record {
  up_to = c.requires.up_to;
  own = c.requires.own;
  there = c.requires.there;
  before = count-there g.P.Plane.plain g.P.Plane.widths c.args.gap.now.from c.args.first.now c.args.second.now c.seen_from.result c.args.old.now c.count_before.result c.seen_from.ensures c.requires.own c.count_before.ensures;
  behind = count-there g.P.Plane.plain g.P.Plane.widths c.args.gap.now.to c.args.first.now c.args.second.now c.seen_from-2.result c.args.old.now c.count_before-2.result c.seen_from-2.ensures c.requires.own c.count_before-2.ensures;
} c.split_at-2.ensures.back)

pub append_past-requires-clause-well_formed : goal.append_past-requires-clause-well_formed
append_past-requires-clause-well_formed g c =
    well_formed-moved g.P.Plane.widths c.args.gap.now (map (plain_row g.P.Plane.plain) c.args.rows.now) (map (moved c.args.first.now c.args.second.now) (map (plain_row g.P.Plane.plain) c.args.old.now)) (map (moved c.args.first.now c.args.second.now) (map (plain_row g.P.Plane.plain) c.split_at-2.result.1.now)) (kept-past g.P.Plane.plain g.P.Plane.widths c.args.first.now c.args.second.now c.args.gap.now c.args.old.now c.count_before.result c.count_before-2.result c.split_at-2.result.1.now record {
      up_to = c.requires.up_to;
      own = c.requires.own;
      there = c.requires.there;
      before = count-there g.P.Plane.plain g.P.Plane.widths c.args.gap.now.from c.args.first.now c.args.second.now c.seen_from.result c.args.old.now c.count_before.result c.seen_from.ensures c.requires.own c.count_before.ensures;
      behind = count-there g.P.Plane.plain g.P.Plane.widths c.args.gap.now.to c.args.first.now c.args.second.now c.seen_from-2.result c.args.old.now c.count_before-2.result c.seen_from-2.ensures c.requires.own c.count_before-2.ensures;
    } c.split_at-2.ensures.back) c.requires.well_formed

pub returns-clause-rows : goal.returns-clause-rows
returns-clause-rows g c =
    kept-made g.P.Plane.plain g.P.Plane.widths c.args.first.now c.args.second.now c.args.gap.now c.args.old.now c.count_before.result c.count_before-2.result (map (plain_row g.P.Plane.plain) c.args.rows.now) (map (plain_row g.P.Plane.plain) c.reserve.new.self.items) (map (plain_row g.P.Plane.plain) c.append_copies.new.into.items) (map (plain_row g.P.Plane.plain) c.append_rows_back.new.into.items) (map (plain_row g.P.Plane.plain) c.append_past.new.into.items)
    c.split_at.result.0.now c.split_at-2.result.1.now record {
      up_to = c.requires.up_to;
      own = c.requires.own;
      there = c.requires.there;
      before = count-there g.P.Plane.plain g.P.Plane.widths c.args.gap.now.from c.args.first.now c.args.second.now c.seen_from.result c.args.old.now c.count_before.result c.seen_from.ensures c.requires.own c.count_before.ensures;
      behind = count-there g.P.Plane.plain g.P.Plane.widths c.args.gap.now.to c.args.first.now c.args.second.now c.seen_from-2.result c.args.old.now c.count_before-2.result c.seen_from-2.ensures c.requires.own c.count_before-2.ensures;
    } c.split_at.ensures.front c.split_at-2.ensures.back
    (ap (map (plain_row g.P.Plane.plain)) (c.reserve.ensures.items ∙ c.new-made.ensures.items)) c.in_ok-append_copies.ensures c.in_ok-append_rows_back.ensures c.in_ok-append_past.ensures

pub returns-clause-out : goal.returns-clause-out
returns-clause-out g c =
    c.in_ok-append_moved.ensures ∙ ap (λ (r : List _). map (plain_row g.P.Plane.plain) c.args.out.now.items ++ r) (kept-within g.P.Plane.plain g.P.Plane.widths c.args.first.now c.args.second.now c.args.gap.now c.args.old.now c.count_before.result c.count_before-2.result c.split_at-3.result.1.now record {
      up_to = c.requires.up_to;
      own = c.requires.own;
      there = c.requires.there;
      before = count-there g.P.Plane.plain g.P.Plane.widths c.args.gap.now.from c.args.first.now c.args.second.now c.seen_from.result c.args.old.now c.count_before.result c.seen_from.ensures c.requires.own c.count_before.ensures;
      behind = count-there g.P.Plane.plain g.P.Plane.widths c.args.gap.now.to c.args.first.now c.args.second.now c.seen_from-2.result c.args.old.now c.count_before-2.result c.seen_from-2.ensures c.requires.own c.count_before-2.ensures;
    } (c.split_at-3.ensures.back ∙ ap (λ (xs : List _). drop (length xs) c.split_at-2.result.0.now) c.split_at.ensures.front ∙ ap (drop (length (take c.count_before.result c.args.old.now))) c.split_at-2.ensures.front))
