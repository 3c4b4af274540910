use Rattle.std.proofs.Common.{◌-◌, arith}
use Rattle.tumbler.proofs.SumOrder.{fits_if_tumbler}
use Rattle.enfilade_core.specs.Axes.{IsWellFormedRow}
use Rattle.enfilade_core.specs.Rows.{moved}
use Rattle.enfilade_core.specs.Plain.{plain_row}
use Rattle.enfilade_core.proofs.OpenedAt.{row-fits}
use Rattle.enfilade_core.proofs.ExchangeBottom.{ordered-own}
use Rattle.enfilade_core.proofs.WalkedBefore.{row-short, row-found, no-row}
use Rattle.enfilade_core.proofs.find_before.last_row.Goals as goal

pub count_before-count-requires : goal.count_before-count-requires
count_before-count-requires g c = ordered-own g.P.Plane.plain c.args.rows.now c.requires.own.ordered

pub returns-then-count-eq0-clause-none : goal.returns-then-count-eq0-clause-none
returns-then-count-eq0-clause-none g c =
    no-row g.P.Plane.plain g.P.Plane.widths c.args.at.now c.args.first.now c.args.second.now c.seen_from.result c.args.rows.now c.count_before-count.result c.seen_from.ensures c.requires.own c.count_before-count.ensures c.if-count-eq0.true

pub offset_bounds-rows-last : goal.offset_bounds-rows-last
offset_bounds-rows-last g c = omega (arith, row-short c.seen_from.result c.args.rows.now c.count_before-count.result c.count_before-count.ensures c.if-count-eq0.false)

pub bounds-rows-last : goal.bounds-rows-last
bounds-rows-last g c = row-short c.seen_from.result c.args.rows.now c.count_before-count.result c.count_before-count.ensures c.if-count-eq0.false

pub add-requires : goal.add-requires
add-requires g c =
    fits_if_tumbler c.args.first.now c.index-rows-last.result.first
    (row-fits (IsWellFormedRow g.P.Plane.widths) (plain_row g.P.Plane.plain) (moved c.args.first.now c.args.second.now) c.args.rows.now (c.count_before-count.result - 1) c.index-rows-last.result (row-short c.seen_from.result c.args.rows.now c.count_before-count.result c.count_before-count.ensures c.if-count-eq0.false) c.index-rows-last.is c.requires.well_formed).first_coordinate

pub add-requires-2 : goal.add-requires-2
add-requires-2 g c =
    fits_if_tumbler c.args.second.now c.index-rows-last.result.second
    (row-fits (IsWellFormedRow g.P.Plane.widths) (plain_row g.P.Plane.plain) (moved c.args.first.now c.args.second.now) c.args.rows.now (c.count_before-count.result - 1) c.index-rows-last.result (row-short c.seen_from.result c.args.rows.now c.count_before-count.result c.count_before-count.ensures c.if-count-eq0.false) c.index-rows-last.is c.requires.well_formed).second_coordinate

pub returns-clause-found : goal.returns-clause-found
returns-clause-found g c =
    rw (c.add.ensures, c.add-2.ensures)
    (row-found g.P.Plane.plain g.P.Plane.widths c.args.at.now c.args.first.now c.args.second.now c.seen_from.result c.args.rows.now c.count_before-count.result c.index-rows-last.result c.seen_from.ensures c.requires.own c.count_before-count.ensures c.if-count-eq0.false c.index-rows-last.is)
