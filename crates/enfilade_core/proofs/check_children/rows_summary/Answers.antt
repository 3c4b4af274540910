use Rattle.std.proofs.Common.{map, arith}
use Rattle.std.proofs.lemmas.List.{length-map}
use Rattle.enfilade_core.specs.Axes.{IsWellFormedRow, IsWellFormedRows}
use Rattle.enfilade_core.specs.Plain.{plain_row}
use Rattle.enfilade_core.proofs.GoneThrough.{if_none, mapped_at, item-well_formed}
use Rattle.enfilade_core.proofs.ChildrenTold.{rows-told, row-follows, row-more}
use Rattle.enfilade_core.proofs.check_children.rows_summary.Goals as goal

pub returns-in_err-part-clause-none : goal.returns-in_err-part-clause-none
returns-in_err-part-clause-none g c =
    let at = mapped_at (plain_row g.P.Plane.plain) c.args.rows.now c.loop-row.row-index c.row-item.result c.loop-row-test.true c.row-item.is in
    if_none (IsWellFormedRows g.P.Plane.widths (map (plain_row g.P.Plane.plain) c.args.rows.now) → ⊥) c.from_residual.result (λ well_formed. c.in_err-part.ensures.none (item-well_formed (IsWellFormedRow g.P.Plane.widths) (map (plain_row g.P.Plane.plain) c.args.rows.now) c.loop-row.row-index (plain_row g.P.Plane.plain c.row-item.result) at.short at.at well_formed.each))

pub returns-in_err-append-clause-none : goal.returns-in_err-append-clause-none
returns-in_err-append-clause-none g c =
    let at = mapped_at (plain_row g.P.Plane.plain) c.args.rows.now c.loop-row.row-index c.row-item.result c.loop-row-test.true c.row-item.is in
    if_none (IsWellFormedRows g.P.Plane.widths (map (plain_row g.P.Plane.plain) c.args.rows.now) → ⊥) c.from_residual-in_err-append.result (λ well_formed. c.in_err-append.ensures.none (row-follows g.P.Plane.widths (map (plain_row g.P.Plane.plain) c.args.rows.now) c.loop-row.row-index (plain_row g.P.Plane.plain c.row-item.result) c.loop-row.summary c.in_ok-part.part
    at.short at.at c.loop-row.invariant c.in_ok-part.ensures.some.0 c.in_ok-part.ensures.some.1 well_formed))

pub loop-row-preserved : goal.loop-row-preserved
loop-row-preserved g c =
    let at = mapped_at (plain_row g.P.Plane.plain) c.args.rows.now c.loop-row.row-index c.row-item.result c.loop-row-test.true c.row-item.is in
    row-more g.P.Plane.widths (map (plain_row g.P.Plane.plain) c.args.rows.now) c.loop-row.row-index (plain_row g.P.Plane.plain c.row-item.result) c.loop-row.summary c.in_ok-part.part c.append.new.self
    at.short at.at c.loop-row.invariant c.in_ok-part.ensures.some.0 c.in_ok-part.ensures.some.1 c.in_ok-append.ensures.some.0 c.in_ok-append.ensures.some.1

pub returns-clause-some : goal.returns-clause-some
returns-clause-some g c =
    rows-told g.P.Plane.widths (map (plain_row g.P.Plane.plain) c.args.rows.now) c.loop-row.row-index c.loop-row.summary (omega (arith, length-map c.args.rows.now (plain_row g.P.Plane.plain), c.loop-row-test.false)) c.loop-row.invariant
