use Rattle.tumbler.specs.Places.{IsUpTo}
use Rattle.enfilade_core.proofs.PackedOrigins.{least-more, least-all, just_before_all, before_plain}
use Rattle.enfilade_core.proofs.pack_children.second_before.Goals as goal

pub loop-row-preserved : goal.loop-row-preserved
loop-row-preserved g c =
    least-more (λ row. row.second) c.args.rows.now c.loop-row.row-index c.row-item.result c.loop-row.least c.lesser-least.result c.loop-row-test.true c.row-item.is c.loop-row.invariant c.lesser-least.ensures.first c.lesser-least.ensures.second

pub returns : goal.returns
returns g c =
    let all = least-all (λ row. IsUpTo c.loop-row.least row.second) c.args.rows.now c.loop-row.row-index c.loop-row-test.false c.loop-row.invariant in
    before_plain g.P.Plane.plain c.args.rows.now c.just_before.result (just_before_all (λ row. row.second) c.args.rows.now c.loop-row.least c.just_before.result c.is_tumbler.ensures c.just_before.ensures all)
