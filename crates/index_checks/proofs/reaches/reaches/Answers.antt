use Rattle.std.proofs.Common.{List, [], ◌∷◌, ◌++◌, ap, ◌∙◌, sym, subst}
use Rattle.enfilade_core.specs.Axes.{IsWellFormedRow}
use Rattle.enfilade_core.specs.Planes.{key_widths}
use Rattle.index_checks.specs.declared.point.Point.{Point}
use Rattle.index_checks.proofs.Reaching.{reach_at_first, reach_more}
use Rattle.index_checks.proofs.RunRows.{key_row_fits}
use Rattle.index_checks.proofs.reaches.reaches.Goals as goal

pub loop-row-init : goal.loop-row-init
loop-row-init c =
    reach_at_first c.args.rows.now c.push.new.self.items c.least-reach.result c.least-reach.ensures
    (c.in_ok-push.ensures.items ∙ ap (λ (made : List Point). made ++ c.least-reach.result ∷ []) c.new-made.ensures.items)

pub end_of-requires : goal.end_of-requires
end_of-requires c =
    key_row_fits c.row-item.result (subst (IsWellFormedRow key_widths) (sym c.row-item.is) (c.requires c.loop-row.row-index c.row-item.result c.loop-row-test.true))

pub loop-row-preserved : goal.loop-row-preserved
loop-row-preserved c =
    reach_more c.args.rows.now c.loop-row.row-index c.loop-row.made.items c.push-in-loop-row.new.self.items c.loop-row.reach c.end_of.result c.later-reach.result c.row-item.result c.loop-row-test.true c.row-item.is c.loop-row.invariant
    c.end_of.ensures c.later-reach.ensures c.in_ok-push-2.ensures.items
