use Rattle.enfilade_sweep.proofs.OneTree.{one_tree}
use Rattle.enfilade_sweep.proofs.one_tree.finish_tree.Goals as goal

pub returns : goal.returns
returns g c root one =
    one_tree g.P.Plane.widths c.args.arena.now c.finish_sweep-roots.new.arena root c.args.plan.roots one c.finish_sweep-roots.result.items c.in-Some.root.now c.in-Some.ensures.value c.finish_sweep-roots.ensures.swept c.finish_sweep-roots.ensures.rows c.finish_sweep-roots.ensures.debts
    c.finish_sweep-roots.ensures.allowed c.finish_sweep-roots.ensures.depths c.finish_sweep-roots.ensures.count c.finish_sweep-roots.ensures.none_left
