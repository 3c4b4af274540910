use Rattle.std.proofs.Common.{All, subst}
use Rattle.links.specs.LinkLists.{IsRun}
use Rattle.tree_world.proofs.world.TreeWorld.link_between.Goals as goal

pub returns-clause-runs : goal.returns-clause-runs
returns-clause-runs c = record {
  from = subst (All IsRun) c.as_slice.ensures (c.are_runs.ensures c.if-not-are_runs.false);
  to = subst (All IsRun) c.as_slice-else-not-are_runs.ensures (c.are_runs-else-not-are_runs.ensures c.if-not-are_runs-2.false);
  three = subst (All IsRun) c.as_slice-else-not-are_runs-2.ensures (c.are_runs-else-not-are_runs-2.ensures c.if-not-are_runs-3.false);
}
