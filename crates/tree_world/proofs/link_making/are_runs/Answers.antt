use Rattle.links.specs.LinkLists.{IsRun}
use Rattle.tree_world.proofs.Lists.{more_of_all, all_of_all}
use Rattle.tree_world.proofs.link_making.are_runs.Goals as goal

pub loop-run-preserved : goal.loop-run-preserved
loop-run-preserved c = more_of_all IsRun c.args.runs.now c.loop-run.run-index c.run-item.result c.loop-run-test.true c.run-item.is c.loop-run.invariant c.in-Ok.ensures.right

pub returns : goal.returns
returns c fit = all_of_all IsRun c.args.runs.now c.loop-run.run-index c.loop-run-test.false c.loop-run.invariant
