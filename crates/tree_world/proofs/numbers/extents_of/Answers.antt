use Rattle.tree_world.specs.inside.InEnds.{IsWithin}
use Rattle.tree_world.proofs.Lists.{all_of_all}
use Rattle.tree_world.proofs.ByContent.{within_more}
use Rattle.tree_world.proofs.numbers.extents_of.Goals as goal

pub loop-run-preserved : goal.loop-run-preserved
loop-run-preserved c =
    within_more c.args.runs.now c.loop-run.run-index c.run-item.result c.loop-run.extents c.insert.new.self c.copy.result c.extent_with-extent.result c.loop-run-test.true c.run-item.is c.loop-run.invariant c.in_ok-insert.ensures.updates c.copy.ensures
    c.extent_with-extent.ensures.wider c.extent_with-extent.ensures.from c.extent_with-extent.ensures.to

pub returns : goal.returns
returns c = all_of_all (IsWithin c.loop-run.extents) c.args.runs.now c.loop-run.run-index c.loop-run-test.false c.loop-run.invariant
