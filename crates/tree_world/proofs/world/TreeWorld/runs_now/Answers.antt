use Rattle.std.proofs.Common.{map}
use Rattle.febe_data.specs.Plain.{plain_spec}
use Rattle.tree_world.proofs.NowShown.{now_more, now_all}
use Rattle.tree_world.proofs.world.TreeWorld.runs_now.Goals as goal

pub loop-run-preserved : goal.loop-run-preserved
loop-run-preserved c = (
  λ view stands.
      now_more view.world c.args.self.now c.args.account.now c.args.runs.now c.loop-run.run-index c.run-item.result (map plain_spec c.loop-run.made.items) (map plain_spec c.push_now.new.made.items) c.loop-run-test.true c.run-item.is (c.loop-run.invariant.0 view stands) (c.in_ok-push_now.ensures.value view stands),
  c.in_ok-push_now.ensures.valid c.loop-run.invariant.1,
)

pub returns-clause-value : goal.returns-clause-value
returns-clause-value c view stands = now_all view.world c.args.self.now c.args.account.now c.args.runs.now c.loop-run.run-index _ c.loop-run-test.false (c.loop-run.invariant.0 view stands)
