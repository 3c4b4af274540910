use Rattle.std.proofs.Common.{◌∙◌, ap}
use Rattle.world_rules.specs.Ends.{run_now}
use Rattle.flat_world.proofs.Endings.{specs_more, specs_valid}
use Rattle.flat_world.proofs.flat.FlatWorld.runs_now.Goals as goal

pub loop-run-preserved : goal.loop-run-preserved
loop-run-preserved c = record {
  value =
      specs_more (run_now c.args.self.now.world) c.args.runs.now c.loop-run.run-index c.run-item.result c.loop-run.specs.items c.push.new.self.items c.in_ok-run_now.field-0 c.loop-run-test.true
      c.in_ok-push.ensures.ok (c.in_ok-run_now.ensures.value ∙ ap (run_now c.args.self.now.world) c.run-item.is) c.loop-run.invariant.value;
  valid = specs_valid c.loop-run.specs.items c.push.new.self.items c.in_ok-run_now.field-0 c.in_ok-push.ensures.ok c.in_ok-run_now.ensures.valid c.loop-run.invariant.valid;
}
