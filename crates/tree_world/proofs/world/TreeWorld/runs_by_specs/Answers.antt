use Rattle.std.proofs.Common.{refl}
use Rattle.poom.specs.Edited.{run_addresses}
use Rattle.febe_data.specs.Plain.{plain_spec}
use Rattle.tree_world.specs.inside.Seen.{addresses_by_spec, runs_by_spec}
use Rattle.tree_world.proofs.Steps.{spec_at}
use Rattle.tree_world.proofs.world.TreeWorld.runs_by_specs.Goals as goal

pub loop-spec-preserved : goal.loop-spec-preserved
loop-spec-preserved c = (
  spec_at (runs_by_spec c.args.self.now) c.args.specs.now c.loop-spec.spec-index c.spec-item.result c.loop-spec.made.items c.push_spec_runs.new.made.items (runs_by_spec c.args.self.now (plain_spec c.spec-item.result))
      c.loop-spec-test.true c.spec-item.is refl c.in_ok-push_spec_runs.ensures.runs c.loop-spec.invariant.0,
  spec_at (addresses_by_spec c.args.self.now) c.args.specs.now c.loop-spec.spec-index c.spec-item.result (run_addresses c.loop-spec.made.items) (run_addresses c.push_spec_runs.new.made.items) (addresses_by_spec c.args.self.now (plain_spec c.spec-item.result))
      c.loop-spec-test.true c.spec-item.is refl c.in_ok-push_spec_runs.ensures.bytes c.loop-spec.invariant.1,
  c.in_ok-push_spec_runs.ensures.content c.loop-spec.invariant.2,
)
