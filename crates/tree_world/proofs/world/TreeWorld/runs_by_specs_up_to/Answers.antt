use Rattle.std.proofs.Common.{◌++◌, subst}
use Rattle.febe_data.specs.Plain.{plain_spec}
use Rattle.tree_world.specs.inside.Seen.{runs_by_spec, ComesTo}
use Rattle.tree_world.proofs.Steps.{front_of_specs}
use Rattle.tree_world.proofs.world.TreeWorld.runs_by_specs_up_to.Goals as goal

pub returns-then-not-branch-clause-many : goal.returns-then-not-branch-clause-many
returns-then-not-branch-clause-many c =
    let parts = subst (ComesTo c.args.most (c.loop-spec.made.items ++ runs_by_spec c.args.self.now (plain_spec c.spec-item.result)) c.push_spec_runs_up_to.new.made.items) c.if-not-branch.true c.in_ok-push_spec_runs_up_to.ensures in
    front_of_specs (runs_by_spec c.args.self.now) c.args.specs.now c.loop-spec.spec-index c.spec-item.result c.args.most c.loop-spec.made.items c.push_spec_runs_up_to.new.made.items c.loop-spec-test.true c.spec-item.is c.loop-spec.invariant parts.0 parts.1
