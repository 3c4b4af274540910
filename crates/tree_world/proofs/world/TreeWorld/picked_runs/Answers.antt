use Rattle.std.proofs.Common.{◌∙◌, map, sym}
use Rattle.febe_data.specs.Plain.{plain_spec}
use Rattle.tree_world.proofs.Seen.{runs_seen}
use Rattle.tree_world.proofs.world.TreeWorld.picked_runs.Goals as goal

pub returns : goal.returns
returns c view stands = c.in_ok-runs.ensures.runs ∙ sym (runs_seen c.args.self.now view stands (map plain_spec c.args.specs.now))
