use Rattle.tree_world.proofs.RunsMeet.{runs_meet_exactly}
use Rattle.tree_world.proofs.laws.runs_meet_exactly.Goals as goal

pub returns : goal.returns
returns c = runs_meet_exactly
