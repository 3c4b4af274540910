use Rattle.tumbler.proofs.Reaches.{reach_is_moved}
use Rattle.tumbler.proofs.laws.reach_is_moved.Goals as goal

pub returns : goal.returns
returns c = reach_is_moved
