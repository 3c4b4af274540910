use Rattle.tumbler.proofs.Reaches.{reach_is_joined}
use Rattle.tumbler.proofs.laws.reach_is_joined.Goals as goal

pub returns : goal.returns
returns c = reach_is_joined
