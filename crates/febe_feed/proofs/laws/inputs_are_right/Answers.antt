use Rattle.febe_feed.proofs.Malformed.{inputs_are_right}
use Rattle.febe_feed.proofs.laws.inputs_are_right.Goals as goal

pub returns : goal.returns
returns c = inputs_are_right
