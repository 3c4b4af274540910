use Rattle.febe_feed.proofs.Pieces.{push_goes_on}
use Rattle.febe_feed.proofs.laws.push_goes_on.Goals as goal

pub returns : goal.returns
returns c = push_goes_on
