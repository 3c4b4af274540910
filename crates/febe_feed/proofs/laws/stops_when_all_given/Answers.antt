use Rattle.febe_feed.proofs.Pieces.{stops_when_all_given}
use Rattle.febe_feed.proofs.laws.stops_when_all_given.Goals as goal

pub returns : goal.returns
returns c = stops_when_all_given
