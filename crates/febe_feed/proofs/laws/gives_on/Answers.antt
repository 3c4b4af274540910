use Rattle.febe_feed.proofs.Pieces.{gives_on}
use Rattle.febe_feed.proofs.laws.gives_on.Goals as goal

pub returns : goal.returns
returns c = gives_on
