use Rattle.febe_feed.proofs.Pieces.{starts_with_nothing}
use Rattle.febe_feed.proofs.laws.starts_with_nothing.Goals as goal

pub returns : goal.returns
returns c = starts_with_nothing
