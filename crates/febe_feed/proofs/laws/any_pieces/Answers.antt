use Rattle.febe_feed.proofs.Pieces.{any_pieces}
use Rattle.febe_feed.proofs.laws.any_pieces.Goals as goal

pub returns : goal.returns
returns c = any_pieces
