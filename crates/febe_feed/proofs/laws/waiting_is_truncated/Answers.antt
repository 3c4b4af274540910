use Rattle.febe_feed.proofs.Inputted.{waiting_is_truncated}
use Rattle.febe_feed.proofs.laws.waiting_is_truncated.Goals as goal

pub returns : goal.returns
returns c = waiting_is_truncated
