use Rattle.febe_feed.proofs.Inputted.{waiting_is_open}
use Rattle.febe_feed.proofs.laws.waiting_is_open.Goals as goal

pub returns : goal.returns
returns c = waiting_is_open
