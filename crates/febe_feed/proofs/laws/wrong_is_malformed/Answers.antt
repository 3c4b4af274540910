use Rattle.febe_feed.proofs.Malformed.{wrong_is_malformed}
use Rattle.febe_feed.proofs.laws.wrong_is_malformed.Goals as goal

pub returns : goal.returns
returns c = wrong_is_malformed
