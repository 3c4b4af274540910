use Rattle.world_laws.proofs.Isolated.{same_replies}
use Rattle.world_laws.proofs.privacy.same_replies.Goals as goal

pub returns : goal.returns
returns c = same_replies
