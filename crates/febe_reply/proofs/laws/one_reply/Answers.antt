use Rattle.febe_reply.proofs.ReplyLaws.{one_form}
use Rattle.febe_reply.proofs.laws.one_reply.Goals as goal

pub returns : goal.returns
returns c = one_form
