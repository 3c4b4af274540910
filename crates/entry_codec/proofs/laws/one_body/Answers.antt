use Rattle.entry_codec.proofs.BodyLaws.{one_body}
use Rattle.entry_codec.proofs.laws.one_body.Goals as goal

pub returns : goal.returns
returns c = one_body
