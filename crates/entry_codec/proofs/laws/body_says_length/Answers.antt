use Rattle.entry_codec.proofs.BodyLaws.{body_says_length}
use Rattle.entry_codec.proofs.laws.body_says_length.Goals as goal

pub returns : goal.returns
returns c = body_says_length
