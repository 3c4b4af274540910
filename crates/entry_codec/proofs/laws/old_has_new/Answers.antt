use Rattle.entry_codec.proofs.BodyLaws.{old_has_new}
use Rattle.entry_codec.proofs.laws.old_has_new.Goals as goal

pub returns : goal.returns
returns c = old_has_new
