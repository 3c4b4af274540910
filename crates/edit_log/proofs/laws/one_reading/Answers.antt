use Rattle.edit_log.proofs.Formats.{one_reading}
use Rattle.edit_log.proofs.laws.one_reading.Goals as goal

pub returns : goal.returns
returns c = one_reading c.one_body.ensures c.body_says_length.ensures
