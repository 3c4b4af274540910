use Rattle.febe_fields.proofs.Live.{never_stuck}
use Rattle.febe_fields.proofs.laws.never_stuck.Goals as goal

pub returns : goal.returns
returns c = never_stuck
