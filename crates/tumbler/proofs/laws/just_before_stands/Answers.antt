use Rattle.tumbler.proofs.JustBefore.{just_before_stands}
use Rattle.tumbler.proofs.laws.just_before_stands.Goals as goal

pub returns : goal.returns
returns c = just_before_stands
