use Rattle.green_fakes.proofs.Model.{calls_are_modelled}
use Rattle.green_fakes.proofs.laws.calls_are_modelled.Goals as goal

pub returns : goal.returns
returns c = calls_are_modelled
