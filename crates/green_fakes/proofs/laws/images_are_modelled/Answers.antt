use Rattle.green_fakes.proofs.Model.{images_are_modelled}
use Rattle.green_fakes.proofs.laws.images_are_modelled.Goals as goal

pub returns : goal.returns
returns c = images_are_modelled
