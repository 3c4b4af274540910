use Rattle.green_fakes.proofs.Allowed.{modelled_are_images}
use Rattle.green_fakes.proofs.laws.modelled_are_images.Goals as goal

pub returns : goal.returns
returns c = modelled_are_images
