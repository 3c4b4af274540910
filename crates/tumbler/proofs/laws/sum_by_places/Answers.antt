use Rattle.tumbler.proofs.ByPlaces.{sum_by_places}
use Rattle.tumbler.proofs.laws.sum_by_places.Goals as goal

pub returns : goal.returns
returns c = sum_by_places
