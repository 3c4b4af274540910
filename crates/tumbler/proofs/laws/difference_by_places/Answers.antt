use Rattle.tumbler.proofs.ByPlaces.{difference_by_places}
use Rattle.tumbler.proofs.laws.difference_by_places.Goals as goal

pub returns : goal.returns
returns c = difference_by_places
