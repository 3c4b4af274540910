use Rattle.tumbler.proofs.ByPlaces.{order_by_places}
use Rattle.tumbler.proofs.laws.order_by_places.Goals as goal

pub returns : goal.returns
returns c = order_by_places
