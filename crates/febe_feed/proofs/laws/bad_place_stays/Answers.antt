use Rattle.febe_feed.proofs.BadPlaces.{bad_place_stays}
use Rattle.febe_feed.proofs.laws.bad_place_stays.Goals as goal

pub returns : goal.returns
returns c = bad_place_stays
