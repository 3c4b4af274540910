use Rattle.world_rules.proofs.ByPlace.{picked_by_place}
use Rattle.world_laws.proofs.histories.picked_by_place.Goals as goal

pub returns : goal.returns
returns c = picked_by_place
