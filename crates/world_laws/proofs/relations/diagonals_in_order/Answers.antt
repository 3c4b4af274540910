use Rattle.world_rules.proofs.RelationOrder.{diagonals_ordered}
use Rattle.world_laws.proofs.relations.diagonals_in_order.Goals as goal

pub returns : goal.returns
returns c = diagonals_ordered
