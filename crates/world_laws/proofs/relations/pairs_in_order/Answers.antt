use Rattle.world_rules.proofs.RelationOrder.{pairs_ordered}
use Rattle.world_laws.proofs.relations.pairs_in_order.Goals as goal

pub returns : goal.returns
returns c = pairs_ordered
