use Rattle.world_rules.proofs.RelationLaws.{on_one_diagonal}
use Rattle.world_laws.proofs.relations.pairs_are_on_one_diagonal.Goals as goal

pub returns : goal.returns
returns c = on_one_diagonal
