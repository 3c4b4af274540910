use Rattle.world_rules.proofs.RelationLaws.{have_pairs}
use Rattle.world_laws.proofs.relations.diagonals_have_pairs.Goals as goal

pub returns : goal.returns
returns c = have_pairs
