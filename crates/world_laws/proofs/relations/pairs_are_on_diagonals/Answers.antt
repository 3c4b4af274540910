use Rattle.world_rules.proofs.RelationLaws.{on_diagonals}
use Rattle.world_laws.proofs.relations.pairs_are_on_diagonals.Goals as goal

pub returns : goal.returns
returns c = on_diagonals
