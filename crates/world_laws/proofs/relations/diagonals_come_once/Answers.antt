use Rattle.world_rules.proofs.RelationLaws.{come_once}
use Rattle.world_laws.proofs.relations.diagonals_come_once.Goals as goal

pub returns : goal.returns
returns c = come_once
