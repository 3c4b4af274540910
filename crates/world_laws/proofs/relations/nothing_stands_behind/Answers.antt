use Rattle.world_rules.proofs.RelationLaws.{nothing_behind}
use Rattle.world_laws.proofs.relations.nothing_stands_behind.Goals as goal

pub returns : goal.returns
returns c = nothing_behind
