use Rattle.world_rules.proofs.RelationLaws.{nothing_before}
use Rattle.world_laws.proofs.relations.nothing_stands_before.Goals as goal

pub returns : goal.returns
returns c = nothing_before
