use Rattle.world_rules.proofs.Linked.{links_once}
use Rattle.world_laws.proofs.histories.links_once.Goals as goal

pub returns : goal.returns
returns c = links_once
