use Rattle.world_rules.proofs.Linked.{links_numbered}
use Rattle.world_laws.proofs.histories.links_numbered.Goals as goal

pub returns : goal.returns
returns c = links_numbered
