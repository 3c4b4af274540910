use Rattle.world_rules.proofs.Linked.{ids_for_links}
use Rattle.world_laws.proofs.histories.ids_for_links.Goals as goal

pub returns : goal.returns
returns c = ids_for_links
