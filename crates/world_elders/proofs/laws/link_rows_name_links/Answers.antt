use Rattle.world_elders.proofs.Whole.{link_rows_name_links}
use Rattle.world_elders.proofs.laws.link_rows_name_links.Goals as goal

pub returns : goal.returns
returns c = link_rows_name_links
