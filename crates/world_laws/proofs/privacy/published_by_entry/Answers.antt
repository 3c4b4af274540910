use Rattle.world_rules.proofs.Publishing.{published_by_entry}
use Rattle.world_laws.proofs.privacy.published_by_entry.Goals as goal

pub returns : goal.returns
returns c = published_by_entry
