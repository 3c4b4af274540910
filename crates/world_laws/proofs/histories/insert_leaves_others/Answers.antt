use Rattle.world_rules.proofs.Inserted.{insert_leaves_others}
use Rattle.world_laws.proofs.histories.insert_leaves_others.Goals as goal

pub returns : goal.returns
returns c = insert_leaves_others
