use Rattle.world_rules.proofs.Inserted.{copy_leaves_others}
use Rattle.world_laws.proofs.histories.copy_leaves_others.Goals as goal

pub returns : goal.returns
returns c = copy_leaves_others
