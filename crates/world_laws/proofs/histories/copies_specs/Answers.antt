use Rattle.world_rules.proofs.Copied.{copies_specs}
use Rattle.world_laws.proofs.histories.copies_specs.Goals as goal

pub returns : goal.returns
returns c = copies_specs
