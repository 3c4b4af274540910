use Rattle.world_rules.proofs.Publishing.{new_is_private}
use Rattle.world_laws.proofs.privacy.new_is_private.Goals as goal

pub returns : goal.returns
returns c = new_is_private
