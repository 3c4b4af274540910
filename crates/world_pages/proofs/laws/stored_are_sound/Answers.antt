use Rattle.world_pages.proofs.Stored.{stored_are_sound}
use Rattle.world_pages.proofs.laws.stored_are_sound.Goals as goal

pub returns : goal.returns
returns c = stored_are_sound
