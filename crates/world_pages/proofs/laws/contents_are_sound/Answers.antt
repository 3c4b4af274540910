use Rattle.world_pages.proofs.Stored.{contents_are_sound}
use Rattle.world_pages.proofs.laws.contents_are_sound.Goals as goal

pub returns : goal.returns
returns c = contents_are_sound
