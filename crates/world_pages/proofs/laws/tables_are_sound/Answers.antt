use Rattle.world_pages.proofs.Stored.{tables_are_sound}
use Rattle.world_pages.proofs.laws.tables_are_sound.Goals as goal

pub returns : goal.returns
returns c = tables_are_sound
