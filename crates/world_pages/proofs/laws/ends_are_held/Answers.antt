use Rattle.world_pages.proofs.Stored.{ends_are_held}
use Rattle.world_pages.proofs.laws.ends_are_held.Goals as goal

pub returns : goal.returns
returns c = ends_are_held
