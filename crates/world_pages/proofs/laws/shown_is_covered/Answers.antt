use Rattle.world_pages.proofs.Stored.{shown_is_covered}
use Rattle.world_pages.proofs.laws.shown_is_covered.Goals as goal

pub returns : goal.returns
returns c = shown_is_covered
