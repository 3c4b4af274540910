use Rattle.world_elders.proofs.Content.{numbers_content}
use Rattle.world_elders.proofs.laws.numbers_content.Goals as goal

pub returns : goal.returns
returns c = numbers_content
