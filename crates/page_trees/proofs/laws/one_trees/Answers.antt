use Rattle.page_trees.proofs.Held.{one_streams}
use Rattle.page_trees.proofs.laws.one_trees.Goals as goal

pub returns : goal.returns
returns c = one_streams
