use Rattle.tree_world_tests.proofs.Entered.{if_done}
use Rattle.tree_world_tests.proofs.private.enter.Goals as goal

pub returns : goal.returns
returns c = if_done c.apply.result _ _ (λ stands. record { view = _; stands = stands }) (c.apply.ensures.ok c.requires.view c.requires.stands)
