use Rattle.tree_world_tests.proofs.private.enter_and_undo.Goals as goal

pub undo-requires : goal.undo-requires
undo-requires g c = c.in_ok-undo.ensures.last c.requires.view c.requires.stands

pub returns : goal.returns
returns g c = record { view = c.requires.view; stands = c.undo.ensures.stands c.requires.view (c.in_ok-undo.ensures.back c.requires.view c.requires.stands) }
