use Rattle.std.proofs.Common.{subst, List, ℕ}
use Rattle.enfilade_core.specs.Rows.{Shape}
use Rattle.enfilade_core.specs.Planes.{text_widths}
use Rattle.enfilade_balance.specs.Laws.{SettledTreesAreFull}
use Rattle.tree_world.specs.Laws.{TreesAreFull}
use Rattle.tree_world.proofs.Conditions.{trees_are_full}
use Rattle.tree_world.proofs.laws.trees_are_full.Goals as goal

pub returns : goal.returns
returns c =
    subst TreesAreFull c.world.view_is
    (trees_are_full (record { contents = c.world.inside.contents; content = c.world.inside.content; nodes = c.world.inside.pooms; documents = c.world.inside.documents; index = c.world.inside.index; links = c.world.inside.links; access = c.world.inside.access; counted = c.world.inside.counted; sessions = c.world.inside.sessions; due = c.world.inside.due.items })
    c.contents_are_full.ensures.full c.index_is_full.ensures.full c.ends_are_full.ensures.from c.ends_are_full.ensures.to c.ends_are_full.ensures.three
    (subst (λ (nodes : List (Shape ℕ)). SettledTreesAreFull text_widths nodes) c.arena.ensures c.settled_trees_are_full.ensures) c.world.invariant.0
    c.contents_are_full.ensures.there c.index_is_full.ensures.there c.ends_are_full.ensures.from_there c.ends_are_full.ensures.to_there c.ends_are_full.ensures.three_there)
