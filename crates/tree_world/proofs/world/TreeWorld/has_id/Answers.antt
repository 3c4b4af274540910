use Rattle.std.proofs.Common.{◌∙◌, ap}
use Rattle.std.specs.Option.{option_map, option_copied}
use Rattle.links.specs.LinkLists.{plain_link, has_in}
use Rattle.tree_world.specs.Trees.{Trees}
use Rattle.tree_world.proofs.Linked.{is_some_of, is_held}
use Rattle.tree_world.proofs.world.TreeWorld.has_id.Goals as goal

pub returns : goal.returns
returns c =
    c.is_some.ensures
    ∙ is_some_of (λ link. link.now) plain_link c.get.result
    ∙ is_held (option_map plain_link (option_copied c.get.result)) c.self.inside.links.links c.args.id.now c.get.ensures
    ∙ ap (λ (t : Trees). has_in t.links.links c.args.id.now) c.self.view_is
