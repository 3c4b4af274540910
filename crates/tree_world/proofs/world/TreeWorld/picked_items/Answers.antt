use Rattle.std.proofs.Common.{◌∙◌, map, subst, sym}
use Rattle.febe_data.specs.Plain.{plain_spec}
use Rattle.granfilade.specs.Content.{tree_rows}
use Rattle.granfilade.specs.Puts.{IsContent}
use Rattle.tree_world.specs.Trees.{Trees}
use Rattle.tree_world.proofs.Retrieved.{items_seen}
use Rattle.tree_world.proofs.world.TreeWorld.picked_items.Goals as goal

pub returns-clause-items : goal.returns-clause-items
returns-clause-items c view stands =
    c.in_ok-items.ensures.items
    ∙ sym (items_seen c.args.self.now view stands (subst (λ (t : Trees). IsContent (tree_rows t.contents)) c.self.view_is c.self.invariant.2) (map plain_spec c.args.specs.now))
