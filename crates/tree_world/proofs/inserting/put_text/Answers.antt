use Rattle.std.proofs.Common.{◌∙◌, ◌≤◌, ℕ, length, sym, subst}
use Rattle.tree_world.proofs.Roots.{taken_back, within_grown}
use Rattle.tree_world.proofs.inserting.put_text.Goals as goal

pub back-requires : goal.back-requires
back-requires c = record {
  below = c.mark-mark.ensures.below;
  held = subst (λ (n : ℕ). n ≤ length c.put.new.self.nodes) (sym c.mark-mark.ensures.count) (within_grown c.args.contents.now.nodes c.put.new.self.nodes c.put.ensures.grows);
}

pub returns-in_default-clause-refused : goal.returns-in_default-clause-refused
returns-in_default-clause-refused c = λ i. record {
  nodes = (c.back.ensures.nodes ∙ taken_back c.args.contents.now.nodes c.put.new.self.nodes c.mark-mark.result.count c.put.ensures.grows c.mark-mark.ensures.count) i;
  root = (c.back.ensures.root ∙ c.mark-mark.ensures.root) i;
}
