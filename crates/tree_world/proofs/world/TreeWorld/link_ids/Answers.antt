use Rattle.std.proofs.Common.{◌≡◌, ◌∙◌, ℕ, ◌<◌, false, List, sym, subst}
use Rattle.febe_data.specs.Plain.{plain_want}
use Rattle.links.specs.LinkLists.{has_in}
use Rattle.world_rules.specs.Finding.{ids_after}
use Rattle.tree_world.proofs.Linked.{none_least, found_all}
use Rattle.tree_world.proofs.world.TreeWorld.link_ids.Goals as goal

pub returns : goal.returns
returns c = record {
  items = λ view stands.
      let want = plain_want c.args.want.now in
      let found = c.in_ok-found.found.items in
      found_all view.world c.args.session want 4294967295 found
      (none_least c.args.self.now view stands (subst (λ (id : List ℕ). has_in c.args.self.now.links.links id ≡ false) c.zero-least.ensures (sym c.has_id.ensures ∙ c.if-has_id.false)))
      (subst (λ (id : List ℕ). found ≡ ids_after view.world c.args.session want id 4294967295) c.zero-least.ensures (c.in_ok-found.ensures.items view stands))
      (subst (λ (n : ℕ). n < 4294967295) c.len.ensures c.if-len.false);
  valid = c.in_ok-found.ensures.valid;
}
