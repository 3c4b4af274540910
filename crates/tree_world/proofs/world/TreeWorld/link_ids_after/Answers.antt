use Rattle.std.proofs.Common.{◌∙◌, take, All, ap, subst}
use Rattle.std.specs.Ordering.{nat_cmp}
use Rattle.std.specs.Cmp.Lexicographic.{slice_cmp}
use Rattle.std.specs.List.Sorted.{IsStrictlySortedBy}
use Rattle.tumbler.specs.Places.{IsTumbler}
use Rattle.febe_data.specs.Plain.{plain_want}
use Rattle.links.specs.LinkLists.{ids_in}
use Rattle.links.specs.Readable.{ids_read}
use Rattle.tree_world.specs.Trees.{Trees}
use Rattle.tree_world.specs.inside.Reads.{reads_in}
use Rattle.tree_world.proofs.Linked.{found_after}
use Rattle.tree_world.proofs.world.TreeWorld.link_ids_after.Goals as goal

pub returns : goal.returns
returns c = record {
  items = λ view stands.
      let account = c.account_of_session-account.result in
      found_after c.args.self.now view stands c.args.session account (c.account_of_session-account.ensures view stands) (plain_want c.args.want.now)
      (subst (λ (t : Trees). IsStrictlySortedBy (slice_cmp nat_cmp) (ids_in t.links.links)) c.self.view_is c.in_order.ensures.ascends) c.args.after.now c.args.limit c.in_ok-met.met.items c.as_slice-ids.result.now c.in_ok-found.found.items (c.in_ok-met.ensures view stands) c.as_slice-ids.ensures
      (c.in_ok-found.ensures ∙ ap (λ (t : Trees). take c.args.limit (ids_read (reads_in t account) t.links.links c.as_slice-ids.result.now)) c.self.view_is);
  valid = subst (All IsTumbler) c.as_slice.ensures c.are_tumblers.ensures;
}
