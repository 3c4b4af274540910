use Rattle.std.proofs.Common.{◌≡◌, ◌∙◌, ℕ, false, List, length, ap, sym, subst}
use Rattle.std.specs.Ordering.{nat_cmp}
use Rattle.std.specs.Cmp.Lexicographic.{slice_cmp}
use Rattle.std.specs.List.Sorted.{IsStrictlySortedBy}
use Rattle.febe_data.specs.Plain.{plain_want}
use Rattle.links.specs.LinkLists.{ids_in, has_in}
use Rattle.links.specs.Readable.{ids_read}
use Rattle.tree_world.specs.Trees.{Trees}
use Rattle.tree_world.specs.inside.Reads.{reads_in, ids_above}
use Rattle.tree_world.proofs.Linked.{counted}
use Rattle.tree_world.proofs.world.TreeWorld.count_links.Goals as goal

pub returns : goal.returns
returns c view stands =
    let want = plain_want c.args.want.now in
    let links = c.args.self.now.links.links in
    let account = c.account_of_session-account.result in
    counted c.args.self.now view stands c.args.session account (c.account_of_session-account.ensures view stands) want
    (subst (λ (t : Trees). IsStrictlySortedBy (slice_cmp nat_cmp) (ids_in t.links.links)) c.self.view_is c.in_order.ensures.ascends)
    (subst (λ (id : List ℕ). has_in links id ≡ false) c.zero-least.ensures (sym c.has_id.ensures ∙ c.if-has_id.false))
    c.in_ok-met.met.items c.as_slice.result.now c.count_read_for-count.result
    (subst (λ (id : List ℕ). c.in_ok-met.met.items ≡ ids_above view.world want links id) c.zero-least.ensures (c.in_ok-met.ensures view stands)) c.as_slice.ensures
    (c.count_read_for-count.ensures ∙ ap (λ (t : Trees). length (ids_read (reads_in t account) t.links.links c.as_slice.result.now)) c.self.view_is)
