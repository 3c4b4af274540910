use Rattle.std.proofs.Common.{◌∙◌, All, ap, subst}
use Rattle.links.specs.LinkLists.{IsLink}
use Rattle.links.specs.Finding.{spans_met}
use Rattle.tree_world.specs.Trees.{Trees}
use Rattle.tree_world.specs.inside.Reads.{reads_in, links_for}
use Rattle.tree_world.proofs.ByContent.{read_right, numbers_are}
use Rattle.tree_world.proofs.world.TreeWorld.numbers_in_end.Goals as goal

pub returns : goal.returns
returns c =
    let shown = c.args.self.now in
    let account = c.args.account.now in
    numbers_are (links_for shown account) c.args.end c.number_of-number.result c.args.document.now c.args.extent c.run_between.result c.in_ok-bytes.bytes c.in_ok-spans.spans.items c.as_slice.result.now c.in_ok-all.all.items c.in_ok-made.made.items c.number_of-number.ensures.runs
    (read_right (reads_in shown account) shown.links.links (subst (λ (t : Trees). All IsLink t.links.links) c.self.view_is c.in_order.ensures.runs)) c.run_between.ensures c.in_ok-bytes.ensures.right c.in_ok-bytes.ensures.value
    (c.in_ok-spans.ensures ∙ ap (λ (t : Trees). spans_met c.number_of-number.result c.in_ok-bytes.bytes (links_for t account)) c.self.view_is) c.as_slice.ensures c.in_ok-all.ensures.same c.in_ok-made.ensures.each c.in_ok-made.ensures.apart c.in_ok-made.ensures.same
