use Rattle.std.proofs.Common.{◌≡◌, ℕ, List, ap, ◌∙◌}
use Rattle.std.specs.List.{filter}
use Rattle.std.proofs.lemmas.Result.{IfOk-weaker}
use Rattle.tumbler.specs.ListView.{ListView}
use Rattle.spanfilade.specs.Index.{IndexTree, rows_in_index}
use Rattle.spanfilade.specs.Keys.{is_met, keys_met}
use Rattle.spanfilade.proofs.KeysMet.{keys_more, keys_all}
use Rattle.spanfilade.proofs.spanfilade.Spanfilade.keys_meeting.Goals as goal

pub loop-span-preserved : goal.loop-span-preserved
loop-span-preserved c =
    keys_more (rows_in_index c.args.self.now) c.as_slice-in-loop-span.result.now c.in_ok-rows.rows.items c.as_slice-span-items.result.now c.loop-span.span-index c.span-item.result c.loop-span.keys.keys c.take_keys.new.keys.keys
    c.loop-span-test.true c.span-item.is c.loop-span.invariant c.as_slice-in-loop-span.ensures
    (c.in_ok-rows.ensures ∙ ap (λ (tree : IndexTree). filter (is_met c.span-item.result) (rows_in_index tree)) c.self.view_is) c.in_ok-take_keys.ensures

pub returns : goal.returns
returns c =
    IfOk-weaker c.listed.result (λ (found : ListView (List ℕ)). found.items ≡ c.loop-span.keys.keys) (λ (found : ListView (List ℕ)). found.items ≡ keys_met c.args.spans.now.items (rows_in_index c.args.self.now))
    (λ found is. is ∙ keys_all (rows_in_index c.args.self.now) c.as_slice-span-items.result.now c.in_ok-joined.joined.items c.args.spans.now.items c.as_slice.result.now c.loop-span.span-index c.loop-span.keys.keys
    c.loop-span-test.false c.as_slice-span-items.ensures c.as_slice.ensures c.in_ok-joined.ensures.met c.loop-span.invariant)
    c.listed.ensures
