use Rattle.std.proofs.Common.{List, ◌∙◌, ◌++◌, ap, length, codes, ℕ}
use Rattle.febe_data.specs.Plain.{PlainEntry, plain_history}
use Rattle.febe_data.specs.declared.entry.Entry.{Entry}
use Rattle.world_rules.specs.Apply.{world_of}
use Rattle.world_rules.specs.FlatView.{view_of}
use Rattle.world_rules.specs.World.{World}
use Rattle.world_rules.proofs.Folded.{folds_to_world}
use Rattle.green_top.specs.Summary.{summary_line, replies_sum}
use Rattle.green_top.proofs.Summings.{summary_is}
use Rattle.green_top.proofs.summary.summary_of.Goals as goal

pub returns : goal.returns
returns c = λ told spell.
    let history = c.args.store.now.history in
    let made = c.made_by-made in
    summary_is c.args.start told (world_of history) c.in_ok-refused.refused made.result.documents c.content.result made.result.links c.sum_of-sum.result c.new-out.result.items _ _ _ _ _ _ _
    (c.in_ok-refused.ensures told spell)
    (made.ensures.documents ∙ ap (λ (entries : List Entry). length (world_of (plain_history entries)).documents) c.as_slice.ensures ∙ ap (λ (h : List PlainEntry). length (world_of h).documents) c.history.ensures)
    (c.content.ensures (view_of history) c.world.ensures.stands ∙ ap (λ (world : World). length world.bytes) (folds_to_world history))
    (made.ensures.links ∙ ap (λ (entries : List Entry). length (world_of (plain_history entries)).links) c.as_slice.ensures ∙ ap (λ (h : List PlainEntry). length (world_of h).links) c.history.ensures)
    (c.sum_of-sum.ensures ∙ ap replies_sum spell.spelled)
    c.new-out.ensures.items
    (c.in_ok-append_line.ensures ∙ ap (λ (n : ℕ). c.new-out.result.items ++ summary_line (codes "start") n) c.from.ensures)
    c.in_ok-append_line-2.ensures c.in_ok-append_line-3.ensures c.in_ok-append_line-4.ensures c.in_ok-append_line-5.ensures c.in_ok-append_line-6.ensures c.in_ok-append_line-7.ensures
