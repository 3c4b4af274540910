use Rattle.std.proofs.Common.{◌≡◌, ◌∙◌, ℕ, List, Option, ap, refl, subst}
use Rattle.std.specs.Prelude.{IfSome}
use Rattle.std.specs.List.{filter}
use Rattle.tumbler.specs.ListView.{ListView}
use Rattle.enfilade_core.specs.declared.tree.Row.{Row}
use Rattle.enfilade_core.specs.Plain.{plain_row}
use Rattle.spanfilade.specs.Index.{IndexTree, rows_in_index}
use Rattle.spanfilade.specs.Keys.{is_met}
use Rattle.spanfilade.proofs.KeysMet.{keys_more, keys_all}
use Rattle.spanfilade.proofs.RowCounts.{counted_more, past_limit}
use Rattle.std.proofs.Common.{map}
use Rattle.spanfilade.proofs.spanfilade.Spanfilade.keys_meeting_up_to.Goals as goal

pub returns-in_default-clause-more : goal.returns-in_default-clause-more
returns-in_default-clause-more c =
    past_limit (record { nodes = c.self.inside.arena; root = c.self.inside.root }) c.args.self.now c.self.view_is c.as_slice-span-items.result.now c.loop-span.span-index c.args.limit c.loop-span.left c.span-item.result
    c.loop-span-test.true c.span-item.is c.loop-span.invariant.1 c.in_ok-rows.field-0 c.args.spans.now.items c.in_default.is c.in_ok-rows.ensures.more c.as_slice-span-items.ensures

pub loop-span-preserved : goal.loop-span-preserved
loop-span-preserved c =
    let tree : IndexTree = record { nodes = c.self.inside.arena; root = c.self.inside.root } in
    let met = subst (λ (o : Option (ListView (Row (List ℕ)))). IfSome o (λ made. map (plain_row (λ (width : List ℕ). width)) made.items ≡ filter (is_met c.span-item.result) (rows_in_index tree))) c.in-Some.is c.in_ok-rows.ensures.rows in (
      keys_more (rows_in_index c.args.self.now) c.as_slice.result.now c.in-Some.rows.items c.as_slice-span-items.result.now c.loop-span.span-index c.span-item.result c.loop-span.keys.keys c.take_keys.new.keys.keys
          c.loop-span-test.true c.span-item.is c.loop-span.invariant.0 c.as_slice.ensures
          (met ∙ ap (λ (t : IndexTree). filter (is_met c.span-item.result) (rows_in_index t)) c.self.view_is) c.in_ok-take_keys.ensures,
      counted_more tree c.args.self.now c.self.view_is c.as_slice-span-items.result.now c.loop-span.span-index c.args.limit c.loop-span.left c.span-item.result
          c.loop-span-test.true c.span-item.is c.loop-span.invariant.1 c.in_ok-rows.field-0 c.in-Some.rows c.len-left.result c.in-Some.is c.in_ok-rows.ensures.rows c.in_ok-rows.ensures.few c.len-left.ensures,
    )

pub returns-clause-keys : goal.returns-clause-keys
returns-clause-keys c =
    c.in_ok-keys.ensures
    ∙ keys_all (rows_in_index c.args.self.now) c.as_slice-span-items.result.now c.args.spans.now.items c.args.spans.now.items c.args.spans.now.items c.loop-span.span-index c.loop-span.keys.keys
    c.loop-span-test.false c.as_slice-span-items.ensures refl (λ row. refl) c.loop-span.invariant.0
