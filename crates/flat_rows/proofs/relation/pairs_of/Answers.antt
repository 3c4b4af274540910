use Rattle.std.proofs.Common.{◌∙◌, ◌++◌, List, ap, sym}
use Rattle.febe_data.specs.Plain.{plain_spec}
use Rattle.std.specs.Prelude.{filter}
use Rattle.world_rules.specs.declared.pairs.Pair.{Pair}
use Rattle.world_rules.specs.declared.rows.Row.{Row}
use Rattle.world_rules.specs.Picking.{is_picked_by}
use Rattle.flat_rows.specs.PairIndex.{pairs_with, places_in}
use Rattle.flat_rows.proofs.Relations.{pairs_yes, pairs_no}
use Rattle.flat_rows.proofs.relation.pairs_of.Goals as goal
use Rattle.flat_rows.proofs.relation.pairs_of.Goals.{then-is_picked+in_ok-push_row, else-is_picked}

pub loop-row-preserved : goal.loop-row-preserved
loop-row-preserved c =
    let rows = c.args.rows.now in
    let p = is_picked_by (plain_spec c.args.left.now) in
    let others = filter (is_picked_by (plain_spec c.args.right.now)) rows in
    let row = c.row-item.result in
    elim c.if-is_picked.branch [
      | then-is_picked+in_ok-push_row w ↦
          let here = ap (λ (r : Row). pairs_with r.n (places_in c.in_ok-index.index r.address)) c.row-item.is in
          rw w.pairs-is
          (pairs_yes p others rows c.in_ok-index.index c.loop-row.row-index row c.loop-row.pairs.items w.push_row.new.pairs.items c.loop-row-test.true (ap p (sym c.row-item.is) ∙ sym c.is_picked.ensures ∙ w.if-is_picked.true) c.in_ok-index.ensures c.loop-row.invariant
          (w.in_ok-push_row.ensures ∙ ap (λ (more : List Pair). c.loop-row.pairs.items ++ more) here))
      | else-is_picked w ↦ rw w.pairs-is (pairs_no p others rows c.loop-row.row-index row c.loop-row.pairs.items c.loop-row-test.true (ap p (sym c.row-item.is) ∙ sym c.is_picked.ensures ∙ w.if-is_picked.false) c.loop-row.invariant)
    ]
