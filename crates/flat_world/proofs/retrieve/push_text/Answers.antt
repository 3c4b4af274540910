use Rattle.std.proofs.Common.{◌≡◌, ◌∙◌, ◌&&◌, ◌++◌, ◌==◌, ◌+◌, true, false, not, length, take, get_or, sym, ap}
use Rattle.std.specs.Prelude.{filter}
use Rattle.std.specs.Option.{option_to_list}
use Rattle.std.proofs.lemmas.Result.{on_ok_weaker}
use Rattle.world_rules.specs.declared.rows.Row.{Row}
use Rattle.world_rules.specs.World.{is_text_of}
use Rattle.world_rules.specs.Picking.{is_within}
use Rattle.flat_world.specs.inside.ByteIndex.{byte_of, bytes_of}
use Rattle.flat_rows.proofs.Picked.{filter_more_no}
use Rattle.flat_world.proofs.Retrieved.{bytes_more_yes, picked_more_yes, both_true, first_false, second_false}
use Rattle.world_rules.proofs.Valid.{tumblers_push}
use Rattle.flat_world.proofs.retrieve.push_text.Goals as goal
use Rattle.flat_world.proofs.retrieve.push_text.Goals.{then-is_text_of+then-is_within+in_ok-push_byte, else-is_text_of, else-is_text_of-via-then-is_text_of+else-is_within, else-is_text_of-via-else-is_text_of}

pub loop-row-preserved : goal.loop-row-preserved
loop-row-preserved c =
    let document = c.args.document.now in
    let start = c.args.start.now in
    let end = c.args.end.now in
    let index = c.args.index.now in
    let p = λ (row : Row). is_text_of document row && is_within start end row in
    let rows = c.args.rows.now in
    let i = c.loop-row.row-index in
    let row = c.row-item.result in
    let here : row ≡ get_or rows i row = c.row-item.is in
    let at_row : p (get_or rows i row) ≡ p row = ap p (sym here) in
    let text_before : c.loop-row.text.items ≡ bytes_of index (filter p (take i rows)) = c.loop-row.invariant.0 in
    let picked_before : c.loop-row.picked ≡ not (length (filter p (take i rows)) == 0) = c.loop-row.invariant.1 in
    elim c.if-is_text_of.branch [
      | then-is_text_of+then-is_within+in_ok-push_byte w ↦
          let passes : p (get_or rows i row) ≡ true = at_row ∙ both_true _ _ _ _ c.is_text_of.ensures w.if-is_text_of.true w.is_within.ensures w.if-is_within.true in
          let bytes = bytes_more_yes index p rows i row c.loop-row-test.true passes in
          let more = picked_more_yes p rows i row c.loop-row-test.true passes in
          let pushed : w.push_byte.new.text.items ≡ c.loop-row.text.items ++ option_to_list (byte_of index row.address) = w.in_ok-push_byte.ensures in
          let text : c.if-is_text_of.text.items ≡ bytes_of index (filter p (take (i + 1) rows)) = cc in
          let picked : c.if-is_text_of.picked ≡ not (length (filter p (take (i + 1) rows)) == 0) = w.picked-is ∙ sym (ap not more) in
          (text, picked)
      | else-is_text_of w ↦
          let fails : p (get_or rows i row) ≡ false = at_row ∙ (elim w.else-is_text_of.branch [
            | else-is_text_of-via-then-is_text_of+else-is_within v ↦ second_false _ _ _ v.is_within.ensures v.if-is_within.false
            | else-is_text_of-via-else-is_text_of v ↦ first_false _ _ _ c.is_text_of.ensures v.if-is_text_of.false
          ]) in
          let same = filter_more_no p rows i row c.loop-row-test.true fails in
          let text : c.if-is_text_of.text.items ≡ bytes_of index (filter p (take (i + 1) rows)) = cc in
          let picked : c.if-is_text_of.picked ≡ not (length (filter p (take (i + 1) rows)) == 0) = cc in
          (text, picked)
    ]

pub returns-clause-valid : goal.returns-clause-valid
returns-clause-valid c = on_ok_weaker c.push.result (λ e all. tumblers_push c.args.items.now.items c.push.new.self.items _ e tt all) c.push.ensures.ok
