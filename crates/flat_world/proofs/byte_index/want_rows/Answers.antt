use Rattle.std.proofs.Common.{◌&&◌, ◌∙◌, sym, arith}
use Rattle.std.specs.Prelude.{filter}
use Rattle.world_rules.specs.declared.rows.Row.{Row}
use Rattle.world_rules.specs.World.{is_text_of}
use Rattle.world_rules.specs.Picking.{is_within, addresses_of}
use Rattle.flat_world.proofs.ByteIndexes.{wants_yes, wants_no, wants_all}
use Rattle.flat_world.proofs.byte_index.want_rows.Goals as goal
use Rattle.flat_world.proofs.byte_index.want_rows.Goals.{then-is_picked_text+in_ok-insert, else-is_picked_text}

pub loop-row-preserved : goal.loop-row-preserved
loop-row-preserved c =
    let p = λ (row : Row). is_text_of c.args.document.now row && is_within c.args.start.now c.args.end.now row in
    let rows = c.args.rows.now in
    let i = c.loop-row.row-index in
    let row = c.row-item.result in
    elim c.if-is_picked_text.branch [
      | then-is_picked_text+in_ok-insert w ↦
          rw w.index-is (wants_yes p rows i row w.copy.result c.args.index.now c.loop-row.index w.insert.new.self c.loop-row-test.true c.row-item.is
          (sym c.is_picked_text.ensures ∙ w.if-is_picked_text.true) w.copy.ensures c.loop-row.invariant w.in_ok-insert.ensures.updates)
      | else-is_picked_text w ↦
          rw w.index-is (wants_no p rows i row c.args.index.now c.loop-row.index c.loop-row-test.true c.row-item.is (sym c.is_picked_text.ensures ∙ w.if-is_picked_text.false) c.loop-row.invariant)
    ]

pub returns : goal.returns
returns c =
    let p = λ (row : Row). is_text_of c.args.document.now row && is_within c.args.start.now c.args.end.now row in
    wants_all (λ rows. addresses_of (filter p rows)) c.args.rows.now c.loop-row.row-index c.args.index.now c.loop-row.index (omega arith) c.loop-row.invariant
