use Rattle.std.proofs.Common.{◌&&◌, ◌∙◌, sym}
use Rattle.std.specs.List.{list_any}
use Rattle.flat_world.specs.declared.ends.Extent.{Extent}
use Rattle.world_rules.specs.declared.rows.Row.{Row}
use Rattle.world_rules.specs.World.{is_text_of}
use Rattle.world_rules.specs.Picking.{is_within}
use Rattle.flat_rows.specs.EndIndex.{is_indexed}
use Rattle.flat_world.proofs.Endings.{places_yes, places_no}
use Rattle.flat_world.proofs.ends.indexed_positions.Goals as goal
use Rattle.flat_world.proofs.ends.indexed_positions.Goals.{then-found+in_ok-push, else-found}

pub loop-row-preserved : goal.loop-row-preserved
loop-row-preserved c =
    let p = λ (row : Row). (is_text_of c.args.document.now row && list_any (λ (extent : Extent). is_within extent.start extent.end row) c.args.extents.now) && is_indexed c.args.index.now row.address in
    let rows = c.args.rows.now in
    let i = c.loop-row.row-index in
    let row = c.row-item.result in
    let old = c.loop-row.positions.items in
    elim c.if-found.branch [
      | then-found+in_ok-push w ↦
          rw w.positions-is (places_yes p rows i row old w.push.new.self.items c.loop-row-test.true c.row-item.is (sym c.in_ok-found.ensures ∙ w.if-found.true) w.in_ok-push.ensures.ok c.loop-row.invariant)
      | else-found w ↦
          rw w.positions-is (places_no p rows i row old c.loop-row-test.true c.row-item.is (sym c.in_ok-found.ensures ∙ w.if-found.false) c.loop-row.invariant)
    ]
