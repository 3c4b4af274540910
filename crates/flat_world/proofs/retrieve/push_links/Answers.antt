use Rattle.std.proofs.Common.{◌≡◌, ◌&&◌, ◌++◌, ◌+◌, true, false, All, map, take}
use Rattle.std.specs.Prelude.{filter}
use Rattle.febe_data.specs.Plain.{plain_item, link}
use Rattle.world_rules.specs.declared.rows.Row.{Row}
use Rattle.world_rules.specs.World.{is_link_of}
use Rattle.world_rules.specs.Picking.{is_within}
use Rattle.world_rules.specs.Answers.{NamesTumbler}
use Rattle.flat_world.proofs.Retrieved.{links_yes, links_no, both_true, first_false, second_false}
use Rattle.world_rules.proofs.Valid.{tumblers_push}
use Rattle.flat_world.proofs.retrieve.push_links.Goals as goal
use Rattle.flat_world.proofs.retrieve.push_links.Goals.{then-is_link_of+then-is_within+in_ok-push, else-is_link_of, else-is_link_of-via-then-is_link_of+else-is_within, else-is_link_of-via-else-is_link_of}

pub loop-row-preserved : goal.loop-row-preserved
loop-row-preserved c =
    let p = λ (row : Row). is_link_of c.args.document.now row && is_within c.args.start.now c.args.end.now row in
    let rows = c.args.rows.now in
    let i = c.loop-row.row-index in
    let row = c.row-item.result in
    let start = map plain_item c.args.items.now.items in
    elim c.if-is_link_of.branch [
      | then-is_link_of+then-is_within+in_ok-push w ↦
          let passes : p row ≡ true = both_true _ _ _ _ c.is_link_of.ensures w.if-is_link_of.true w.is_within.ensures w.if-is_within.true in
          let items : map plain_item w.push.new.self.items ≡ start ++ map (λ (r : Row). link r.address) (filter p (take (i + 1) rows)) =
          links_yes p rows i row start c.loop-row.items.items w.push.new.self.items w.link_at.result c.loop-row-test.true c.row-item.is passes w.in_ok-push.ensures.ok w.link_at.ensures.item c.loop-row.invariant.0 in
          let valid : All NamesTumbler start → All NamesTumbler (map plain_item w.push.new.self.items) =
          λ all. tumblers_push c.loop-row.items.items w.push.new.self.items w.link_at.result w.in_ok-push.ensures.ok w.link_at.ensures.valid (c.loop-row.invariant.1 all) in
          rw w.items-is (items, valid)
      | else-is_link_of w ↦
          let fails : p row ≡ false = elim w.else-is_link_of.branch [
            | else-is_link_of-via-then-is_link_of+else-is_within v ↦ second_false _ _ _ v.is_within.ensures v.if-is_within.false
            | else-is_link_of-via-else-is_link_of v ↦ first_false _ _ _ c.is_link_of.ensures v.if-is_link_of.false
          ] in
          rw w.items-is (links_no p rows i row start (map plain_item c.loop-row.items.items) c.loop-row-test.true c.row-item.is fails c.loop-row.invariant.0, c.loop-row.invariant.1)
    ]
