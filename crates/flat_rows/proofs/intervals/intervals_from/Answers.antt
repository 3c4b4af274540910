use Rattle.std.proofs.Common.{◌+◌, ◌==◌, ◌∙◌, sym, map, arith}
use Rattle.std.proofs.lemmas.List.Elements.{All-push}
use Rattle.febe_data.specs.Validity.{IsSpan}
use Rattle.world_rules.specs.Picking.{interval, stretches_on}
use Rattle.flat_rows.proofs.Positions.{extends, begins, ends}
use Rattle.flat_rows.proofs.intervals.intervals_from.Goals as goal
use Rattle.flat_rows.proofs.intervals.intervals_from.Goals.{then-is_followed_by+in_ok-open, else-is_followed_by+in_ok-interval+in_ok-push}

pub loop-position-preserved : goal.loop-position-preserved
loop-position-preserved c =
    let all = map interval (stretches_on (λ a b. b == a + 1) c.args.first c.args.first 1 c.args.rest.now) in
    let made = c.loop-position.made.items in
    let stretch = c.loop-position.open in
    elim c.if-is_followed_by.branch [
      | then-is_followed_by+in_ok-open w ↦
          rw (w.made-is, w.open-is, w.in_ok-open.ensures) (record {
            same = extends made all stretch.first stretch.last stretch.count c.args.rest.now c.loop-position.position-index c.loop-position-test.true (sym c.is_followed_by.ensures ∙ w.if-is_followed_by.true) c.loop-position.invariant.same;
            valid = c.loop-position.invariant.valid;
          })
      | else-is_followed_by+in_ok-interval+in_ok-push w ↦
          rw (w.made-is, w.open-is, w.new-open-else-is_followed_by.ensures) (record {
            same = begins made w.push.new.self.items all stretch.first stretch.last stretch.count c.args.rest.now c.loop-position.position-index c.loop-position-test.true (sym c.is_followed_by.ensures ∙ w.if-is_followed_by.false)
                (rw w.in_ok-interval.ensures.value at w.in_ok-push.ensures.ok) c.loop-position.invariant.same;
            valid = rw w.in_ok-push.ensures.ok (All-push IsSpan made w.in_ok-interval.field-0 c.loop-position.invariant.valid w.in_ok-interval.ensures.valid);
          })
    ]

pub returns-clause-items : goal.returns-clause-items
returns-clause-items c =
    ends c.loop-position.made.items c.push-2.new.self.items _ c.loop-position.open.first c.loop-position.open.last c.loop-position.open.count c.args.rest.now c.loop-position.position-index (omega arith)
    (rw c.in_ok-interval-2.ensures.value at c.in_ok-push-2.ensures.ok) c.loop-position.invariant.same

pub returns-clause-valid : goal.returns-clause-valid
returns-clause-valid c = rw c.in_ok-push-2.ensures.ok (All-push IsSpan c.loop-position.made.items c.in_ok-interval-2.field-0 c.loop-position.invariant.valid c.in_ok-interval-2.ensures.valid)
