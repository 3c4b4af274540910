use Rattle.entry_codec.proofs.Spans.{too_many, room_left, none_left}
use Rattle.entry_codec.proofs.lists.has_many_spans.Goals as goal

pub returns-then-spans-room : goal.returns-then-spans-room
returns-then-spans-room c = too_many c.args.specs.now c.loop-spec.spec-index c.spec-item.result c.loop-spec.room _ c.loop-spec-test.true c.spec-item.is (rw c.len-spans.ensures at c.if-spans-room.true) c.loop-spec.invariant

pub loop-spec-preserved : goal.loop-spec-preserved
loop-spec-preserved c = room_left c.args.specs.now c.loop-spec.spec-index c.spec-item.result c.loop-spec.room c.len-spans.result _ c.loop-spec-test.true c.spec-item.is c.len-spans.ensures c.if-spans-room.false c.loop-spec.invariant

pub returns : goal.returns
returns c = none_left c.args.specs.now c.loop-spec.spec-index c.loop-spec.room _ c.loop-spec-test.false c.loop-spec.invariant
