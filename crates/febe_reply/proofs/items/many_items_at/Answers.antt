use Rattle.std.proofs.Common.{map, arith}
use Rattle.std.proofs.lemmas.Grind.{common_steps}
use Rattle.std.proofs.lemmas.List.{map-append}
use Rattle.febe_data.specs.Plain.{plain_item}
use Rattle.febe_fields.proofs.ManyLoop.{one_more, none_more, all_read}
use Rattle.febe_reply.specs.inside.Reading.{item_at}
use Rattle.febe_reply.proofs.items.many_items_at.Goals as goal

pub returns-in_default : goal.returns-in_default
returns-in_default c =
    none_more item_at (map plain_item c.loop.items.items) c.args.count c.loop.counter c.loop.rest.now _ c.loop-test.true (rw c.in_default.is at c.in_ok-item.ensures) c.loop.invariant.so_far

pub loop-preserved : goal.loop-preserved
loop-preserved c = record {
  so_far = rw (c.push_reserved.ensures.items, map-append) (one_more item_at (map plain_item c.loop.items.items) c.args.count c.loop.counter c.loop.rest.now (plain_item c.in-Some.item) c.in-Some.behind.now _ c.loop-test.true (rw c.in-Some.is at c.in_ok-item.ensures) c.loop.invariant.so_far);
  room = grind (arith, common_steps);
}

pub returns : goal.returns
returns c =
    all_read item_at (map plain_item c.loop.items.items) c.args.count c.loop.counter c.loop.rest.now _ c.loop-test.false c.loop.invariant.so_far
