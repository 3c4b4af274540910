use Rattle.std.proofs.Common.{arith}
use Rattle.std.proofs.lemmas.Grind.{common_steps}
use Rattle.febe_fields.proofs.ManyLoop.{one_more, none_more, all_read}
use Rattle.disk_fields.specs.Reading.{u32_at}
use Rattle.disk_fields.proofs.fields.many_places_at.Goals as goal

pub returns-in_default-clause-read : goal.returns-in_default-clause-read
returns-in_default-clause-read c = none_more u32_at c.loop.places.items c.args.count c.loop.counter c.loop.rest.now _ c.loop-test.true c.in_default.ensures c.loop.invariant.so_far

pub loop-preserved : goal.loop-preserved
loop-preserved c = record {
  so_far = rw c.push_reserved.ensures.items (one_more u32_at c.loop.places.items c.args.count c.loop.counter c.loop.rest.now c.in-Some.place c.in-Some.behind.now _ c.loop-test.true c.in-Some.ensures c.loop.invariant.so_far);
  count = grind (arith, common_steps);
  inline = grind (arith, common_steps);
}

pub returns-clause-read : goal.returns-clause-read
returns-clause-read c = all_read u32_at c.loop.places.items c.args.count c.loop.counter c.loop.rest.now _ c.loop-test.false c.loop.invariant.so_far
