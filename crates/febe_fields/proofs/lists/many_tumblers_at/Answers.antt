use Rattle.std.proofs.Common.{arith}
use Rattle.std.proofs.lemmas.Grind.{common_steps}
use Rattle.febe_fields.specs.Reading.{tumbler_at}
use Rattle.febe_fields.proofs.ManyLoop.{one_more, none_more, all_read}
use Rattle.febe_fields.proofs.lists.many_tumblers_at.Goals as goal

pub returns-in_default : goal.returns-in_default
returns-in_default c =
    none_more tumbler_at c.loop.tumblers.items c.args.count c.loop.counter c.loop.rest.now _ c.loop-test.true c.in_default.ensures c.loop.invariant.so_far

pub loop-preserved : goal.loop-preserved
loop-preserved c = record {
  so_far = rw c.push_reserved.ensures.items (one_more tumbler_at c.loop.tumblers.items c.args.count c.loop.counter c.loop.rest.now _ _ _ c.loop-test.true c.in-Some.ensures c.loop.invariant.so_far);
  room = grind (arith, common_steps);
}

pub returns : goal.returns
returns c =
    all_read tumbler_at c.loop.tumblers.items c.args.count c.loop.counter c.loop.rest.now _ c.loop-test.false c.loop.invariant.so_far
