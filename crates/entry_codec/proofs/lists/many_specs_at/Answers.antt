use Rattle.std.proofs.Common.{arith}
use Rattle.std.proofs.lemmas.Grind.{common_steps}
use Rattle.std.proofs.lemmas.List.{map-append}
use Rattle.febe_data.specs.Plain.{plain_spec, plain_specs}
use Rattle.febe_fields.proofs.ManyLoop.{one_more, none_more, all_read}
use Rattle.entry_codec.specs.Reading.{spec_at}
use Rattle.entry_codec.proofs.lists.many_specs_at.Goals as goal

pub returns-in_default : goal.returns-in_default
returns-in_default c =
    none_more spec_at (plain_specs c.loop.specs.items) c.args.count c.loop.counter c.loop.rest.now _ c.loop-test.true (rw c.in_default.is at c.in_ok-spec.ensures) c.loop.invariant.so_far

pub loop-preserved : goal.loop-preserved
loop-preserved c = record {
  so_far = rw (c.push_reserved.ensures.items, map-append) (one_more spec_at (plain_specs c.loop.specs.items) c.args.count c.loop.counter c.loop.rest.now (plain_spec c.in-Some.spec) c.in-Some.behind.now _ c.loop-test.true (rw c.in-Some.is at c.in_ok-spec.ensures) c.loop.invariant.so_far);
  room = grind (arith, common_steps);
}

pub returns : goal.returns
returns c = all_read spec_at (plain_specs c.loop.specs.items) c.args.count c.loop.counter c.loop.rest.now _ c.loop-test.false c.loop.invariant.so_far
