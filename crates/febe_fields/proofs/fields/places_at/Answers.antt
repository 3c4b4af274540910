use Rattle.std.proofs.Common.{arith}
use Rattle.std.proofs.lemmas.Grind.{common_steps}
use Rattle.std.proofs.lemmas.List.{take_rest}
use Rattle.febe_fields.proofs.Loop.{goes_on_at}
use Rattle.febe_fields.proofs.fields.places_at.Goals as goal

pub loop-preserved : goal.loop-preserved
loop-preserved c = record {
  so_far = rw c.push_reserved.ensures.items (goes_on_at c.loop.places.items c.args.room c.loop.counter c.loop.rest.now c.in_ok-place.place c.in_ok-place.behind.now _ c.loop-test.true (omega arith) (omega arith) (rw (take_rest c.loop.rest.now 1) at c.in_ok-place.ensures) c.loop.invariant.so_far);
  count = grind (arith, common_steps);
  inline = grind (arith, common_steps);
}
