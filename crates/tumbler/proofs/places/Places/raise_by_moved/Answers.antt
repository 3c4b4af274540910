use Rattle.std.proofs.Common.{◌+◌, get_or, take, refl, arith}
use Rattle.tumbler.specs.Places.{EndsWell}
use Rattle.tumbler.proofs.RaiseSteps.{zero-more, moved-more, moved-found, moved-none}
use Rattle.tumbler.proofs.places.Places.raise_by_moved.Goals as goal

pub returns-then-d-here-ne0 : goal.returns-then-d-here-ne0
returns-then-d-here-ne0 c =
    rw (← c.reach.view_is, ← c.d.view_is)
    (moved-found c.args.self.now c.loop-k.self c.lift.new.self c.d.inside.len c.d.inside.cells c.reach.inside.len c.reach.inside.cells c.loop-k.k (get_or c.reach.inside.cells c.loop-k.k 0 + get_or c.d.inside.cells c.loop-k.k 0)
    c.d.invariant.padded c.reach.invariant.padded c.loop-k-test.true c.loop-k.invariant.zeros c.if-d-here-ne0.true c.loop-k.invariant.raised refl c.lift.ensures)

pub loop-k-preserved : goal.loop-k-preserved
loop-k-preserved c = record {
  raised = moved-more c.args.self.now c.loop-k.self c.lift.new.self c.d.inside.len c.d.inside.cells c.reach.inside.cells c.reach.inside.len c.loop-k.k (get_or c.reach.inside.cells c.loop-k.k 0 + get_or c.d.inside.cells c.loop-k.k 0)
      c.d.invariant.padded c.reach.invariant.padded c.loop-k-test.true c.if-d-here-ne0.false c.loop-k.invariant.raised refl c.lift.ensures;
  zeros = zero-more c.d.inside.cells c.loop-k.k c.loop-k.invariant.zeros c.if-d-here-ne0.false;
}

pub returns : goal.returns
returns c =
    let ends : EndsWell (take c.d.inside.len c.d.inside.cells) = rw c.d.view_is c.requires.ends in
    rw (← c.reach.view_is, ← c.d.view_is)
    (moved-none c.args.self.now c.loop-k.self c.raise.new.self c.d.inside.len c.d.inside.cells c.reach.inside.len c.reach.inside.cells c.loop-k.k c.d.invariant.padded
    (omega (arith, c.loop-k.auto.k-end)) (omega (arith, c.loop-k-test.false)) c.loop-k.invariant.zeros ends c.loop-k.invariant.raised (rw c.reach.view_is c.raise.ensures))
