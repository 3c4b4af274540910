use Rattle.std.proofs.Common.{◌-◌, get_or, take, refl}
use Rattle.tumbler.specs.Places.{EndsWell, IsUpTo}
use Rattle.tumbler.proofs.PaddedSteps.{leads-first, leads-at_most, leads-more, leads-cells}
use Rattle.tumbler.proofs.places.Places.minus.Goals as goal

pub loop-k-init : goal.loop-k-init
loop-k-init c =
    let ends : EndsWell (take c.self.inside.len c.self.inside.cells) = rw c.self.view_is c.requires.ends in
    let up_to : IsUpTo (take c.a.inside.len c.a.inside.cells) (take c.self.inside.len c.self.inside.cells) = rw (c.a.view_is, c.self.view_is) c.requires.up_to in
    leads-first c.self.inside.len c.self.inside.zeros c.self.inside.cells c.a.inside.len c.a.inside.cells c.self.invariant ends up_to

pub overflow_sub-step : goal.overflow_sub-step
overflow_sub-step c =
    let up_to : IsUpTo (take c.a.inside.len c.a.inside.cells) (take c.self.inside.len c.self.inside.cells) = rw (c.a.view_is, c.self.view_is) c.requires.up_to in
    leads-at_most c.self.inside.len c.self.inside.cells c.a.inside.len c.a.inside.cells c.loop-k.cells c.loop-k.k c.self.invariant.padded c.a.invariant.padded c.loop-k.invariant c.loop-k-test.true up_to

pub invariant_of-result : goal.invariant_of-result
invariant_of-result c =
    leads-cells c.self.inside.len c.self.inside.cells c.a.inside.len c.a.inside.cells c.loop-k.cells c.loop-k.k (get_or c.self.inside.cells c.loop-k.k 0 - get_or c.a.inside.cells c.loop-k.k 0)
    c.self.invariant.padded c.loop-k.invariant c.loop-k-test.true c.if-step-ne0.true

pub loop-k-preserved : goal.loop-k-preserved
loop-k-preserved c =
    let up_to : IsUpTo (take c.a.inside.len c.a.inside.cells) (take c.self.inside.len c.self.inside.cells) = rw (c.a.view_is, c.self.view_is) c.requires.up_to in
    let most = leads-at_most c.self.inside.len c.self.inside.cells c.a.inside.len c.a.inside.cells c.loop-k.cells c.loop-k.k c.self.invariant.padded c.a.invariant.padded c.loop-k.invariant c.loop-k-test.true up_to in
    leads-more c.self.inside.len c.self.inside.cells c.a.inside.len c.a.inside.cells c.loop-k.cells c.loop-k.k (get_or c.self.inside.cells c.loop-k.k 0 - get_or c.a.inside.cells c.loop-k.k 0) c.self.invariant.padded c.a.invariant.padded
    c.loop-k.invariant c.loop-k-test.true most refl c.if-step-ne0.false
