use Rattle.std.proofs.Common.{◌≡◌, ◌≤◌, ◌+◌, get_or, subst, refl, arith}
use Rattle.tumbler.proofs.LeadingZeros.{cells-at, counted-most}
use Rattle.tumbler.proofs.PaddedSteps.{Copied, copied-first, copied-more, adds-cells}
use Rattle.tumbler.proofs.places.Places.plus.Goals as goal

pub loop-k-init : goal.loop-k-init
loop-k-init c = rw c.min-zeros.ensures (copied-first c.self.inside.len c.self.inside.zeros c.self.inside.cells c.d.inside.len c.d.inside.zeros c.d.inside.cells c.self.invariant c.d.invariant)

pub bounds-self-inside-k : goal.bounds-self-inside-k
bounds-self-inside-k c =
    let most = counted-most c.d.inside.len c.d.inside.zeros c.d.inside.cells c.d.invariant in
    omega (arith, most, c.loop-k-test.true)

pub bounds-cells-k : goal.bounds-cells-k
bounds-cells-k c =
    let most = counted-most c.d.inside.len c.d.inside.zeros c.d.inside.cells c.d.invariant in
    omega (arith, most, c.loop-k-test.true)

pub loop-k-preserved : goal.loop-k-preserved
loop-k-preserved c =
    let most = counted-most c.d.inside.len c.d.inside.zeros c.d.inside.cells c.d.invariant in
    copied-more c.self.inside.cells c.d.inside.cells c.loop-k.cells c.loop-k.k c.loop-k.invariant (omega (arith, most, c.loop-k-test.true))

pub bounds-self-inside-at : goal.bounds-self-inside-at
bounds-self-inside-at c = cells-at c.d.inside.len c.d.inside.zeros c.d.inside.cells c.d.invariant c.if-d-eq24.false

pub bounds-d-inside-at : goal.bounds-d-inside-at
bounds-d-inside-at c = cells-at c.d.inside.len c.d.inside.zeros c.d.inside.cells c.d.invariant c.if-d-eq24.false

pub bounds-cells-at : goal.bounds-cells-at
bounds-cells-at c = cells-at c.d.inside.len c.d.inside.zeros c.d.inside.cells c.d.invariant c.if-d-eq24.false

pub invariant_of-result-2 : goal.invariant_of-result-2
invariant_of-result-2 c =
    let from : c.min-zeros.result ≤ c.d.inside.zeros = omega (arith, c.min-zeros.ensures) in
    let end : c.loop-k.k ≡ c.d.inside.zeros = omega (arith, c.loop-k.auto.k-end from, c.loop-k-test.false) in
    rw c.min-zeros.ensures
    (adds-cells c.self.inside.len c.self.inside.zeros c.self.inside.cells c.d.inside.len c.d.inside.zeros c.d.inside.cells c.loop-k.cells (get_or c.self.inside.cells c.d.inside.zeros 0 + get_or c.d.inside.cells c.d.inside.zeros 0)
    c.self.invariant c.d.invariant c.if-d-eq24.false (subst (Copied c.self.inside.cells c.d.inside.cells c.loop-k.cells) end c.loop-k.invariant) refl)
