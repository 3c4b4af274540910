use Rattle.std.proofs.Common.{take, arith}
use Rattle.tumbler.specs.Places.{EndsWell}
use Rattle.tumbler.proofs.LeadingZeros.{counted-most}
use Rattle.tumbler.proofs.RaiseSteps.{covered-tested}
use Rattle.tumbler.proofs.places.Places.is_covered.Goals as goal

pub overflow_add-result : goal.overflow_add-result
overflow_add-result c = let most = counted-most c.d.inside.len c.d.inside.zeros c.d.inside.cells c.d.invariant in omega (arith, most)

pub returns : goal.returns
returns c =
    let ends : EndsWell (take c.d.inside.len c.d.inside.cells) = rw c.d.view_is c.requires in
    rw (← c.self.view_is, ← c.d.view_is)
    (covered-tested c.self.inside.len c.self.inside.cells c.d.inside.len c.d.inside.zeros c.d.inside.cells c.self.invariant.padded c.d.invariant ends)
