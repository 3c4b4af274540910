use Rattle.std.proofs.Common.{◌+◌, get_or, sym, ◌∙◌}
use Rattle.tumbler.proofs.LeadingZeros.{cells-at}
use Rattle.tumbler.proofs.PaddedSteps.{fits-none, fits-cell, fits-tested}
use Rattle.tumbler.proofs.places.Places.fits.Goals as goal

pub returns-then-d-eq24 : goal.returns-then-d-eq24
returns-then-d-eq24 c = rw (← c.d.view_is) (sym (fits-none c.args.self.now c.d.inside.len c.d.inside.zeros c.d.inside.cells c.d.invariant c.if-d-eq24.true))

pub bounds-self-inside-k : goal.bounds-self-inside-k
bounds-self-inside-k c = cells-at c.d.inside.len c.d.inside.zeros c.d.inside.cells c.d.invariant c.if-d-eq24.false

pub bounds-d-inside-k : goal.bounds-d-inside-k
bounds-d-inside-k c = cells-at c.d.inside.len c.d.inside.zeros c.d.inside.cells c.d.invariant c.if-d-eq24.false

pub returns : goal.returns
returns c =
    rw (← c.self.view_is, ← c.d.view_is)
    (c.is_some.ensures ∙ fits-tested c.checked_add.result (get_or c.self.inside.cells c.d.inside.zeros 0 + get_or c.d.inside.cells c.d.inside.zeros 0) c.checked_add.ensures
    ∙ sym (fits-cell c.self.inside.len c.self.inside.cells c.d.inside.len c.d.inside.zeros c.d.inside.cells c.self.invariant.padded c.d.invariant c.if-d-eq24.false))
