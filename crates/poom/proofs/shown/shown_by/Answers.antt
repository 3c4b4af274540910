use Rattle.std.proofs.Common.{◌≡◌, List, ℕ, ◌+◌, ap}
use Rattle.tumbler.specs.Places.{place}
use Rattle.poom.specs.Laid.{part_number}
use Rattle.poom.proofs.Clips.{shown_here}
use Rattle.poom.proofs.shown.shown_by.Goals as goal

pub returns-clause-positions : goal.returns-clause-positions
returns-clause-positions c =
    let own : place c.args.row.now.first 0 ≡ part_number c.args.part = cc in
    shown_here (part_number c.args.part) c.count_before-from.result c.count_before-to.result c.args.span.now c.add.result c.args.row.now _ c.requires.row own c.add.ensures c.count_before-to.ensures.within c.count_before-from.ensures.each c.count_before-to.ensures.each
    (ap (λ (l : List ℕ). place l 1 + c.count_before-from.result) c.places-places.ensures.value) c.saturating_sub.ensures
