use Rattle.std.proofs.Common.{◌∙◌, sym}
use Rattle.granfilade.proofs.Counting.{told_by_last}
use Rattle.granfilade.proofs.parts.count_beside.Goals as goal

pub returns-clause-each : goal.returns-clause-each
returns-clause-each c = λ k h.
    rw (c.min.ensures, c.saturating_sub-distance.ensures)
    (told_by_last c.args.start.now c.args.at.now c.in_ok-first.front.now c.in_ok-wanted.beside.now c.in_ok-first.first.now c.in_ok-wanted.wanted.now c.args.count
    (sym c.places.ensures.value ∙ c.in_ok-first.ensures.cases.0) (sym c.places-2.ensures.value ∙ c.in_ok-wanted.ensures.cases.0) (sym c.ne.ensures ∙ c.if-ne.false) k h)
