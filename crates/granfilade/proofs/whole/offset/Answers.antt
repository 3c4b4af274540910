use Rattle.std.proofs.Common.{ℕ, ◌≡◌, ◌∙◌, sym, subst}
use Rattle.granfilade.specs.Content.{so_far_on}
use Rattle.granfilade.proofs.WholeRows.{step_to}
use Rattle.granfilade.proofs.whole.offset.Goals as goal

pub returns-clause-start : goal.returns-clause-start
returns-clause-start c =
    subst (λ (n : ℕ). c.args.start.now ≡ so_far_on c.args.first.now n) (sym c.in_ok-from.ensures.1)
    (step_to c.args.start.now c.args.first.now c.in_ok-begins.front.now c.in_ok-wanted.beside.now c.in_ok-begins.begins.now c.in_ok-wanted.wanted.now
    (sym c.places.ensures.value ∙ c.in_ok-begins.ensures.cases.0) (sym c.places-2.ensures.value ∙ c.in_ok-wanted.ensures.cases.0) (sym c.ne.ensures ∙ c.if-ne.false) c.in_ok-from.ensures.0)
