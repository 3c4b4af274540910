use Rattle.std.proofs.Common.{◌∙◌, sym, inl, inr}
use Rattle.tumbler.proofs.Before.{up_to_if_false}
use Rattle.tumbler.proofs.Order.{never_before_itself, before_upto}
use Rattle.enfilade_core.proofs.summary.Summary.append.Goals as goal

pub returns-then-is_before-clause-none : goal.returns-then-is_before-clause-none
returns-then-is_before-clause-none c = λ follows. elim follows [
  | inl none ↦ c.if-self-eq0.false none
  | inr both ↦ never_before_itself c.args.part.first (before_upto c.args.part.first c.args.self.now.last c.args.part.first (c.is_before.ensures.before.0 c.if-is_before.true) both.1)
]

pub returns-clause-some : goal.returns-clause-some
returns-clause-some c = (
  inr (c.if-self-part.false, up_to_if_false c.args.part.first c.args.self.now.last (sym c.is_before.ensures.value ∙ c.if-is_before.false)),
  c.join-2.ensures,
)
