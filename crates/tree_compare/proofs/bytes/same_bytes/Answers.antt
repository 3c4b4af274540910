use Rattle.std.proofs.Common.{◌∙◌, ap, sym, subst}
use Rattle.std.specs.List.{All}
use Rattle.tree_compare.specs.Stretches.{laid_stretches, IsStretch}
use Rattle.tree_compare.proofs.bytes.same_bytes.Goals as goal

pub same_stretches-requires-clause-one : goal.same_stretches-requires-clause-one
same_stretches-requires-clause-one c = subst (All IsStretch) (sym c.as_slice.ensures) c.in_ok-left.ensures.each

pub same_stretches-requires-clause-other : goal.same_stretches-requires-clause-other
same_stretches-requires-clause-other c = subst (All IsStretch) (sym c.as_slice-2.ensures) c.in_ok-right.ensures.each

pub returns : goal.returns
returns c = (
  λ e. sym c.in_ok-left.ensures.laid ∙ sym (ap laid_stretches c.as_slice.ensures) ∙ c.same_stretches.ensures.0 e ∙ ap laid_stretches c.as_slice-2.ensures ∙ c.in_ok-right.ensures.laid,
  λ e. c.same_stretches.ensures.1 (ap laid_stretches c.as_slice.ensures ∙ c.in_ok-left.ensures.laid ∙ e ∙ sym c.in_ok-right.ensures.laid ∙ sym (ap laid_stretches c.as_slice-2.ensures)),
)
