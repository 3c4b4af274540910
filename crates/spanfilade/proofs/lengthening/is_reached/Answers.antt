use Rattle.std.proofs.Common.{◌∙◌, sym}
use Rattle.tumbler.proofs.Order.{upto_if_before}
use Rattle.tumbler.proofs.Before.{before_if_true, false_if_up_to}
use Rattle.spanfilade.proofs.lengthening.is_reached.Goals as goal

pub returns-then-is_empty-clause-up_to : goal.returns-then-is_empty-clause-up_to
returns-then-is_empty-clause-up_to c = λ is.
    let start = c.args.span.now.start in
    let end = c.args.end.now in
    false_if_up_to end start (upto_if_before start end (before_if_true start end (sym c.is_before.ensures.value ∙ is)))
