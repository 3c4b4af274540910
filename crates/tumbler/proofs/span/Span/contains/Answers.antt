use Rattle.tumbler.proofs.Spans.{not_before, upto_unless_before}
use Rattle.tumbler.proofs.span.Span.contains.Goals as goal

pub returns-then-is_before : goal.returns-then-is_before
returns-then-is_before c =
    (λ e. absurd (cc e), λ i. absurd (not_before c.args.self.now.start c.args.x.now i.0 (c.is_before.ensures.before.0 c.if-is_before.true)))

pub returns : goal.returns
returns c =
    let after_start = upto_unless_before c.args.self.now.start c.args.x.now (λ lt. let yes = c.is_before.ensures.before.1 lt in cc) in
    (λ e. (after_start, c.ends_after.ensures.after.0 e), λ i. c.ends_after.ensures.after.1 i.1)
