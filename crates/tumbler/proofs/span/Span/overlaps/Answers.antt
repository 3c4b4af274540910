use Rattle.tumbler.proofs.Order.{upto_if_before}
use Rattle.tumbler.proofs.Spans.{upto_unless_before, share_flip, share_at, share_first, share_second}
use Rattle.tumbler.proofs.span.Span.overlaps.Goals as goal

pub returns-then-ends_after : goal.returns-then-ends_after
returns-then-ends_after c =
    let a = c.args.self.now in
    let b = c.args.other.now in (
      λ e. share_at a b c.ends_after.ensures.tumbler (upto_if_before a.start b.start (c.is_before.ensures.before.0 c.if-is_before.true)) (c.ends_after.ensures.after.0 c.if-ends_after.true) (c.ends_after-then-ends_after.ensures.after.0 e),
      λ s. c.ends_after-then-ends_after.ensures.after.1 (share_second a b s),
    )

pub returns-else-ends_after : goal.returns-else-ends_after
returns-else-ends_after c =
    let a = c.args.self.now in
    let b = c.args.other.now in
    (λ e. absurd cc, λ s. c.ends_after.ensures.after.1 (share_first a b s))

pub returns-then-ends_after-2 : goal.returns-then-ends_after-2
returns-then-ends_after-2 c =
    let a = c.args.self.now in
    let b = c.args.other.now in
    let from_b = upto_unless_before b.start a.start (λ lt. let yes = c.is_before.ensures.before.1 lt in cc) in (
      λ e. share_flip b a (share_at b a c.ends_after-2.ensures.tumbler from_b (c.ends_after-then-ends_after-2.ensures.after.0 e) (c.ends_after-2.ensures.after.0 c.if-ends_after-2.true)),
      λ s. c.ends_after-then-ends_after-2.ensures.after.1 (share_first b a (share_flip a b s)),
    )

pub returns-else-ends_after-2 : goal.returns-else-ends_after-2
returns-else-ends_after-2 c =
    let a = c.args.self.now in
    let b = c.args.other.now in
    (λ e. absurd cc, λ s. c.ends_after-2.ensures.after.1 (share_second b a (share_flip a b s)))
