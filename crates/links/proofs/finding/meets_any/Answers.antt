use Rattle.std.proofs.Common.{◌∙◌, ℕ, List, ap}
use Rattle.std.specs.List.{prefix_len}
use Rattle.tumbler.specs.Places.{comes_before}
use Rattle.tumbler.specs.declared.span.Span.{Span}
use Rattle.links.proofs.LastMet.{none_meets, one_tells}
use Rattle.links.proofs.finding.meets_any.Goals as goal

pub returns-then-count-eq0 : goal.returns-then-count-eq0
returns-then-count-eq0 c =
    none_meets c.args.other.now c.args.spans.now c.starting_before-count.result c.requires.wide c.requires.apart
    (c.starting_before-count.ensures.value ∙ ap (λ (place : List ℕ). prefix_len (λ (span : Span). comes_before span.start place) c.args.spans.now) c.add.ensures) c.if-count-eq0.true

pub returns : goal.returns
returns c =
    c.spans_meet.ensures
    ∙ one_tells c.args.other.now c.args.spans.now c.starting_before-count.result c.index-spans-count.result c.requires.wide c.requires.apart
    (c.starting_before-count.ensures.value ∙ ap (λ (place : List ℕ). prefix_len (λ (span : Span). comes_before span.start place) c.args.spans.now) c.add.ensures) c.if-count-eq0.false c.index-spans-count.is
