use Rattle.std.proofs.Common.{arith, ◌∙◌}
use Rattle.tumbler.proofs.JustBefore.{trims_front, lessens_last, just_before-is_tumbler}
use Rattle.tumbler.proofs.tumbler.Tumbler.just_before.Goals as goal

pub front-requires-clause-ends : goal.front-requires-clause-ends
front-requires-clause-ends c =
    let at = c.in-Some.ensures.item.3.1 0 in
    let some = c.in-Some.ensures.item.3.0 in
    (trims_front c.args.self.now c.places-places.result.now c.split_at.result.0.now c.trimmed_len.result c.places-places.ensures.value some c.split_at.ensures.front
    (omega (arith, c.if-last-lt2.true, at)) c.trimmed_len.ensures.within c.trimmed_len.ensures.front).ends

pub returns-then-last-lt2 : goal.returns-then-last-lt2
returns-then-last-lt2 c =
    let at = c.in-Some.ensures.item.3.1 0 in
    let some = c.in-Some.ensures.item.3.0 in
    c.front.ensures ∙ (trims_front c.args.self.now c.places-places.result.now c.split_at.result.0.now c.trimmed_len.result c.places-places.ensures.value some c.split_at.ensures.front
    (omega (arith, c.if-last-lt2.true, at)) c.trimmed_len.ensures.within c.trimmed_len.ensures.front).value

pub invariant_of-result : goal.invariant_of-result
invariant_of-result c =
    let value = lessens_last c.args.self.now c.places-places.result.now c.split_at-2.result.0.now c.with_last.result c.in-Some.last.now c.places-places.ensures.value
    c.in-Some.ensures.item.3.0 c.split_at-2.ensures.front (c.in-Some.ensures.item.3.1 0) c.if-last-lt2.false c.with_last.ensures in
    rw value (just_before-is_tumbler c.args.self.now c.places-places.ensures.tumbler)

pub returns : goal.returns
returns c =
    lessens_last c.args.self.now c.places-places.result.now c.split_at-2.result.0.now c.with_last.result c.in-Some.last.now c.places-places.ensures.value
    c.in-Some.ensures.item.3.0 c.split_at-2.ensures.front (c.in-Some.ensures.item.3.1 0) c.if-last-lt2.false c.with_last.ensures
