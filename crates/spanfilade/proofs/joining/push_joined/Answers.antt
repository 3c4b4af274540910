use Rattle.std.proofs.Common.{◌∷◌, [], ◌++◌, ◌<◌, List, length, rules, ap, ◌∙◌, sym, subst}
use Rattle.std.proofs.lemmas.Result.{on_ok_weaker}
use Rattle.tumbler.specs.declared.span.Span.{Span}
use Rattle.spanfilade.proofs.AsOne.{last_joined, met_behind}
use Rattle.spanfilade.proofs.ApartSpans.{met_without, first_pushed, behind_pushed, last_longer, last_starts}
use Rattle.spanfilade.specs.Apart.{IsJoined}
use Rattle.std.proofs.Common.{refl}
use Rattle.spanfilade.proofs.joining.push_joined.Goals as goal

pub returns-then-not-has_places-clause-met : goal.returns-then-not-has_places-clause-met
returns-then-not-has_places-clause-met c = met_without c.args.made.now.items c.args.span.now c.has_places.result c.has_places.ensures c.if-not-has_places.true

pub returns-then-count-eq0-clause-joined : goal.returns-then-count-eq0-clause-joined
returns-then-count-eq0-clause-joined c =
    on_ok_weaker c.push.result
    (λ is. subst (IsJoined c.args.span.now.start) (sym (is ∙ ap (λ (s : Span). c.args.made.now.items ++ s ∷ []) c.copy.ensures))
    (first_pushed c.args.span.now.start c.args.made.now.items c.args.span.now c.len-count.result c.has_places.result c.requires.made c.requires.span c.has_places.ensures c.if-not-has_places.false refl c.len-count.ensures c.if-count-eq0.true))
    c.push.ensures.ok

pub as_one-requires-clause-order : goal.as_one-requires-clause-order
as_one-requires-clause-order c =
    let some : 0 < length c.args.made.now.items = search rules in
    last_starts c.args.span.now.start c.args.made.now.items c.index-as_slice-count.result c.args.span.now c.len-count.result c.requires.made refl c.len-count.ensures some (c.index-as_slice-count.is ∙ cc)

pub returns-in_default-clause-joined : goal.returns-in_default-clause-joined
returns-in_default-clause-joined c =
    on_ok_weaker c.push-in_default.result
    (λ is. subst (IsJoined c.args.span.now.start) (sym (is ∙ ap (λ (s : Span). c.args.made.now.items ++ s ∷ []) c.copy-in_default.ensures))
    (behind_pushed c.args.span.now.start c.args.made.now.items c.args.span.now c.index-as_slice-count.result c.len-count.result c.has_places.result c.requires.made c.requires.span c.has_places.ensures c.if-not-has_places.false refl c.len-count.ensures
    (c.index-as_slice-count.is ∙ cc) c.in_default.ensures.apart))
    c.push-in_default.ensures.ok

pub returns-in_default-clause-met : goal.returns-in_default-clause-met
returns-in_default-clause-met c =
    on_ok_weaker c.push-in_default.result
    (λ is. met_behind c.args.made.now.items c.push-in_default.new.self.items c.copy-in_default.result c.args.span.now is c.copy-in_default.ensures)
    c.push-in_default.ensures.ok

pub returns-clause-joined : goal.returns-clause-joined
returns-clause-joined c =
    let some : 0 < length c.args.made.now.items = search rules in
    on_ok_weaker c.push-2.result
    (λ is. last_longer c.args.span.now.start c.args.made.now.items c.push-2.new.self.items c.index-as_slice-count.result c.in-Some.one c.len-count.result c.requires.made c.len-count.ensures some
    (c.index-as_slice-count.is ∙ cc) c.in-Some.ensures.fits c.in-Some.ensures.begins c.in-Some.ensures.reaches
    (is ∙ ap (λ (front : List Span). front ++ c.in-Some.one ∷ []) c.truncate.ensures.items))
    c.push-2.ensures.ok

pub returns-clause-met : goal.returns-clause-met
returns-clause-met c =
    let some : 0 < length c.args.made.now.items = search rules in
    on_ok_weaker c.push-2.result
    (λ is. last_joined c.args.made.now.items c.push-2.new.self.items c.len-count.result c.index-as_slice-count.result c.in-Some.one c.args.span.now c.len-count.ensures some
    (c.index-as_slice-count.is ∙ cc)
    (is ∙ ap (λ (front : List Span). front ++ c.in-Some.one ∷ []) c.truncate.ensures.items)
    c.in-Some.ensures.met)
    c.push-2.ensures.ok
