-- The row's last two places tell which part it is of, and which byte or link comes first.
use Rattle.std.proofs.Common.{◌∙◌, sym, ap, length}
use Rattle.content_checks.proofs.ShownRows.{no_places, last_two, other_part, made_in, none_shown, too_far, shown_right}
use Rattle.content_checks.proofs.shown.shown_of.Goals as goal

pub returns-in_default-clause-none : goal.returns-in_default-clause-none
returns-in_default-clause-none c = λ piece shows. no_places c.args.part c.args.row.now piece (ap length (sym c.places.ensures.value) ∙ c.in_default.ensures.cases) shows

pub returns-then-at-part-clause-none : goal.returns-then-at-part-clause-none
returns-then-at-part-clause-none c = λ piece shows.
    let two = last_two c.args.row.now.second c.in-Some.front.now c.in-Some-split_last.field-0-1.now c.in-Some-split_last.at.now c.in-Some.first.now (sym c.places.ensures.value ∙ c.in-Some.ensures.cases.0) c.in-Some-split_last.ensures.cases.0 in
    other_part c.args.part c.in-Some-split_last.at.now c.in-Some.first.now c.args.row.now piece two c.if-at-part.true shows

pub returns-in_default-document_of-clause-none : goal.returns-in_default-document_of-clause-none
returns-in_default-document_of-clause-none c = λ piece shows. c.in_default-document_of.ensures.none piece.document (made_in c.args.part c.args.row.now piece c.requires shows)

pub returns-then-count-eq0-clause-none : goal.returns-then-count-eq0-clause-none
returns-then-count-eq0-clause-none c = λ piece shows. none_shown c.args.part c.args.row.now piece c.if-count-eq0.true shows

pub returns-then-count-first-clause-none : goal.returns-then-count-first-clause-none
returns-then-count-first-clause-none c = λ piece shows.
    let two = last_two c.args.row.now.second c.in-Some.front.now c.in-Some-split_last.field-0-1.now c.in-Some-split_last.at.now c.in-Some.first.now (sym c.places.ensures.value ∙ c.in-Some.ensures.cases.0) c.in-Some-split_last.ensures.cases.0 in
    too_far c.args.part c.in-Some-split_last.at.now c.in-Some.first.now c.args.row.now piece two c.if-count-first.true shows

pub returns-clause-some : goal.returns-clause-some
returns-clause-some c =
    let two = last_two c.args.row.now.second c.in-Some.front.now c.in-Some-split_last.field-0-1.now c.in-Some-split_last.at.now c.in-Some.first.now (sym c.places.ensures.value ∙ c.in-Some.ensures.cases.0) c.in-Some-split_last.ensures.cases.0 in
    shown_right c.args.part c.in-Some-split_last.at.now c.in-Some.first.now c.args.row.now c.in-Some-document_of.document two c.if-at-part.false c.in-Some-document_of.ensures.found c.is_tumbler.ensures c.if-count-eq0.false c.if-count-first.false
