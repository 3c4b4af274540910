-- One piece after another is taken off.
use Rattle.std.proofs.Common.{◌∙◌, sym}
use Rattle.std.proofs.lemmas.List.{nil_from_length}
use Rattle.content_checks.proofs.PartRows.{begins, goes_on, other_part, all_taken, not_next}
use Rattle.content_checks.proofs.parts.behind_part.Goals as goal

pub loop-row-init : goal.loop-row-init
loop-row-init c = begins c.args.part c.args.most c.args.rows.now

pub loop-row-preserved : goal.loop-row-preserved
loop-row-preserved c =
    goes_on c.args.part c.args.most c.loop-row.n c.in-Some-behind_piece.next c.args.rows.now c.loop-row.rest.now c.in-Some.behind.now c.in-Some.row.now c.in-Some.ensures.cases.0 c.in-Some-behind_piece.ensures.some c.loop-row.invariant

pub returns-then-not-stands_in-clause-some : goal.returns-then-not-stands_in-clause-some
returns-then-not-stands_in-clause-some c =
    other_part c.args.part c.args.most c.loop-row.n c.args.rows.now c.loop-row.rest.now c.in-Some.behind.now c.in-Some.row.now c.in-Some.ensures.cases.0 (sym c.stands_in.ensures ∙ c.if-not-stands_in.true) c.loop-row.invariant

pub returns-in_default-behind_piece-clause-none : goal.returns-in_default-behind_piece-clause-none
returns-in_default-behind_piece-clause-none c =
    not_next c.args.part c.args.most c.loop-row.n c.args.rows.now c.loop-row.rest.now c.in-Some.behind.now c.in-Some.row.now c.in-Some.ensures.cases.0 (sym c.stands_in.ensures ∙ c.if-not-stands_in.false) c.in_default-behind_piece.ensures.none c.loop-row.invariant

pub returns-clause-some : goal.returns-clause-some
returns-clause-some c = all_taken c.args.part c.args.most c.loop-row.n c.args.rows.now c.loop-row.rest.now (nil_from_length c.loop-row.rest.now c.in_default.ensures.cases) c.loop-row.invariant
