-- The tests are those of the definition, one after another.
use Rattle.std.proofs.Common.{refl, ◌∙◌, arith, ◌*◌, ◌≤◌, length}
use Rattle.page_journal.proofs.RecordTests.{begins_short, begins_none, begins_many, begins_cut, begins_whole}
use Rattle.page_journal.proofs.records.is_record.Goals as goal

pub returns-in_default : goal.returns-in_default
returns-in_default c = begins_short c.args.bytes.now (c.in_default.ensures.short refl)

pub returns-then-count-eq0 : goal.returns-then-count-eq0
returns-then-count-eq0 c = begins_none c.args.bytes.now c.in-Some.count c.in-Some.ensures.long c.in-Some.ensures.count (omega (arith, c.if-count-eq0.true))

pub returns-then-count-gt-MOST_PAGES : goal.returns-then-count-gt-MOST_PAGES
returns-then-count-gt-MOST_PAGES c = begins_many c.args.bytes.now c.in-Some.count c.in-Some.ensures.long c.in-Some.ensures.count (omega (arith, c.if-count-gt-MOST_PAGES.true))

pub returns-then-pages-needed : goal.returns-then-pages-needed
returns-then-pages-needed c = begins_cut c.args.bytes.now c.in-Some.pages.now c.in-Some.count c.in-Some.ensures.long c.in-Some.ensures.count (omega (arith, c.if-count-eq0.false)) (omega (arith, c.if-count-gt-MOST_PAGES.false)) c.in-Some.ensures.behind (omega (arith, c.if-pages-needed.true))

pub returns : goal.returns
returns c =
    let fits : 4104 * c.in-Some.count ≤ length c.in-Some.pages.now = omega (arith, c.if-pages-needed.false) in
    c.numbers_are_low.ensures fits ∙ begins_whole c.args.bytes.now c.in-Some.pages.now c.in-Some.count c.in-Some.ensures.long c.in-Some.ensures.count (omega (arith, c.if-count-eq0.false)) (omega (arith, c.if-count-gt-MOST_PAGES.false)) c.in-Some.ensures.behind fits
