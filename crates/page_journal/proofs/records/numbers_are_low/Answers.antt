-- The first of the pages that are left decides, or the others do.
use Rattle.std.proofs.Common.{◌≡◌, ℕ, ◌+◌, ◌-◌, suc, length, refl, ◌∙◌, ap, arith, length-drop}
use Rattle.page_journal.specs.JournalBytes.{entries, all_low}
use Rattle.page_journal.proofs.RecordTests.{low_first, high_first, none_high}
use Rattle.page_journal.proofs.records.numbers_are_low.Goals as goal

pub loop-init : goal.loop-init
loop-init c =
    let same : c.args.count - 0 ≡ c.args.count = omega arith in
    record {
      long = λ fits. omega (arith, fits);
      same = ap (λ (k : ℕ). all_low (entries k c.args.pages.now)) same;
    }

pub loop-preserved : goal.loop-preserved
loop-preserved c =
    let more : c.args.count - c.loop.counter ≡ suc (c.args.count - (c.loop.counter + 1)) = omega (arith, c.loop-test.true) in
    let shorter : length c.in-Some.entry.behind.now ≡ length c.loop.rest.now - 4104 = ap length c.in-Some.ensures.behind ∙ length-drop 4104 c.loop.rest.now in
    record {
      long = λ fits. let left = c.loop.invariant.long fits in omega (arith, left, more, shorter);
      same = low_first _ _ c.in-Some.entry.number c.loop.rest.now _ more c.in-Some.ensures.number c.in-Some.ensures.behind (omega (arith, c.if-number-ge-NUMBERS.false)) ∙ c.loop.invariant.same;
    }

pub returns-in_default : goal.returns-in_default
returns-in_default c fits =
    let left = c.loop.invariant.long fits in
    let short = c.in_default.ensures.short refl in
    absurd (omega (arith, left, short, c.loop-test.true))

pub returns-then-number-ge-NUMBERS : goal.returns-then-number-ge-NUMBERS
returns-then-number-ge-NUMBERS c fits =
    let more : c.args.count - c.loop.counter ≡ suc (c.args.count - (c.loop.counter + 1)) = omega (arith, c.loop-test.true) in
    high_first _ _ c.in-Some.entry.number c.loop.rest.now more c.in-Some.ensures.number (omega (arith, c.if-number-ge-NUMBERS.true)) ∙ c.loop.invariant.same

pub returns : goal.returns
returns c fits = none_high _ c.loop.rest.now (omega (arith, c.loop-test.false)) ∙ c.loop.invariant.same
