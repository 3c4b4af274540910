-- The page is there exactly where Home has all its bytes.
use Rattle.std.proofs.Common.{[], ap, arith, nat_eq}
use Rattle.page_journal.proofs.PageReads.{past_where, page_where, whole_where}
use Rattle.page_journal.proofs.journal.PageJournal.read.Goals as goal

pub returns-then-left-lt-PAGE_STEP-clause-page : goal.returns-then-left-lt-PAGE_STEP-clause-page
returns-then-left-lt-PAGE_STEP-clause-page g c = past_where _ c.in_ok-total.total c.saturating_mul-at.result c.args.number [] c.in_ok-total.ensures.answer c.saturating_mul-at.ensures (omega arith) (omega (arith, c.if-left-lt-PAGE_STEP.true))

pub returns-clause-page : goal.returns-clause-page
returns-clause-page g c = page_where _ _ c.in_ok-total.total c.saturating_mul-at.result c.args.number c.read_range.new.bytes.items _ c.length.ensures.reads (ap (λ n. nat_eq n 4096) c.len.ensures) c.in_ok-total.ensures.answer c.saturating_mul-at.ensures (omega arith) (omega (arith, c.if-left-lt-PAGE_STEP.false)) c.in_ok-read_range.ensures.range

pub returns-clause-whole : goal.returns-clause-whole
returns-clause-whole g c = whole_where _ c.read_range.new.bytes.items c.len.result c.len.ensures
