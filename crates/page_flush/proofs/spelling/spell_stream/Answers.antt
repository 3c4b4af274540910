-- The stream is spelled on the pages that were chosen.
use Rattle.std.proofs.Common.{◌∙◌, ℕ, List, min, drop, ap, ap₂, refl, arith}
use Rattle.page_journal.specs.JournalBytes.{writes_of}
use Rattle.page_flush.specs.FlushView.{StreamView}
use Rattle.page_flush.proofs.SpellSteps.{spelled_by}
use Rattle.page_flush.proofs.spelling.spell_stream.Goals as goal

pub returns : goal.returns
returns c =
    let stream : StreamView = record { numbers = c.choose.new.numbers.items; count = c.args.count; last = c.in_ok-last.last.items } in
    spelled_by c.args.spared.now c.args.draft.now.next c.choose.new.next c.args.had.now c.in_ok-numbers.numbers.items c.choose.new.numbers.items c.split_at.result.1.now c.args.bytes.now c.in_ok-last.last.items c.saturating_sub-front.result c.args.count c.saturating_sub-fresh.result stream
    (writes_of c.args.draft.now.pages.items) (writes_of c.spell_chain.new.pages.items) c.in_ok-numbers.ensures.items (omega (arith, c.saturating_sub-front.ensures)) (omega (arith, c.saturating_sub-fresh.ensures, c.div_ceil-wanted.ensures, c.saturating_sub.ensures)) c.in_ok-choose.ensures
    (c.split_at.ensures.back ∙ ap₂ (λ (n : ℕ) (l : List ℕ). drop n l) (c.min.ensures ∙ ap (λ (n : ℕ). min c.saturating_sub-front.result n) c.len.ensures) c.as_slice.ensures)
    (c.are_in_use.ensures c.if-not-are_in_use.false) c.in_ok-spell_chain.ensures c.in_ok-last.ensures (omega (arith, c.ranges.count.fits)) refl refl refl
