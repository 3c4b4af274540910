-- The rest of the Journal begins with a whole record, or it does not.
use Rattle.std.proofs.Common.{sym, ◌∙◌, ap}
use Rattle.page_journal.specs.JournalBytes.{begins_with_record}
use Rattle.page_journal.specs.declared.opening.Found.TheVariants.{Torn, Open}
use Rattle.page_journal.proofs.Opens.{record_where, no_record}
use Rattle.page_journal.proofs.opening.find_record.Goals as goal

pub returns-then-is_record-clause-found : goal.returns-then-is_record-clause-found
returns-then-is_record-clause-found g c =
    let whole = ap begins_with_record (sym c.as_slice.ensures) ∙ sym c.is_record.ensures ∙ c.if-is_record.true in
    record_where _ _ c.in_ok-total.total c.saturating_sub-count.result c.read_range.new.bytes.items (Open c.read_range.new.bytes) c.saturating_sub-count.ensures c.length.ensures.reads c.in_ok-total.ensures.answer c.in_ok-read_range.ensures.range
    (λ journal behind parts is. record { behind = behind; parts = parts; kept_is = is; whole = whole })

pub returns-clause-found : goal.returns-clause-found
returns-clause-found g c =
    let none = ap begins_with_record (sym c.as_slice.ensures) ∙ sym c.is_record.ensures ∙ c.if-is_record.false in
    record_where _ _ c.in_ok-total.total c.saturating_sub-count.result c.read_range.new.bytes.items Torn c.saturating_sub-count.ensures c.length.ensures.reads c.in_ok-total.ensures.answer c.in_ok-read_range.ensures.range
    (λ journal behind parts is. no_record c.read_range.new.bytes.items journal behind none parts is)
