-- Seven streams are spelled, on pages that a commit may write.
use Rattle.std.proofs.Common.{◌≡◌, ◌∙◌, List, length, ap, sym, subst, arith}
use Rattle.std.specs.List.{AllByRecursion}
use Rattle.std.proofs.lemmas.List.{length-map}
use Rattle.page_journal.specs.declared.page_write.PageWrite.{PageWrite}
use Rattle.page_journal.specs.JournalBytes.{IsWrite, writes_of}
use Rattle.page_flush.specs.FlushView.{plain_stream, plain_streams}
use Rattle.page_flush.proofs.PreparedWrites.{spelled_long, spelled_writes}
use Rattle.page_flush.proofs.preparing.prepare.Goals as goal

pub spell_page_zero-requires : goal.spell_page_zero-requires
spell_page_zero-requires c =
    let seven : length c.args.given.now ≡ 7 = omega arith in
    ap length c.as_slice.ensures ∙ sym (length-map c.in_ok-streams.streams.items plain_stream)
    ∙ spelled_long c.args.spared.now 1 c.spell_streams.new.draft.next (plain_streams c.kept_slice.result.now) c.args.given.now (plain_streams c.in_ok-streams.streams.items) (writes_of c.new.result.items) (writes_of c.spell_streams.new.draft.pages.items) c.in_ok-streams.ensures
    ∙ seven

pub returns-clause-pages : goal.returns-clause-pages
returns-clause-pages c =
    spelled_writes c.args.spared.now 1 c.spell_streams.new.draft.next (plain_streams c.kept_slice.result.now) c.args.given.now (plain_streams c.in_ok-streams.streams.items) (writes_of c.new.result.items) (writes_of c.spell_streams.new.draft.pages.items) c.in_ok-streams.ensures
    (subst (λ (l : List PageWrite). AllByRecursion IsWrite (writes_of l)) (sym c.new.ensures.items) tt)
