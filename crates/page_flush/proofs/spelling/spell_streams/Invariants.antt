-- The first of the streams are spelled, and there is room for the others.
use Rattle.std.proofs.Common.{◌+◌, ◌≤◌, length, take}
use Rattle.page_journal.specs.JournalBytes.{writes_of}
use Rattle.page_flush.specs.FlushView.{plain_streams}
use Rattle.page_flush.specs.inside.Spells.{AreSpelled}
use Rattle.page_flush.proofs.spelling.spell_streams.Given as goal

abbrev pub invariant-loop-place : goal.invariant-loop-place
invariant-loop-place l = record {
  spelled : AreSpelled l.spared l.fn.draft.next l.draft.next (plain_streams l.kept) (take l.place l.given) (plain_streams l.streams.items) (writes_of l.fn.draft.pages.items) (writes_of l.draft.pages.items);
  room : length l.given ≤ l.place + l.streams.spare;
}
