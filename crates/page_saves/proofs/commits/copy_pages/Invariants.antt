use Rattle.std.proofs.Common.{◌≡◌, ◌+◌, ◌≤◌, length, take}
use Rattle.page_journal.specs.JournalBytes.{writes_of}
use Rattle.page_saves.proofs.commits.copy_pages.Given as goal

abbrev pub invariant-loop-page : goal.invariant-loop-page
invariant-loop-page l = record {
  copied : writes_of l.copies.items ≡ writes_of (take l.page-index l.pages);
  room : length l.pages ≤ l.page-index + l.copies.spare;
}
