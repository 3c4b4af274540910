-- With the pages of what is left, they are all pages, and there is room for those.
use Rattle.std.proofs.Common.{◌≡◌, ◌≤◌, ◌++◌, length}
use Rattle.page_journal.specs.JournalBytes.{writes_of}
use Rattle.page_chains.specs.Spelled.{chain_writes}
use Rattle.page_chains.proofs.spelling.spell_chain.Given as goal

abbrev pub invariant-loop-number : goal.invariant-loop-number
invariant-loop-number l = record {
  spelled : writes_of l.pages.items ++ chain_writes l.left l.rest ≡ writes_of l.fn.pages.items ++ chain_writes l.fn.numbers l.fn.bytes;
  room : length l.left ≤ l.pages.spare;
}

abbrev pub decreases-loop-number : goal.decreases-loop-number
decreases-loop-number l = length l.left
