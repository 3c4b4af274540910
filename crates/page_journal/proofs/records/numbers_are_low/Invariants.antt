-- What is left of the pages has the answer of all of them.
use Rattle.std.proofs.Common.{◌≡◌, ◌-◌, ◌*◌, ◌≤◌, length}
use Rattle.page_journal.specs.JournalBytes.{entries, all_low}
use Rattle.page_journal.proofs.records.numbers_are_low.Given as goal

abbrev pub invariant-loop : goal.invariant-loop
invariant-loop l = record {
  long : 4104 * l.count ≤ length l.pages → 4104 * (l.count - l.counter) ≤ length l.rest;
  same : all_low (entries (l.count - l.counter) l.rest) ≡ all_low (entries l.count l.pages);
}
