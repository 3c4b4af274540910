-- So many zeros stand behind the bytes, and there is room for the others.
use Rattle.std.proofs.Common.{◌≡◌, ◌+◌, ◌≤◌, ◌++◌, replicate}
use Rattle.page_chains.proofs.spelling.pad.Given as goal

abbrev pub invariant-loop : goal.invariant-loop
invariant-loop l = record {
  zeros : l.page.items ≡ l.fn.page.items ++ replicate l.counter 0;
  room : l.count ≤ l.counter + l.page.spare;
}
