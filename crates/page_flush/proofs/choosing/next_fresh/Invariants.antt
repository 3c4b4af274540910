-- Each number that was looked at is spared.
use Rattle.std.proofs.Common.{◌≡◌, ℕ, ◌<◌, ◌≤◌, true}
use Rattle.page_chains.specs.Chains.{is_in}
use Rattle.page_flush.proofs.choosing.next_fresh.Given as goal

abbrev pub invariant-loop-number : goal.invariant-loop-number
invariant-loop-number l = (k : ℕ) → l.from ≤ k → k < l.number → is_in k l.spared ≡ true
