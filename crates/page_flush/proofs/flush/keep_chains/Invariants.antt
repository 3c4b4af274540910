-- The streams of the first of the chains are kept, and there is room for the others.
use Rattle.std.proofs.Common.{◌+◌, ◌≤◌, length, take}
use Rattle.page_chains.specs.Reading.{plain_chains}
use Rattle.page_flush.specs.FlushView.{plain_streams, AreKept}
use Rattle.page_flush.proofs.flush.keep_chains.Given as goal

abbrev pub invariant-loop-chain : goal.invariant-loop-chain
invariant-loop-chain l = record {
  kept : AreKept (plain_streams l.streams.items) (plain_chains (take l.chain-index l.chains));
  room : length l.chains ≤ l.chain-index + l.streams.spare;
}
