-- What the changes so far make of what is read, and what they leave.
use Rattle.std.proofs.Common.{◌≡◌, None, take, reverse}
use Rattle.green_fakes.specs.DiskView.{bytes_after}
use Rattle.green_fakes.specs.DiskImages.{IsLeft, synced_after}
use Rattle.green_fakes.proofs.replay.Replay.of.Given as goal

abbrev pub invariant-loop-change : goal.invariant-loop-change
invariant-loop-change l = record {
  reads : l.replay.reads ≡ bytes_after l.area l.first (reverse (take l.change-index l.changes));
  left : IsLeft l.area l.first (reverse (take l.change-index l.changes)) l.replay.left;
  none : l.fn.generator ≡ None → l.generator ≡ None;
  synced : l.fn.generator ≡ None → l.replay.left ≡ synced_after l.area l.first (reverse (take l.change-index l.changes));
}
