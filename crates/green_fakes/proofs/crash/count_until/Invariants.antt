-- What stands behind the changes that are left was made by later calls.
use Rattle.std.proofs.Common.{◌≡◌, ◌≤◌, length, take, reverse}
use Rattle.green_fakes.specs.DiskImages.{changes_until}
use Rattle.green_fakes.proofs.crash.count_until.Given as goal

abbrev pub invariant-loop-count : goal.invariant-loop-count
invariant-loop-count l = record {
  until : changes_until l.moment (reverse (take l.count l.changes)) ≡ changes_until l.moment (reverse l.changes);
  within : l.count ≤ length l.changes;
}

abbrev pub decreases-loop-count : goal.decreases-loop-count
decreases-loop-count l = l.count
