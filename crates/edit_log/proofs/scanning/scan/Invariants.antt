-- So far the bytes have these entries.
use Rattle.std.proofs.Common.{◌≡◌, ◌≤◌, ◌-◌, length, drop}
use Rattle.entry_codec.specs.Logged.{plain_log}
use Rattle.edit_log.specs.Log.{gated, HasEntries}
use Rattle.edit_log.proofs.scanning.scan.Given as goal

abbrev pub invariant-loop-rows : goal.invariant-loop-rows
invariant-loop-rows l = record {
  within : l.at ≤ length l.bytes;
  at_is : l.at ≡ length (gated l.format (plain_log l.rows.items));
  has : HasEntries l.format (plain_log l.rows.items) (drop l.at l.bytes) l.bytes;
}

abbrev pub decreases-loop-rows : goal.decreases-loop-rows
decreases-loop-rows l = length l.bytes - l.at
