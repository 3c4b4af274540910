use Rattle.std.proofs.Common.{◌≡◌, take}
use Rattle.spanfilade.specs.Keys.{with_keys, keys_of}
use Rattle.spanfilade.proofs.keys.take_keys.Given as goal

abbrev pub invariant-loop-row : goal.invariant-loop-row
invariant-loop-row l = l.keys.keys ≡ with_keys l.fn.keys.keys (keys_of (take l.row-index l.rows))
