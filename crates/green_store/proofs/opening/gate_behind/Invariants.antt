-- The place is behind the entries that were passed.
use Rattle.std.proofs.Common.{◌≡◌, take}
use Rattle.febe_data.specs.Plain.{plain_history}
use Rattle.green_store.specs.Opening.{gate_place, untimed_all}
use Rattle.green_store.proofs.opening.gate_behind.Given as goal

abbrev pub invariant-loop-entry : goal.invariant-loop-entry
invariant-loop-entry l = l.at ≡ gate_place l.fn.format (untimed_all (plain_history (take l.entry-index l.entries)))
