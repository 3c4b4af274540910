use Rattle.std.proofs.Common.{◌≡◌, ◌++◌, drop}
use Rattle.world_rules.specs.Edits.{new_rows}
use Rattle.flat_rows.proofs.edits.push_new.Given as goal

abbrev pub invariant-loop-address : goal.invariant-loop-address
invariant-loop-address l = l.made.items ++ new_rows l.document l.n (drop l.address-index l.addresses) ≡ l.initial.made.items ++ new_rows l.document l.initial.n l.addresses
