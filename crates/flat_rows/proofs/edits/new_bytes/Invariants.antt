use Rattle.std.proofs.Common.{◌≡◌, ◌++◌, drop}
use Rattle.world_rules.specs.Edits.{new_bytes}
use Rattle.flat_rows.proofs.edits.new_bytes.Given as goal

abbrev pub invariant-loop-byte : goal.invariant-loop-byte
invariant-loop-byte l = l.made.items ++ new_bytes l.document l.first (drop l.byte-index l.text) ≡ new_bytes l.document l.initial.first l.text
