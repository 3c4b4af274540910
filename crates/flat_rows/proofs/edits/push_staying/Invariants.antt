use Rattle.std.proofs.Common.{◌≡◌, ◌++◌, take, not}
use Rattle.std.specs.Prelude.{filter}
use Rattle.world_rules.specs.Edits.{moves_up}
use Rattle.flat_rows.proofs.edits.push_staying.Given as goal

abbrev pub invariant-loop-row : goal.invariant-loop-row
invariant-loop-row l = l.made.items ≡ l.initial.made.items ++ filter (λ row. not (moves_up l.document l.n row)) (take l.row-index l.rows)
