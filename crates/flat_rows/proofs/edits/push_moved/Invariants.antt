use Rattle.std.proofs.Common.{◌≡◌, ◌++◌, take, map}
use Rattle.std.specs.Prelude.{filter}
use Rattle.world_rules.specs.Edits.{moves_up, up_by}
use Rattle.flat_rows.proofs.edits.push_moved.Given as goal

abbrev pub invariant-loop-row : goal.invariant-loop-row
invariant-loop-row l = l.made.items ≡ l.initial.made.items ++ map (up_by l.k) (filter (moves_up l.document l.n) (take l.row-index l.rows))
