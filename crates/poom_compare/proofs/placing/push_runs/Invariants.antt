use Rattle.std.proofs.Common.{◌≡◌, ◌+◌, ◌++◌, [], All, length, take}
use Rattle.poom.specs.Edited.{run_addresses}
use Rattle.world_rules.specs.Edits.{new_rows}
use Rattle.poom_compare.specs.Placed.{IsPlaced, rows_laid}
use Rattle.poom_compare.proofs.placing.push_runs.Given as goal

abbrev pub invariant-loop-run : goal.invariant-loop-run
invariant-loop-run l =
    (l.position ≡ l.at + length (run_addresses (take l.run-index l.runs))) × All IsPlaced l.placed.items
    × (rows_laid l.placed.items ≡ rows_laid l.fn.placed.items ++ new_rows [] l.at (run_addresses (take l.run-index l.runs)))
