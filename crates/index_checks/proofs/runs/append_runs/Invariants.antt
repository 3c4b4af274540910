use Rattle.std.proofs.Common.{◌≡◌, ◌++◌, take, map}
use Rattle.std.specs.List.{All}
use Rattle.spanfilade.specs.Index.{rows_for}
use Rattle.links.specs.LinkLists.{run_span}
use Rattle.index_checks.specs.inside.Addressed.{HasAddress}
use Rattle.index_checks.proofs.runs.append_runs.Given as goal

abbrev pub invariant-loop-run : goal.invariant-loop-run
invariant-loop-run l = record {
  addressed : All HasAddress (take l.run-index l.runs);
  rows : l.into.items ≡ l.fn.into.items ++ rows_for (map run_span (take l.run-index l.runs)) l.key;
}
