use Rattle.std.proofs.Common.{◌≡◌, drop}
use Rattle.std.specs.List.{list_any}
use Rattle.links.specs.LinkLists.{run_span}
use Rattle.links.specs.Finding.{spans_meet}
use Rattle.links.proofs.finding.is_end_met.Given as goal

abbrev pub invariant-loop-run : goal.invariant-loop-run
invariant-loop-run l =
    list_any (λ run. list_any (λ span. spans_meet span (run_span run)) l.spans.items) (drop l.run-index l.runs)
    ≡ list_any (λ run. list_any (λ span. spans_meet span (run_span run)) l.spans.items) l.runs
