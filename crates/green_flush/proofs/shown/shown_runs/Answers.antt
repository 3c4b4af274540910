use Rattle.std.proofs.Common.{List, ◌++◌, ◌∙◌, ap}
use Rattle.febe_data.specs.declared.run.Run.{Run}
use Rattle.green_flush.proofs.ShownRuns.{runs-step}
use Rattle.green_flush.proofs.shown.shown_runs.Goals as goal

pub loop-row-preserved : goal.loop-row-preserved
loop-row-preserved c =
    runs-step c.args.poom.now c.args.documents.now c.loop-row.row-index c.row-item.result c.in-Some.root.0 c.loop-row.runs.items c.in_ok-shown.shown.items c.extend_from_slice.new.self.items
    c.loop-row-test.true c.row-item.is c.in-Some.ensures.found.0 c.loop-row.invariant c.in_ok-shown.ensures.bytes c.in_ok-shown.ensures.origin c.in_ok-shown.ensures.content (c.in_ok-extend_from_slice.ensures.ok ∙ ap (λ (x : List Run). c.loop-row.runs.items ++ x) c.as_slice.ensures)
