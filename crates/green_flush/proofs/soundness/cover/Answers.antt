use Rattle.std.proofs.Common.{List, All, sym, subst}
use Rattle.febe_data.specs.declared.run.Run.{Run}
use Rattle.links.specs.LinkLists.{IsRun}
use Rattle.green_flush.proofs.ShownRuns.{are-runs}
use Rattle.green_flush.proofs.SoundTrees.{cover-iff}
use Rattle.green_flush.proofs.soundness.cover.Goals as goal

pub are_covered-requires-clause-runs : goal.are_covered-requires-clause-runs
are_covered-requires-clause-runs c =
    subst (λ (runs : List Run). All IsRun runs) (sym c.as_slice-2.ensures) (are-runs c.args.owned.now.poom c.as_slice.result.now c.in_ok-runs.runs.items c.in_ok-runs.ensures)

pub returns : goal.returns
returns c =
    cover-iff c.args.owned.now.spanfilade c.parts.result.0.now c.parts.result.1 c.args.owned.now.poom c.args.owned.now.tables.documents.items c.as_slice.result.now c.in_ok-runs.runs.items c.as_slice-2.result.now c.in_ok-cover.cover
    c.parts.ensures.arena c.parts.ensures.root c.as_slice.ensures c.as_slice-2.ensures c.in_ok-runs.ensures c.in_ok-cover.ensures
