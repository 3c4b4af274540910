-- Runs of what specs pick are runs of links.
use Rattle.std.proofs.Common.{List, [], ◌∷◌}
use Rattle.std.specs.List.{All}
use Rattle.std.proofs.lemmas.List.Elements.{All-head, All-tail, All-nil, All-cons}
use Rattle.febe_data.specs.declared.run.Run.{Run}
use Rattle.poom.specs.Edited.{IsContentRun}
use Rattle.links.specs.LinkLists.{IsRun}

pub is_run : (run : Run) → IsContentRun run → IsRun run
is_run run is = record { content = is.document; counted = is.from_one; some = is.filled; small = is.fits }

pub are_runs : (runs : List Run) → All IsContentRun runs → All IsRun runs
are_runs [] all = All-nil IsRun
are_runs (run ∷ runs) all = All-cons IsRun run runs (is_run run (All-head IsContentRun run runs all)) (are_runs runs (All-tail IsContentRun run runs all))
