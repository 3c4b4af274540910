use Rattle.std.proofs.Common.{◌∙◌, ap}
use Rattle.enfilade_core.specs.Rows.{rows_of}
use Rattle.poom.specs.Laid.{texts}
use Rattle.poom.specs.Picked.{picked_from}
use Rattle.tree_world.proofs.Whole.{whole_picked}
use Rattle.tree_world.proofs.indexing.text_runs.Goals as goal

pub returns-clause-bytes : goal.returns-clause-bytes
returns-clause-bytes c =
    c.in_ok-runs.ensures.bytes ∙ ap (λ span. picked_from 1 span 1 (texts (rows_of c.args.pooms.now c.args.root.0))) c.whole_text-span.ensures ∙ whole_picked 1 (texts (rows_of c.args.pooms.now c.args.root.0))
