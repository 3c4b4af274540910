use Rattle.std.proofs.Common.{◌≡◌, ◌∙◌, sym, subst}
use Rattle.tumbler.specs.declared.span.Span.{Span}
use Rattle.enfilade_core.specs.Rows.{rows_of}
use Rattle.poom.specs.Laid.{texts}
use Rattle.poom.specs.Picked.{picked_from}
use Rattle.green_flush.proofs.ShownRuns.{whole_picked}
use Rattle.green_flush.proofs.shown.text_runs.Goals as goal

pub returns-clause-bytes : goal.returns-clause-bytes
returns-clause-bytes c =
    c.in_ok-runs.ensures.bytes
    ∙ subst (λ (span : Span). picked_from 1 span 1 (texts (rows_of c.args.poom.now c.args.root.0)) ≡ texts (rows_of c.args.poom.now c.args.root.0)) (sym c.whole_text-span.ensures)
    (whole_picked 1 (texts (rows_of c.args.poom.now c.args.root.0)))
