-- One document's bytes more are counted.
use Rattle.std.proofs.Common.{◌∙◌, ◌+◌, ℕ, min, ap}
use Rattle.enfilade_core.specs.Summary.{most_count}
use Rattle.content_checks.proofs.ContentRows.{promised_more, promised_all}
use Rattle.content_checks.proofs.contents.bytes_promised.Goals as goal

pub loop-document-preserved : goal.loop-document-preserved
loop-document-preserved c =
    promised_more c.args.documents.now c.loop-document.document-index c.document-item.result c.loop-document.bytes c.saturating_add-bytes.result c.loop-document-test.true c.document-item.is c.loop-document.invariant
    (c.saturating_add-bytes.ensures ∙ ap (λ (n : ℕ). min (c.loop-document.bytes + n) most_count) c.from.ensures)

pub returns : goal.returns
returns c = promised_all c.args.documents.now c.loop-document.document-index c.loop-document.bytes c.loop-document-test.false c.loop-document.invariant
