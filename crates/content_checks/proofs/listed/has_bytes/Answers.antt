-- The document was looked for, and then its bytes were counted.
use Rattle.std.proofs.Common.{◌∙◌, arith, sym, ap}
use Rattle.std.proofs.lemmas.List.{get_or_default}
use Rattle.page_tables.specs.declared.tables.TableDocument.{TableDocument}
use Rattle.content_checks.specs.inside.Steps.{piece_of}
use Rattle.content_checks.proofs.Tested.{same_places, other_places}
use Rattle.content_checks.proofs.ListedBytes.{not_listed, is_listed}
use Rattle.content_checks.proofs.listed.has_bytes.Goals as goal

pub returns-then-at-documents : goal.returns-then-at-documents
returns-then-at-documents c =
    not_listed c.args.documents.now (piece_of c.args.shown.now) c.requires.right c.place-at.result c.requires.documents c.place-at.ensures (λ d lt. absurd (omega (arith, lt, c.if-at-documents.true)))

pub returns-then-ne : goal.returns-then-ne
returns-then-ne c =
    not_listed c.args.documents.now (piece_of c.args.shown.now) c.requires.right c.place-at.result c.requires.documents c.place-at.ensures
    (λ d lt same. other_places c.index-documents-at.result.document c.args.shown.now.document c.if-ne.ensures
    (ap (λ (row : TableDocument). row.document) (c.index-documents-at.is ∙ get_or_default c.args.documents.now c.place-at.result c.index-documents-at.result d lt) ∙ same))

pub returns : goal.returns
returns c =
    is_listed c.args.documents.now (piece_of c.args.shown.now) c.requires.right c.place-at.result c.index-documents-at.result c.requires.documents c.if-at-documents.false c.index-documents-at.is
    (same_places c.index-documents-at.result.document c.args.shown.now.document (sym c.ne.ensures ∙ c.if-ne.false))
