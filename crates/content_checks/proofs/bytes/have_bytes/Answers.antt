-- One document after another is taken off.
use Rattle.std.proofs.Common.{map, ap, ◌∙◌, sym, eqb}
use Rattle.std.proofs.lemmas.List.{length-map}
use Rattle.enfilade_core.specs.Plain.{plain_row}
use Rattle.enfilade_core.specs.Planes.{plain_text}
use Rattle.content_checks.proofs.DocumentBytes.{is_document, behind_one, not_there, at_end}
use Rattle.content_checks.proofs.bytes.have_bytes.Goals as goal

pub loop-document-init : goal.loop-document-init
loop-document-init c = (λ have. have, λ have. have)

pub behind_document-requires : goal.behind_document-requires
behind_document-requires c = is_document c.args.documents.now c.loop-document.document-index c.document-item.result c.requires c.loop-document-test.true c.document-item.is

pub loop-document-preserved : goal.loop-document-preserved
loop-document-preserved c =
    behind_one c.args.documents.now c.loop-document.document-index c.document-item.result (map (plain_row plain_text) c.args.rows.now) (map (plain_row plain_text) c.loop-document.rest.now) (map (plain_row plain_text) c.in-Some.behind.now)
    c.loop-document-test.true c.document-item.is c.loop-document.invariant c.in-Some.ensures.some

pub returns-in_default : goal.returns-in_default
returns-in_default c =
    not_there c.args.documents.now c.loop-document.document-index c.document-item.result (map (plain_row plain_text) c.args.rows.now) (map (plain_row plain_text) c.loop-document.rest.now)
    c.requires c.loop-document-test.true c.document-item.is c.loop-document.invariant c.in_default.ensures.none

pub returns : goal.returns
returns c =
    at_end c.args.documents.now c.loop-document.document-index (map (plain_row plain_text) c.args.rows.now) (map (plain_row plain_text) c.loop-document.rest.now) c.is_empty.result
    c.loop-document-test.false (c.is_empty.ensures ∙ ap (λ n. eqb n 0) (sym (length-map c.loop-document.rest.now (plain_row plain_text)))) c.loop-document.invariant
