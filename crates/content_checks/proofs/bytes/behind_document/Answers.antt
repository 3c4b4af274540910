-- The rows are gone through as long as they have the document's next bytes.
use Rattle.std.proofs.Common.{map, ap}
use Rattle.std.proofs.lemmas.List.{nil_from_length}
use Rattle.enfilade_core.specs.Plain.{plain_row}
use Rattle.enfilade_core.specs.Planes.{plain_text}
use Rattle.content_checks.proofs.ByteRows.{goes_on, no_row, other_row}
use Rattle.content_checks.proofs.bytes.behind_document.Goals as goal

pub returns-in_default-clause-none : goal.returns-in_default-clause-none
returns-in_default-clause-none c =
    no_row c.args.document.now c.loop-done.done (map (plain_row plain_text) c.args.rows.now) (map (plain_row plain_text) c.loop-done.rest.now) c.loop-done-test.true
    (ap (map (plain_row plain_text)) (nil_from_length c.loop-done.rest.now c.in_default.ensures.cases)) c.loop-done.invariant

pub returns-in_default-behind_row-clause-none : goal.returns-in_default-behind_row-clause-none
returns-in_default-behind_row-clause-none c =
    other_row c.args.document.now c.loop-done.done (plain_row plain_text c.in-Some.row.now) (map (plain_row plain_text) c.args.rows.now) (map (plain_row plain_text) c.loop-done.rest.now) (map (plain_row plain_text) c.in-Some.behind.now) c.loop-done-test.true
    (ap (map (plain_row plain_text)) c.in-Some.ensures.cases.0) c.in_default-behind_row.ensures.none c.loop-done.invariant

pub loop-done-preserved : goal.loop-done-preserved
loop-done-preserved c =
    goes_on c.args.document.now c.loop-done.done c.in-Some-behind_row.now (plain_row plain_text c.in-Some.row.now) (map (plain_row plain_text) c.args.rows.now) (map (plain_row plain_text) c.loop-done.rest.now) (map (plain_row plain_text) c.in-Some.behind.now)
    c.requires (ap (map (plain_row plain_text)) c.in-Some.ensures.cases.0) c.in-Some-behind_row.ensures.some c.loop-done.invariant
