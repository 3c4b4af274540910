use Rattle.std.proofs.Common.{◌∙◌, ap}
use Rattle.table_checks.specs.TableRows.{is_listed}
use Rattle.table_checks.proofs.Elders.{elder_found}
use Rattle.table_checks.proofs.documents.has_elder.Goals as goal

pub returns : goal.returns
returns c =
    elder_found c.args.rows.now c.args.address.now c.places-places.result.now c.is_listed.result c.is_empty.result c.places-places.ensures.value c.is_empty.ensures c.if-is_empty.false c.if-last-lt2.false
    (c.is_listed.ensures ∙ ap (is_listed c.args.rows.now) c.just_before.ensures)
