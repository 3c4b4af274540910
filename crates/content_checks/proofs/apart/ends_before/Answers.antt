-- The rows behind begin no earlier than the first of them.
use Rattle.std.proofs.Common.{map, ap, ◌∙◌}
use Rattle.std.proofs.lemmas.List.{nil_from_length}
use Rattle.tumbler.specs.Places.{comes_before}
use Rattle.enfilade_core.specs.Plain.{plain_row}
use Rattle.enfilade_core.specs.Planes.{plain_text}
use Rattle.granfilade.specs.Puts.{end_of_row}
use Rattle.content_checks.proofs.ApartRows.{none_behind, one_behind}
use Rattle.content_checks.proofs.apart.ends_before.Goals as goal

pub returns-in_default : goal.returns-in_default
returns-in_default c = none_behind (end_of_row (plain_row plain_text c.args.row.now)) (map (plain_row plain_text) c.args.behind.now) (ap (map (plain_row plain_text)) (nil_from_length c.args.behind.now c.in_default.ensures.cases))

pub returns : goal.returns
returns c =
    one_behind (end_of_row (plain_row plain_text c.args.row.now)) (plain_row plain_text c.in-Some.next.now) (map (plain_row plain_text) c.args.behind.now) _ c.is_before.result
    (ap (map (plain_row plain_text)) c.in-Some.ensures.cases.0) c.requires.ordered (c.is_before.ensures.value ∙ ap (comes_before c.in-Some.next.now.first) c.end_of.ensures)
