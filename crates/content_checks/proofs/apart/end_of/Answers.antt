-- The row's width leads to its end.
use Rattle.enfilade_core.specs.Plain.{plain_row}
use Rattle.enfilade_core.specs.Planes.{plain_text}
use Rattle.std.proofs.Common.{◌∙◌, ap, subst, sym}
use Rattle.tumbler.specs.Places.{Fits, sum}
use Rattle.granfilade.proofs.WellFormedRows.{row_end}
use Rattle.content_checks.proofs.ApartRows.{end_fits}
use Rattle.content_checks.proofs.apart.end_of.Goals as goal

pub add-requires : goal.add-requires
add-requires c = subst (Fits c.args.row.now.first) (sym c.first_width.ensures) (end_fits (plain_row plain_text c.args.row.now) c.requires)

pub returns : goal.returns
returns c = c.add.ensures ∙ (ap (sum c.args.row.now.first) c.first_width.ensures ∙ row_end (plain_row plain_text c.args.row.now) c.requires)
