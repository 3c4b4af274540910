use Rattle.std.proofs.Common.{◌+◌, ◌<◌, ap, subst, sym, ◌∙◌}
use Rattle.enfilade_core.specs.Plain.{plain_row}
use Rattle.enfilade_core.specs.Planes.{plain_text}
use Rattle.tumbler.specs.Places.{place_bound}
use Rattle.granfilade.specs.Content.{so_far_on}
use Rattle.granfilade.specs.Steps.{last_of}
use Rattle.granfilade.proofs.WellFormedRows.{row_room}
use Rattle.store_tests.proofs.TestPlaces.{row_in_front}
use Rattle.store_tests.proofs.contents.ask_row.Goals as goal

pub so_far_on-end-requires : goal.so_far_on-end-requires
so_far_on-end-requires g c = subst (λ n. last_of c.args.row.now.first + n < place_bound) (sym c.len.ensures) (row_room (plain_row plain_text c.args.row.now) c.requires)

pub returns : goal.returns
returns g c = row_in_front c.args.start.now c.so_far_on-end.result c.args.row.now c.requires (c.so_far_on-end.ensures ∙ ap (so_far_on c.args.row.now.first) c.len.ensures) c.ask_up_to.ensures
