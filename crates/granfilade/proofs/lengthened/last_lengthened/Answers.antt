use Rattle.std.proofs.Common.{ℕ, ◌+◌, ◌<◌, sym, subst}
use Rattle.tumbler.specs.Places.{place_bound}
use Rattle.enfilade_core.specs.Plain.{found_row}
use Rattle.enfilade_core.specs.Planes.{content_widths, plain_text}
use Rattle.enfilade_core.proofs.Parts.{rows-well_formed, rows-ordered}
use Rattle.granfilade.specs.Steps.{last_of}
use Rattle.granfilade.proofs.WellFormedRows.{row_room}
use Rattle.granfilade.proofs.LongerRow.{well_formed_of_last}
use Rattle.enfilade_core.specs.Rows.{rows_of}
use Rattle.granfilade.proofs.lengthened.last_lengthened.Goals as goal

pub so_far_on-requires : goal.so_far_on-requires
so_far_on-requires c =
    let nodes = c.args.arena.now in
    let root = c.args.root.0 in
    let row = found_row plain_text c.in-Some.row in
    subst (λ (n : ℕ). last_of c.in-Some.row.first + n < place_bound) (sym c.len-long.ensures)
    (row_room row (well_formed_of_last c.args.start.now (rows_of nodes root) row (rows-well_formed content_widths nodes root c.allocator-alloc.ensures.well_formed c.requires) (rows-ordered content_widths nodes root c.allocator-alloc.ensures.well_formed c.requires)
    c.in-Some.ensures.found))
