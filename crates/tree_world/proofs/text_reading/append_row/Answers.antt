use Rattle.enfilade_core.specs.Planes.{text_widths}
use Rattle.enfilade_search.proofs.Placing.{first_fits, second_fits}
use Rattle.tree_world.proofs.text_reading.append_row.Goals as goal

pub add-requires : goal.add-requires
add-requires c = first_fits text_widths c.args.first.now c.args.second.now c.args.row.now c.requires.fits

pub add-requires-2 : goal.add-requires-2
add-requires-2 c = second_fits text_widths c.args.first.now c.args.second.now c.args.row.now c.requires.fits
