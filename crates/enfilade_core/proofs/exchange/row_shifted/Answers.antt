use Rattle.tumbler.proofs.Before.{up_to_if_false}
use Rattle.enfilade_core.proofs.ExchangeBottom.{shift-fits}
use Rattle.enfilade_core.proofs.exchange.row_shifted.Goals as goal

pub minus-distance-requires : goal.minus-distance-requires
minus-distance-requires g c = up_to_if_false c.args.row.now.first c.args.gap.now.to c.requires.past

pub add-requires : goal.add-requires
add-requires g c = shift-fits c.args.gap.now.to c.args.gap.now.onto c.args.row.now.first c.minus-distance.result c.requires.past c.requires.well_formed c.minus-distance.ensures
