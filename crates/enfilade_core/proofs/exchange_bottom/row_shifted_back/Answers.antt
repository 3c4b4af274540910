use Rattle.std.proofs.Common.{◌∙◌, ap}
use Rattle.tumbler.specs.Places.{sum, difference}
use Rattle.tumbler.proofs.Before.{up_to_if_false}
use Rattle.enfilade_core.proofs.ExchangeBottom.{shift-fits}
use Rattle.enfilade_core.proofs.KeptRows.{shifted-back}
use Rattle.enfilade_core.proofs.exchange_bottom.row_shifted_back.Goals as goal

pub minus-distance-requires : goal.minus-distance-requires
minus-distance-requires g c = rw c.add-coordinate.ensures (up_to_if_false (sum c.args.first.now c.args.row.now.first) c.args.gap.now.to c.requires.past)

pub add-there-requires : goal.add-there-requires
add-there-requires g c =
    shift-fits c.args.gap.now.to c.args.gap.now.onto (sum c.args.first.now c.args.row.now.first) c.minus-distance.result c.requires.past c.requires.well_formed (c.minus-distance.ensures ∙ ap (λ x. difference x c.args.gap.now.to) c.add-coordinate.ensures)

pub returns : goal.returns
returns g c =
    shifted-back g.P.Plane.plain c.args.row.now c.args.first.now c.args.second.now c.args.gap.now.to c.args.gap.now.onto c.add-coordinate.result c.minus-distance.result c.add-there.result c.minus.result c.copy.result c.in_ok-copy_leaf.field-0
    c.is_tumbler.ensures.ends c.requires.past c.add-coordinate.ensures c.minus-distance.ensures c.add-there.ensures c.minus.ensures c.copy.ensures c.in_ok-copy_leaf.ensures
