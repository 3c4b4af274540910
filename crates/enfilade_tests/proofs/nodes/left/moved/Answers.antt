use Rattle.tumbler.proofs.Before.{up_to_if_false}
use Rattle.enfilade_tests.proofs.nodes.left.moved.Goals as goal

pub minus-distance-requires : goal.minus-distance-requires
minus-distance-requires g c = up_to_if_false c.args.row.now.first c.args.gap.now.to c.requires
