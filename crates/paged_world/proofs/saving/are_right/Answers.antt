use Rattle.paged_world.proofs.MaySave.{stored_by, stand_for}
use Rattle.paged_world.proofs.saving.are_right.Goals as goal

pub returns-clause-roots : goal.returns-clause-roots
returns-clause-roots c =
    c.roots_are_there.ensures c.args.world.now c.requires.0
    (stored_by c.args.world.now c.requires.0 c.documents.result.now c.links.result.now c.links-2.result.now c.contents.result.now c.index.result.now c.mark-contents.result c.mark-index.result c.mark-ends.result
    c.requires.1 c.requires.2 c.trees_are_sound.ensures c.documents.ensures c.in_order.ensures c.links.ensures c.in_order-2.ensures.ascends c.in_order-2.ensures.runs
    c.contents.ensures c.mark-contents.ensures.root c.mark-contents.ensures.count c.mark-contents.ensures.below
    c.index.ensures c.mark-index.ensures.mark c.mark-index.ensures.below
    c.links-2.ensures c.mark-ends.ensures.mark c.mark-ends.ensures.below)

pub returns-clause-sound : goal.returns-clause-sound
returns-clause-sound c =
    c.stored_are_sound.ensures c.args.world.now c.requires.0
    (stored_by c.args.world.now c.requires.0 c.documents.result.now c.links.result.now c.links-2.result.now c.contents.result.now c.index.result.now c.mark-contents.result c.mark-index.result c.mark-ends.result
    c.requires.1 c.requires.2 c.trees_are_sound.ensures c.documents.ensures c.in_order.ensures c.links.ensures c.in_order-2.ensures.ascends c.in_order-2.ensures.runs
    c.contents.ensures c.mark-contents.ensures.root c.mark-contents.ensures.count c.mark-contents.ensures.below
    c.index.ensures c.mark-index.ensures.mark c.mark-index.ensures.below
    c.links-2.ensures c.mark-ends.ensures.mark c.mark-ends.ensures.below)

pub returns-clause-stand : goal.returns-clause-stand
returns-clause-stand c = stand_for c.args.world.now
