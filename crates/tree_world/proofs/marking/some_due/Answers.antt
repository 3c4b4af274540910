use Rattle.tree_world.proofs.Marked.{some_left}
use Rattle.tree_world.proofs.marking.some_due.Goals as goal

pub returns : goal.returns
returns c = some_left c.args.pooms.now c.args.documents.now c.args.due.now c.marks_left.result c.in_order.ensures c.requires.due c.marks_left.ensures.behind c.marks_left.ensures.last
