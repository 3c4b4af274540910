use Rattle.std.proofs.Common.{arith}
use Rattle.tree_world.proofs.Marked.{due_cut, none_due, has_root, due_found}
use Rattle.tree_world.proofs.marking.due_tree.Goals as goal

pub returns-then-left-eq0-clause-due : goal.returns-then-left-eq0-clause-due
returns-then-left-eq0-clause-due c = due_cut c.args.pooms.now c.args.documents.now c.args.due.now.items c.as_slice.result.now c.truncate.new.self.items c.marks_left-left.result c.as_slice.ensures c.truncate.ensures.items c.marks_left-left.ensures.behind c.requires.due

pub returns-then-left-eq0-clause-none : goal.returns-then-left-eq0-clause-none
returns-then-left-eq0-clause-none c = none_due c.args.pooms.now c.args.documents.now c.args.due.now.items c.as_slice.result.now c.truncate.new.self.items c.marks_left-left.result c.as_slice.ensures c.truncate.ensures.items c.in_order.ensures c.marks_left-left.ensures.behind c.requires.due (omega (arith, c.if-left-eq0.true))

pub unreachable-requires-in_default-root : goal.unreachable-requires-in_default-root
unreachable-requires-in_default-root c =
    let off = c.if-left-eq0.false in
    has_root c.args.pooms.now c.args.documents.now c.args.due.now.items c.as_slice.result.now c.truncate.new.self.items c.marks_left-left.result c.as_slice.ensures c.truncate.ensures.items c.marks_left-left.ensures.last (omega (arith, off)) c.in-Some.document.now c.in-Some.ensures.value c.root.result c.root.ensures c.in_default-root.is

pub returns-clause-due : goal.returns-clause-due
returns-clause-due c = due_cut c.args.pooms.now c.args.documents.now c.args.due.now.items c.as_slice.result.now c.truncate.new.self.items c.marks_left-left.result c.as_slice.ensures c.truncate.ensures.items c.marks_left-left.ensures.behind c.requires.due

pub returns-clause-some : goal.returns-clause-some
returns-clause-some c =
    let off = c.if-left-eq0.false in
    due_found c.args.pooms.now c.args.documents.now c.args.due.now.items c.as_slice.result.now c.truncate.new.self.items c.marks_left-left.result c.as_slice.ensures c.truncate.ensures.items c.marks_left-left.ensures.last (omega (arith, off)) c.in-Some.document.now c.in-Some.ensures.value c.copy.result c.in-Some-root.root c.copy.ensures c.in-Some-root.ensures
