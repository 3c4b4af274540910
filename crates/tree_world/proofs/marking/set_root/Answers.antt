use Rattle.std.proofs.Common.{◌∙◌, List, ap, sym}
use Rattle.enfilade_core.specs.Rows.{Shape}
use Rattle.enfilade_core.specs.BalanceState.{tree_allows}
use Rattle.tree_world.proofs.Tables.{has_some}
use Rattle.tree_world.proofs.Marked.{stay_self, marked_before, due_rooted}
use Rattle.tree_world.proofs.marking.set_root.Goals as goal

pub set_root-requires : goal.set_root-requires
set_root-requires c = has_some c.args.documents.now c.args.document.now c.args.old c.requires.was

-- the root of before allowed a step, so the document was marked
pub returns-then-allows-clause-due : goal.returns-then-allows-clause-due
returns-then-allows-clause-due c is =
    due_rooted c.args.pooms.now c.args.documents.now c.set_root.new.self c.args.document.now c.args.made c.args.due.now.items c.args.due.now.items c.args.old c.requires.was c.set_root.ensures is (stay_self c.args.due.now.items)
    (λ allows. marked_before c.args.pooms.now c.args.documents.now c.args.document.now c.args.old c.args.due.now.items c.requires.was (ap (λ (nodes : List (Shape _)). tree_allows nodes c.args.old.0) (sym c.arena.ensures) ∙ sym c.allows.ensures ∙ c.if-allows.true) is)

pub returns-clause-due : goal.returns-clause-due
returns-clause-due c is =
    due_rooted c.args.pooms.now c.args.documents.now c.set_root.new.self c.args.document.now c.args.made c.args.due.now.items c.add_mark.new.due.items c.args.old c.requires.was c.set_root.ensures is c.add_mark.ensures.stay c.add_mark.ensures.marked
