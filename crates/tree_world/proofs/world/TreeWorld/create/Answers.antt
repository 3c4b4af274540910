use Rattle.std.proofs.Common.{◌∙◌, refl, sym, subst}
use Rattle.tree_world.specs.Standing.{Stands}
use Rattle.tree_world.proofs.Roots.{taken_back}
use Rattle.tree_world.proofs.Holds.{unmarked, with_due, holds_same, holds_added}
use Rattle.tree_world.proofs.Made.{created_as}
use Rattle.tree_world.specs.Undone.{DocumentCame}
use Rattle.tree_world.proofs.EntryCounted.{with_marks}
use Rattle.tree_world.proofs.Marked.{room_for_mark, stay_from, due_same, due_grown, due_added}
use Rattle.tree_world.proofs.Undone.{of_old, came_in, grown_none}
use Rattle.tree_world.proofs.world.TreeWorld.create.Goals as goal

pub invariant_of-self-in_default : goal.invariant_of-self-in_default
invariant_of-self-in_default c =
    let same = c.back.ensures ∙ taken_back c.self.inside.pooms c.empty.new.self c.mark-mark.result c.empty.ensures.grows c.mark-mark.ensures in
    with_due c.back.new.self c.add_open.new.documents c.self.inside.contents c.reserve.new.self.items
    (holds_same c.self.inside.pooms c.back.new.self c.self.inside.documents c.add_open.new.documents c.self.inside.contents same c.in_default.ensures.same_documents (unmarked c.self.inside.pooms c.self.inside.documents c.self.inside.contents c.self.inside.due.items c.self.invariant))
    (due_same c.self.inside.pooms c.back.new.self c.self.inside.documents c.add_open.new.documents c.self.inside.due.items c.reserve.new.self.items same c.in_default.ensures.same_documents c.reserve.ensures.items c.self.invariant.4)

pub invariant_of-self-2 : goal.invariant_of-self-2
invariant_of-self-2 c =
    let may = c.if-not-may_come_in.ensures refl in
    with_due c.empty.new.self c.add_open.new.documents c.self.inside.contents c.add_mark.new.due.items
    (holds_same c.empty.new.self _ _ _ c.self.inside.contents refl c.in-Ok.ensures.documents
    (holds_added c.self.inside.pooms c.empty.new.self c.self.inside.documents c.self.inside.contents (unmarked c.self.inside.pooms c.self.inside.documents c.self.inside.contents c.self.inside.due.items c.self.invariant) c.empty.ensures.kept c.empty.ensures.grows c.args.document.now c.in_ok-root.root c.in_ok-root.ensures.document may.address may.absent))
    (due_added c.empty.new.self c.self.inside.documents c.add_open.new.documents c.args.document.now c.in_ok-root.root c.reserve.new.self.items c.add_mark.new.due.items may.absent c.in-Ok.ensures.documents
    (due_grown c.self.inside.pooms c.empty.new.self c.self.inside.documents c.reserve.new.self.items c.empty.ensures.grows c.self.invariant.0
    (due_same c.self.inside.pooms c.self.inside.pooms c.self.inside.documents c.self.inside.documents c.self.inside.due.items c.reserve.new.self.items refl refl c.reserve.ensures.items c.self.invariant.4))
    c.add_mark.ensures.stay c.add_mark.ensures.marked)

pub add_mark-requires-clause-room : goal.add_mark-requires-clause-room
add_mark-requires-clause-room c = room_for_mark c.self.inside.due.spare c.reserve.new.self.spare c.in_ok-reserve.ensures.ok

pub returns-clause-ok : goal.returns-clause-ok
returns-clause-ok c view stands =
    with_marks _ _ c.add_mark.new.due.items
    (created_as _ view (subst (λ t. Stands t view) (sym c.self.view_is) stands) c.self.invariant.0 c.args.session c.args.document.now (c.if-not-may_come_in.ensures refl) c.empty.new.self c.empty.ensures.kept c.empty.ensures.grows c.in_ok-root.root c.in_ok-root.ensures.document
    c.add_open.new.documents c.add_open.new.access _ c.in-Ok.ensures.documents c.in-Ok.ensures.access c.in_ok-counted.ensures c.in_ok-root.ensures.nothing)

pub returns-clause-came : goal.returns-clause-came
returns-clause-came c =
    let may = c.if-not-may_come_in.ensures refl in
    of_old (DocumentCame c.args.session c.args.document.now) _ _ _ c.self.view_is
    (came_in _ c.args.session c.args.document.now c.in_ok-root.root c.empty.new.self c.self.inside.index c.add_open.new.documents c.add_open.new.access _ c.add_mark.new.due.items (stay_from c.self.inside.due.items c.reserve.new.self.items c.add_mark.new.due.items c.reserve.ensures.items c.add_mark.ensures.stay) c.empty.ensures.grows (grown_none c.self.inside.index.nodes) may.absent may.unopened c.in-Ok.ensures.documents c.in-Ok.ensures.access)
