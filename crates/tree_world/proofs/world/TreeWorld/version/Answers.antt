use Rattle.std.proofs.Common.{◌∙◌, refl, sym, subst, ap}
use Rattle.std.specs.Prelude.{All, Some}
use Rattle.poom.specs.Laid.{IsRoot}
use Rattle.poom.specs.Edited.{IsContentRun, run_addresses}
use Rattle.tree_world.specs.Trees.{text_at}
use Rattle.tree_world.specs.Standing.{Stands, IsCovered}
use Rattle.tree_world.proofs.Roots.{root_stands}
use Rattle.tree_world.proofs.Holds.{unmarked, with_due, holds_same, holds_added}
use Rattle.tree_world.proofs.Made.{versioned_as, stay_kept, stay_grown}
use Rattle.tree_world.specs.Undone.{DocumentCame}
use Rattle.tree_world.proofs.EntryCounted.{with_marks}
use Rattle.tree_world.proofs.Marked.{room_for_mark, stay_from, due_same, due_added}
use Rattle.tree_world.proofs.Undone.{of_old, came_in, grown_none}
use Rattle.tree_world.proofs.world.TreeWorld.version.Goals as goal

pub text_runs-requires : goal.text_runs-requires
text_runs-requires c = root_stands c.self.inside.pooms c.self.inside.documents c.args.source.now c.in-Some.root c.self.invariant.0 (sym c.in-Some.ensures)

pub index_runs-requires : goal.index_runs-requires
index_runs-requires c = subst (λ runs. All IsContentRun runs) (sym c.as_slice.ensures) c.in_ok-runs.ensures.content

pub invariant_of-self-in_default-add_open : goal.invariant_of-self-in_default-add_open
invariant_of-self-in_default-add_open c =
    with_due c.self.inside.pooms c.add_open.new.documents c.self.inside.contents c.reserve.new.self.items
    (holds_same c.self.inside.pooms c.self.inside.pooms c.self.inside.documents c.add_open.new.documents c.self.inside.contents refl c.in_default-add_open.ensures.same_documents (unmarked c.self.inside.pooms c.self.inside.documents c.self.inside.contents c.self.inside.due.items c.self.invariant))
    (due_same c.self.inside.pooms c.self.inside.pooms c.self.inside.documents c.add_open.new.documents c.self.inside.due.items c.reserve.new.self.items refl c.in_default-add_open.ensures.same_documents c.reserve.ensures.items c.self.invariant.4)

pub invariant_of-self-2 : goal.invariant_of-self-2
invariant_of-self-2 c =
    let may = c.if-not-may_come_in.ensures refl in
    let root = root_stands c.self.inside.pooms c.self.inside.documents c.args.source.now c.in-Some.root c.self.invariant.0 (sym c.in-Some.ensures) in
    with_due c.self.inside.pooms c.add_open.new.documents c.self.inside.contents c.add_mark.new.due.items
    (holds_same c.self.inside.pooms _ _ _ c.self.inside.contents refl c.in-Ok.ensures.documents
    (holds_added c.self.inside.pooms c.self.inside.pooms c.self.inside.documents c.self.inside.contents (unmarked c.self.inside.pooms c.self.inside.documents c.self.inside.contents c.self.inside.due.items c.self.invariant) (stay_kept c.self.inside.pooms) (stay_grown c.self.inside.pooms) c.args.document.now c.version-shared.result
    (subst (λ node. IsRoot c.self.inside.pooms node.0) (sym c.version-shared.ensures) root) may.address may.absent))
    (due_added c.self.inside.pooms c.self.inside.documents c.add_open.new.documents c.args.document.now c.version-shared.result c.reserve.new.self.items c.add_mark.new.due.items may.absent c.in-Ok.ensures.documents
    (due_same c.self.inside.pooms c.self.inside.pooms c.self.inside.documents c.self.inside.documents c.self.inside.due.items c.reserve.new.self.items refl refl c.reserve.ensures.items c.self.invariant.4)
    c.add_mark.ensures.stay c.add_mark.ensures.marked)

pub add_mark-requires-clause-room : goal.add_mark-requires-clause-room
add_mark-requires-clause-room c = room_for_mark c.self.inside.due.spare c.reserve.new.self.spare c.in_ok-reserve.ensures.ok

pub add_mark-requires-clause-root : goal.add_mark-requires-clause-root
add_mark-requires-clause-root c =
    let root = root_stands c.self.inside.pooms c.self.inside.documents c.args.source.now c.in-Some.root c.self.invariant.0 (sym c.in-Some.ensures) in
    subst (λ node. IsRoot c.self.inside.pooms node.0) (sym c.version-shared.ensures) root

pub returns-clause-ok : goal.returns-clause-ok
returns-clause-ok c view stands =
    let root = root_stands c.self.inside.pooms c.self.inside.documents c.args.source.now c.in-Some.root c.self.invariant.0 (sym c.in-Some.ensures) in
    with_marks _ _ c.add_mark.new.due.items
    (versioned_as _ view (subst (λ t. Stands t view) (sym c.self.view_is) stands) c.self.invariant.0 c.args.session c.args.document.now (c.if-not-may_come_in.ensures refl) c.self.inside.pooms (stay_kept c.self.inside.pooms) (stay_grown c.self.inside.pooms) c.version-shared.result
    (subst (λ node. IsRoot c.self.inside.pooms node.0) (sym c.version-shared.ensures) root)
    c.add_open.new.documents c.add_open.new.access _ c.in-Ok.ensures.documents c.in-Ok.ensures.access c.in_ok-counted.ensures c.args.source.now (sym c.in-Some.ensures ∙ ap Some (sym c.version-shared.ensures)) c.index_runs.new.index c.in_ok-index_runs.ensures.keeps
    (subst (λ xs. All (IsCovered c.index_runs.new.index c.args.document.now) xs) (ap run_addresses c.as_slice.ensures ∙ c.in_ok-runs.ensures.bytes ∙ ap (text_at c.self.inside.pooms) c.in-Some.ensures) c.in_ok-index_runs.ensures.covers))

pub returns-clause-came : goal.returns-clause-came
returns-clause-came c =
    let may = c.if-not-may_come_in.ensures refl in
    of_old (DocumentCame c.args.session c.args.document.now) _ _ _ c.self.view_is
    (came_in _ c.args.session c.args.document.now c.version-shared.result c.self.inside.pooms c.index_runs.new.index c.add_open.new.documents c.add_open.new.access _ c.add_mark.new.due.items (stay_from c.self.inside.due.items c.reserve.new.self.items c.add_mark.new.due.items c.reserve.ensures.items c.add_mark.ensures.stay) (grown_none c.self.inside.pooms) c.index_runs.ensures.grows may.absent may.unopened c.in-Ok.ensures.documents
    c.in-Ok.ensures.access)
