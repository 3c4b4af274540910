use Rattle.std.proofs.Common.{sym, subst}
use Rattle.tree_world.specs.Standing.{Stands}
use Rattle.tree_world.proofs.Roots.{root_stands, root_grows}
use Rattle.tree_world.proofs.Edited.{deleted_as}
use Rattle.tree_world.specs.Undone.{DocumentEdited}
use Rattle.tree_world.proofs.EntryCounted.{with_marks}
use Rattle.tree_world.proofs.Marked.{room_for_mark, stay_from}
use Rattle.tree_world.proofs.Rerooted.{rerooted}
use Rattle.tree_world.proofs.Undone.{of_old, was_edited, grown_none}
use Rattle.tree_world.proofs.world.TreeWorld.delete.Goals as goal

pub delete-requires-clause-root : goal.delete-requires-clause-root
delete-requires-clause-root c = root_stands c.self.inside.pooms c.self.inside.documents c.args.document.now c.in-Some.root c.self.invariant.0 (sym c.in-Some.ensures)

pub set_root-requires-clause-room : goal.set_root-requires-clause-room
set_root-requires-clause-room c = room_for_mark c.self.inside.due.spare c.reserve.new.self.spare c.in_ok-reserve.ensures.ok

pub set_root-requires-clause-was : goal.set_root-requires-clause-was
set_root-requires-clause-was c = sym c.in-Some.ensures

pub set_root-requires-clause-old : goal.set_root-requires-clause-old
set_root-requires-clause-old c = root_grows c.self.inside.pooms c.delete.new.self c.in-Some.root.0 c.delete.ensures.kept c.delete.ensures.grows (root_stands c.self.inside.pooms c.self.inside.documents c.args.document.now c.in-Some.root c.self.invariant.0 (sym c.in-Some.ensures))

pub invariant_of-self-2 : goal.invariant_of-self-2
invariant_of-self-2 c =
    rerooted c.self.inside.pooms c.delete.new.self c.self.inside.documents c.set_root.new.documents c.self.inside.contents c.self.inside.due.items c.reserve.new.self.items c.set_root.new.due.items c.args.document.now c.in_ok-made.made c.self.invariant c.delete.ensures.kept c.delete.ensures.grows c.in_ok-made.ensures.root
    c.set_root.ensures.documents c.reserve.ensures.items c.set_root.ensures.due

pub returns-clause-ok : goal.returns-clause-ok
returns-clause-ok c view session stands =
    with_marks _ _ c.set_root.new.due.items
    (deleted_as _ view (subst (λ t. Stands t view) (sym c.self.view_is) stands) c.self.invariant.0 c.args.document.now c.in-Some.root c.in-Some.ensures c.delete.new.self c.delete.ensures.kept c.delete.ensures.grows c.in_ok-made.made c.in_ok-made.ensures.root
    c.set_root.new.documents _ c.set_root.ensures.documents c.in_ok-counted.ensures session c.args.span.now c.in_ok-made.ensures.text c.in_ok-made.ensures.links)

pub returns-clause-came : goal.returns-clause-came
returns-clause-came c =
    of_old (DocumentEdited c.args.document.now) _ _ _ c.self.view_is
    (was_edited _ c.args.document.now c.in-Some.root (sym c.in-Some.ensures) c.in_ok-made.made c.delete.new.self c.self.inside.index c.set_root.new.documents _ c.set_root.new.due.items (stay_from c.self.inside.due.items c.reserve.new.self.items c.set_root.new.due.items c.reserve.ensures.items c.set_root.ensures.stay) c.delete.ensures.grows (grown_none c.self.inside.index.nodes) c.set_root.ensures.documents)
