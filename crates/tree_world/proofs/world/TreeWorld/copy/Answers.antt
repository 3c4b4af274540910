use Rattle.std.proofs.Common.{◌≡◌, ◌∙◌, ℕ, ◌+◌, ◌≤◌, map, refl, sym, subst, ap, arith}
use Rattle.std.specs.Prelude.{All}
use Rattle.febe_data.specs.Plain.{plain_spec}
use Rattle.poom.specs.Edited.{IsContentRun, run_addresses}
use Rattle.tree_world.specs.Standing.{Stands, IsCovered}
use Rattle.tree_world.specs.Changed.{total_bytes}
use Rattle.tree_world.proofs.Roots.{root_stands, root_grows, taken_back}
use Rattle.tree_world.proofs.Holds.{unmarked, with_due, holds_same}
use Rattle.tree_world.proofs.Whole.{total_is}
use Rattle.tree_world.proofs.Brought.{addresses_are}
use Rattle.tree_world.proofs.Edited.{copied_as}
use Rattle.tree_world.specs.Undone.{DocumentEdited}
use Rattle.tree_world.proofs.EntryCounted.{with_marks}
use Rattle.tree_world.proofs.Marked.{room_for_mark, stay_from, due_same}
use Rattle.tree_world.proofs.Rerooted.{rerooted}
use Rattle.tree_world.proofs.Undone.{of_old, was_edited}
use Rattle.tree_world.proofs.world.TreeWorld.copy.Goals as goal

room_for : (n k long total : ℕ) → n + k ≤ 1073741824 → n ≡ long → k ≡ total → long + total ≤ 1073741824
room_for n k long total h e f = omega (arith, h, e, f)

up_to : (at n long : ℕ) → at ≤ 1 + n → n ≡ long → at ≤ 1 + long
up_to at n long h e = omega (arith, h, e)

pub length-requires : goal.length-requires
length-requires c = record { document = root_stands c.self.inside.pooms c.self.inside.documents c.args.document.now c.in-Some.root c.self.invariant.0 (sym c.in-Some.ensures) }

pub copy_in-requires-clause-root : goal.copy_in-requires-clause-root
copy_in-requires-clause-root c = root_stands c.self.inside.pooms c.self.inside.documents c.args.document.now c.in-Some.root c.self.invariant.0 (sym c.in-Some.ensures)

pub copy_in-requires-clause-room : goal.copy_in-requires-clause-room
copy_in-requires-clause-room c =
    room_for c.length.result c.in-Some-total_bytes.total _ _ (c.if-not-has_place.ensures.room refl) c.length.ensures (c.in-Some-total_bytes.ensures ∙ ap total_bytes c.as_slice.ensures ∙ sym (total_is c.in_ok-runs.runs.items))

pub index_runs-requires : goal.index_runs-requires
index_runs-requires c = subst (λ runs. All IsContentRun runs) (sym c.as_slice-2.ensures) c.in_ok-runs.ensures.content

pub invariant_of-self-in_default-index_runs : goal.invariant_of-self-in_default-index_runs
invariant_of-self-in_default-index_runs c =
    let same = c.back.ensures ∙ taken_back c.self.inside.pooms c.copy_in.new.self c.mark-mark.result c.copy_in.ensures.grows c.mark-mark.ensures in
    with_due c.back.new.self c.self.inside.documents c.self.inside.contents c.reserve.new.self.items (holds_same c.self.inside.pooms c.back.new.self c.self.inside.documents c.self.inside.documents c.self.inside.contents same refl (unmarked c.self.inside.pooms c.self.inside.documents c.self.inside.contents c.self.inside.due.items c.self.invariant))
    (due_same c.self.inside.pooms c.back.new.self c.self.inside.documents c.self.inside.documents c.self.inside.due.items c.reserve.new.self.items same refl c.reserve.ensures.items c.self.invariant.4)

pub set_root-requires-clause-room : goal.set_root-requires-clause-room
set_root-requires-clause-room c = room_for_mark c.self.inside.due.spare c.reserve.new.self.spare c.in_ok-reserve.ensures.ok

pub set_root-requires-clause-was : goal.set_root-requires-clause-was
set_root-requires-clause-was c = sym c.in-Some.ensures

pub set_root-requires-clause-old : goal.set_root-requires-clause-old
set_root-requires-clause-old c = root_grows c.self.inside.pooms c.copy_in.new.self c.in-Some.root.0 c.copy_in.ensures.kept c.copy_in.ensures.grows (root_stands c.self.inside.pooms c.self.inside.documents c.args.document.now c.in-Some.root c.self.invariant.0 (sym c.in-Some.ensures))

pub invariant_of-self-2 : goal.invariant_of-self-2
invariant_of-self-2 c =
    rerooted c.self.inside.pooms c.copy_in.new.self c.self.inside.documents c.set_root.new.documents c.self.inside.contents c.self.inside.due.items c.reserve.new.self.items c.set_root.new.due.items c.args.document.now c.in_ok-made.made c.self.invariant c.copy_in.ensures.kept c.copy_in.ensures.grows c.in_ok-made.ensures.root
    c.set_root.ensures.documents c.reserve.ensures.items c.set_root.ensures.due

pub returns-clause-ok : goal.returns-clause-ok
returns-clause-ok c view session stands =
    with_marks _ _ c.set_root.new.due.items
    (copied_as _ view (subst (λ t. Stands t view) (sym c.self.view_is) stands) c.self.invariant.0 c.args.document.now c.in-Some.root c.in-Some.ensures c.copy_in.new.self c.copy_in.ensures.kept c.copy_in.ensures.grows c.in_ok-made.made c.in_ok-made.ensures.root
    c.index_runs.new.index c.args.at (run_addresses c.in_ok-runs.runs.items) c.set_root.new.documents _ c.set_root.ensures.documents c.in_ok-counted.ensures session (map plain_spec c.args.specs.now)
    (c.in_ok-runs.ensures.bytes ∙ sym (addresses_are c.args.self.now view stands (map plain_spec c.args.specs.now)))
    (c.if-not-has_place.ensures.from_one refl) (up_to c.args.at c.length.result _ (c.if-not-has_place.ensures.to_end refl) c.length.ensures) c.in_ok-made.ensures.text c.in_ok-made.ensures.links c.in-Ok.ensures.keeps
    (subst (λ runs. All (IsCovered c.index_runs.new.index c.args.document.now) (run_addresses runs)) c.as_slice-2.ensures c.in-Ok.ensures.covers))

pub returns-clause-came : goal.returns-clause-came
returns-clause-came c =
    of_old (DocumentEdited c.args.document.now) _ _ _ c.self.view_is
    (was_edited _ c.args.document.now c.in-Some.root (sym c.in-Some.ensures) c.in_ok-made.made c.copy_in.new.self c.index_runs.new.index c.set_root.new.documents _ c.set_root.new.due.items (stay_from c.self.inside.due.items c.reserve.new.self.items c.set_root.new.due.items c.reserve.ensures.items c.set_root.ensures.stay) c.copy_in.ensures.grows c.index_runs.ensures.grows c.set_root.ensures.documents)
