use Rattle.std.proofs.Common.{◌∙◌, ℕ, ◌+◌, ◌-◌, ◌≤◌, List, length, All, refl, ap, sym, subst, arith}
use Rattle.tumbler.specs.declared.span.Span.{Span}
use Rattle.enfilade_core.specs.Rows.{rows_of}
use Rattle.granfilade.specs.Content.{laid, content}
use Rattle.granfilade.specs.Puts.{put_in}
use Rattle.poom.specs.Laid.{texts, exchanged_at}
use Rattle.poom.specs.Pieces.{addresses_from}
use Rattle.spanfilade.specs.Index.{rows_in_index}
use Rattle.spanfilade.specs.Index as index
use Rattle.doc_table.specs.DocumentRows.{root_in}
use Rattle.tree_world.specs.Standing.{Stands, IsCovered}
use Rattle.tree_world.proofs.Tables.{has_some}
use Rattle.tree_world.proofs.Holds.{unmarked, with_due}
use Rattle.tree_world.proofs.EntryCounted.{with_marks}
use Rattle.tree_world.proofs.Marked.{room_for_mark, stay_from, due_same, due_grown, due_filled}
use Rattle.tree_world.proofs.Roots.{root_stands, root_grows, taken_back}
use Rattle.tree_world.proofs.Covering.{covered_keeps, covered_covers}
use Rattle.tree_world.proofs.TextCame.{came_as, holds_came, root_made, contents_back, holds_back, same_trees, next_at, room_at, document_there}
use Rattle.tree_world.specs.Undone.{DocumentEdited}
use Rattle.tree_world.proofs.Undone.{of_old, text_came}
use Rattle.tree_world.proofs.world.TreeWorld.insert.Goals as goal

pub length-requires : goal.length-requires
length-requires c = record { document = root_stands c.self.inside.pooms c.self.inside.documents c.args.document.now c.in-Some.root c.self.invariant.0 (sym c.in-Some.ensures) }

pub text_span-span-requires-clause-document : goal.text_span-span-requires-clause-document
text_span-span-requires-clause-document c = document_there c.self.inside.documents c.args.document.now c.in-Some.root c.self.invariant.1 (sym c.in-Some.ensures)

pub put_text-requires-clause-next : goal.put_text-requires-clause-next
put_text-requires-clause-next c =
    next_at c.self.inside.documents c.self.inside.contents c.args.document.now c.text_span-span.result.start c.args.first c.content.result c.self.invariant.2 c.self.invariant.3 (document_there c.self.inside.documents c.args.document.now c.in-Some.root c.self.invariant.1 (sym c.in-Some.ensures))
    c.in-Some-numbered.ensures.next c.content.ensures (ap (λ (s : Span). s.start) c.text_span-span.ensures.value)

pub put_text-requires-clause-room : goal.put_text-requires-clause-room
put_text-requires-clause-room c =
    let next = c.in-Some-numbered.ensures.next in
    room_at c.args.document.now c.text_span-span.result.start c.args.first c.in-Some-numbered.count (length c.args.text.now) (document_there c.self.inside.documents c.args.document.now c.in-Some.root c.self.invariant.1 (sym c.in-Some.ensures))
    (omega (arith, next)) c.in-Some-numbered.ensures.numbers c.in-Some-numbered.ensures.count (ap (λ (s : Span). s.start) c.text_span-span.ensures.value)

pub insert-requires-clause-root : goal.insert-requires-clause-root
insert-requires-clause-root c = root_stands c.self.inside.pooms c.self.inside.documents c.args.document.now c.in-Some.root c.self.invariant.0 (sym c.in-Some.ensures)

pub insert-requires-clause-document : goal.insert-requires-clause-document
insert-requires-clause-document c = document_there c.self.inside.documents c.args.document.now c.in-Some.root c.self.invariant.1 (sym c.in-Some.ensures)

pub invariant_of-self-in_default-insert : goal.invariant_of-self-in_default-insert
invariant_of-self-in_default-insert c =
    with_due c.insert.new.self c.self.inside.documents c.back.new.self c.reserve.new.self.items
    (holds_back c.self.inside.pooms c.insert.new.self c.self.inside.documents c.self.inside.contents c.back.new.self c.in_default-insert.ensures.err
    (contents_back c.self.inside.contents c.put_text.new.contents c.back.new.self c.mark-contents.result.count c.mark-contents.result.root.0 c.put_text.ensures.grows c.mark-contents.ensures.count c.mark-contents.ensures.root c.back.ensures.nodes c.back.ensures.root) (unmarked c.self.inside.pooms c.self.inside.documents c.self.inside.contents c.self.inside.due.items c.self.invariant))
    (due_same c.self.inside.pooms c.insert.new.self c.self.inside.documents c.self.inside.documents c.self.inside.due.items c.reserve.new.self.items c.in_default-insert.ensures.err refl c.reserve.ensures.items c.self.invariant.4)

pub returns-in_default-insert-clause-err : goal.returns-in_default-insert-clause-err
returns-in_default-insert-clause-err c =
    same_trees _ c.back.new.self c.insert.new.self c.reserve.new.self.items
    (contents_back c.self.inside.contents c.put_text.new.contents c.back.new.self c.mark-contents.result.count c.mark-contents.result.root.0 c.put_text.ensures.grows c.mark-contents.ensures.count c.mark-contents.ensures.root c.back.ensures.nodes c.back.ensures.root)
    c.in_default-insert.ensures.err c.reserve.ensures.items
    ∙ c.self.view_is

pub invariant_of-self-in_default-cover : goal.invariant_of-self-in_default-cover
invariant_of-self-in_default-cover c =
    let same = c.back-in_default-cover.ensures ∙ taken_back c.self.inside.pooms c.insert.new.self c.mark-nodes.result c.insert.ensures.grows c.mark-nodes.ensures in
    with_due c.back-in_default-cover.new.self c.self.inside.documents c.back-in_default-cover-2.new.self c.reserve.new.self.items
    (holds_back c.self.inside.pooms c.back-in_default-cover.new.self c.self.inside.documents c.self.inside.contents c.back-in_default-cover-2.new.self same
    (contents_back c.self.inside.contents c.put_text.new.contents c.back-in_default-cover-2.new.self c.mark-contents.result.count c.mark-contents.result.root.0 c.put_text.ensures.grows c.mark-contents.ensures.count c.mark-contents.ensures.root c.back-in_default-cover-2.ensures.nodes c.back-in_default-cover-2.ensures.root) (unmarked c.self.inside.pooms c.self.inside.documents c.self.inside.contents c.self.inside.due.items c.self.invariant))
    (due_same c.self.inside.pooms c.back-in_default-cover.new.self c.self.inside.documents c.self.inside.documents c.self.inside.due.items c.reserve.new.self.items same refl c.reserve.ensures.items c.self.invariant.4)

pub set_root-requires-clause-room : goal.set_root-requires-clause-room
set_root-requires-clause-room c = room_for_mark c.self.inside.due.spare c.reserve.new.self.spare c.in_ok-reserve.ensures.ok

pub set_root-requires-clause-was : goal.set_root-requires-clause-was
set_root-requires-clause-was c = sym c.in-Some.ensures

pub set_root-requires-clause-old : goal.set_root-requires-clause-old
set_root-requires-clause-old c =
    root_grows c.self.inside.pooms c.insert.new.self c.in-Some.root.0 c.insert.ensures.kept c.insert.ensures.grows (root_stands c.self.inside.pooms c.self.inside.documents c.args.document.now c.in-Some.root c.self.invariant.0 (sym c.in-Some.ensures))

pub set_content-requires : goal.set_content-requires
set_content-requires c =
    has_some c.set_root.new.documents c.args.document.now c.in-Ok.made
    (ap (λ rows. root_in rows c.args.document.now) c.set_root.ensures.documents
    ∙ root_made c.self.inside.pooms c.insert.new.self c.self.inside.documents c.self.inside.contents (unmarked c.self.inside.pooms c.self.inside.documents c.self.inside.contents c.self.inside.due.items c.self.invariant) c.args.document.now c.in-Some.root (sym c.in-Some.ensures) c.insert.ensures.kept c.insert.ensures.grows c.in-Ok.made c.in-Ok.ensures.root)

pub invariant_of-self-2 : goal.invariant_of-self-2
invariant_of-self-2 c =
    let next = c.in-Some-numbered.ensures.next in
    let count = c.in-Some-numbered.ensures.count in
    let now = c.content.ensures in
    with_due c.insert.new.self c.set_content.new.self c.put_text.new.contents c.set_root.new.due.items
    (holds_came c.self.inside.pooms c.insert.new.self c.self.inside.documents c.self.inside.contents (unmarked c.self.inside.pooms c.self.inside.documents c.self.inside.contents c.self.inside.due.items c.self.invariant) c.args.document.now c.in-Some.root (sym c.in-Some.ensures) c.insert.ensures.kept c.insert.ensures.grows c.in-Ok.made c.in-Ok.ensures.root
    c.args.first c.args.text.now (omega (arith, next, now)) c.put_text.new.contents
    (c.in_ok-put_text.ensures.bytes ∙ ap (λ (a : List ℕ). put_in a (laid a c.args.text.now) (content c.self.inside.contents)) (ap (λ (s : Span). s.start) c.text_span-span.ensures.value))
    (c.args.first - 1 + c.in-Some-numbered.count) (omega (arith, next, now, count)) c.set_content.new.self c.set_root.new.documents c.set_root.ensures.documents c.set_content.ensures c.in_ok-put_text.ensures.rows)
    (due_filled c.insert.new.self c.set_root.new.documents c.set_content.new.self c.args.document.now (c.args.first - 1 + c.in-Some-numbered.count) c.set_root.new.due.items c.set_content.ensures
    (c.set_root.ensures.due
    (due_grown c.self.inside.pooms c.insert.new.self c.self.inside.documents c.reserve.new.self.items c.insert.ensures.grows c.self.invariant.0
    (due_same c.self.inside.pooms c.self.inside.pooms c.self.inside.documents c.self.inside.documents c.self.inside.due.items c.reserve.new.self.items refl refl c.reserve.ensures.items c.self.invariant.4))))

pub returns-clause-ok : goal.returns-clause-ok
returns-clause-ok c view session stands =
    let next = c.in-Some-numbered.ensures.next in
    let count = c.in-Some-numbered.ensures.count in
    let now = c.content.ensures in
    let document = c.args.document.now in
    let first = c.args.first in
    let text = c.args.text.now in
    let covered = subst (λ (s : Span). index.IsCovered s document (rows_in_index c.self.inside.index) (rows_in_index c.cover.new.index)) c.text_span-span.ensures.value c.in-Ok-cover.ensures.covered in
    with_marks _ _ c.set_root.new.due.items
    (came_as _ view (subst (λ t. Stands t view) (sym c.self.view_is) stands) c.self.invariant.0 document c.in-Some.root (sym c.in-Some.ensures) c.insert.new.self c.insert.ensures.kept c.insert.ensures.grows c.in-Ok.made c.in-Ok.ensures.root
    c.cover.new.index c.args.at first text c.self.invariant.3 (omega (arith, next, now)) c.put_text.new.contents
    (c.in_ok-put_text.ensures.bytes ∙ ap (λ (a : List ℕ). put_in a (laid a text) (content c.self.inside.contents)) (ap (λ (s : Span). s.start) c.text_span-span.ensures.value))
    (first - 1 + c.in-Some-numbered.count) (omega (arith, next, now, count)) c.set_content.new.self c.set_root.new.documents c.in_ok-counted.counted c.set_root.ensures.documents c.set_content.ensures c.in_ok-counted.ensures
    session c.in-Some-checked_add.total c.in-Some-checked_add.ensures.1 (c.if-not-has_place.ensures.from_one refl) (subst (λ (n : ℕ). c.args.at ≤ 1 + n) c.length.ensures (c.if-not-has_place.ensures.to_end refl))
    (c.in-Ok.ensures.text ∙ ap (λ (n : ℕ). exchanged_at c.args.at c.args.at (addresses_from 1 document first n) (texts (rows_of c.self.inside.pooms c.in-Some.root.0))) count) c.in-Ok.ensures.links
    (covered_keeps document document first c.in-Some-numbered.count c.self.inside.index c.cover.new.index covered)
    (subst (λ (n : ℕ). All (IsCovered c.cover.new.index document) (addresses_from 1 document first n)) count (covered_covers document document first c.in-Some-numbered.count c.self.inside.index c.cover.new.index covered)))

pub returns-clause-came : goal.returns-clause-came
returns-clause-came c =
    of_old (DocumentEdited c.args.document.now) _ _ _ c.self.view_is
    (text_came _ c.args.document.now c.in-Some.root (sym c.in-Some.ensures) c.in-Ok.made c.put_text.new.contents c.in-Some-checked_add.total c.insert.new.self c.cover.new.index c.set_root.new.documents c.set_content.new.self _ _ c.set_root.new.due.items (stay_from c.self.inside.due.items c.reserve.new.self.items c.set_root.new.due.items c.reserve.ensures.items c.set_root.ensures.stay) c.put_text.ensures.grows c.insert.ensures.grows
    c.cover.ensures.grows c.set_root.ensures.documents c.set_content.ensures)
