use Rattle.std.proofs.Common.{◌∷◌, [], ◌++◌, map, ap, ◌∙◌, sym, subst, arith}
use Rattle.enfilade_core.specs.Plain.{plain_row}
use Rattle.enfilade_core.specs.Planes.{plain_text}
use Rattle.granfilade.specs.Leaves.{AreLeaves}
use Rattle.granfilade.proofs.Putting.{RowOf}
use Rattle.granfilade.proofs.NewLeaves.{leaves-one, some_items}
use Rattle.granfilade.proofs.leaves.leaves_of.Goals as goal

pub returns : goal.returns
returns c =
    let text = c.args.text in
    let row : RowOf = record { first = c.copy.result; second = c.zero.result; leaf = text } in
    subst (λ rows. AreLeaves c.args.start.now text.items (map (plain_row plain_text) rows)) (sym (c.in_ok-push.ensures.ok ∙ ap (λ rows. rows ++ row ∷ []) c.new-rows.ensures.items))
    (leaves-one c.args.start.now (plain_row plain_text row) c.requires.address c.is_tumbler.ensures c.copy.ensures c.zero.ensures (some_items text.items c.is_empty.result c.is_empty.ensures c.if-is_empty.false) (omega (arith, c.if-len-gt-MOST_LEAF_BYTES.false, c.len.ensures)) c.requires.room)
