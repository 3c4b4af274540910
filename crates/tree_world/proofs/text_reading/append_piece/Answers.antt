use Rattle.std.proofs.Common.{ℕ, ◌-◌, ◌++◌, List, length, ap, ◌∙◌, sym}
use Rattle.std.proofs.lemmas.Result.{on_ok_weaker}
use Rattle.tumbler.specs.Places.{sum, width_at}
use Rattle.granfilade.specs.Content.{so_far_on}
use Rattle.granfilade.proofs.Documents.{step-none}
use Rattle.tree_world.proofs.TextRead.{piece_part, step_has_room}
use Rattle.tree_world.proofs.text_reading.append_piece.Goals as goal

pub bytes_from-requires-clause-fits : goal.bytes_from-requires-clause-fits
bytes_from-requires-clause-fits c =
    (piece_part c.args.contents.now c.args.wanted.now.from c.args.wanted.now.to c.args.n c.args.count c.args.address.now c.args.address.now (c.min.result - c.saturating_sub-before.result) c.requires.contents c.requires.row
    (sym (ap (so_far_on c.args.address.now) (sym c.saturating_sub-before.ensures ∙ c.if-before-eq0.true) ∙ step-none c.args.address.now))
    (λ i. c.min.ensures i - c.saturating_sub-before.ensures i)).fits

pub returns-then-before-eq0 : goal.returns-then-before-eq0
returns-then-before-eq0 c =
    on_ok_weaker c.bytes_from.result
    (λ e. e ∙ ap (λ (bs : List ℕ). c.args.into.now.items ++ bs)
    (piece_part c.args.contents.now c.args.wanted.now.from c.args.wanted.now.to c.args.n c.args.count c.args.address.now c.args.address.now (c.min.result - c.saturating_sub-before.result) c.requires.contents c.requires.row
    (sym (ap (so_far_on c.args.address.now) (sym c.saturating_sub-before.ensures ∙ c.if-before-eq0.true) ∙ step-none c.args.address.now))
    (λ i. c.min.ensures i - c.saturating_sub-before.ensures i)).read)
    c.bytes_from.ensures.ok

pub add-requires : goal.add-requires
add-requires c =
    step_has_room c.args.wanted.now.from c.args.wanted.now.to c.args.n c.args.count c.saturating_sub-before.result c.args.address.now c.places.result.now c.width-width.result c.requires.row c.saturating_sub-before.ensures c.if-before-eq0.false c.places.ensures.value
    c.width-width.ensures

pub bytes_from-requires-2-clause-fits : goal.bytes_from-requires-2-clause-fits
bytes_from-requires-2-clause-fits c =
    (piece_part c.args.contents.now c.args.wanted.now.from c.args.wanted.now.to c.args.n c.args.count c.args.address.now c.add.result (c.min.result - c.saturating_sub-before.result) c.requires.contents c.requires.row
    (c.add.ensures ∙ ap (sum c.args.address.now) (c.width-width.ensures ∙ (λ i. width_at (length (c.places.ensures.value i)) (c.saturating_sub-before.ensures i))))
    (λ i. c.min.ensures i - c.saturating_sub-before.ensures i)).fits

pub returns : goal.returns
returns c =
    on_ok_weaker c.bytes_from-2.result
    (λ e. e ∙ ap (λ (bs : List ℕ). c.args.into.now.items ++ bs)
    (piece_part c.args.contents.now c.args.wanted.now.from c.args.wanted.now.to c.args.n c.args.count c.args.address.now c.add.result (c.min.result - c.saturating_sub-before.result) c.requires.contents c.requires.row
    (c.add.ensures ∙ ap (sum c.args.address.now) (c.width-width.ensures ∙ (λ i. width_at (length (c.places.ensures.value i)) (c.saturating_sub-before.ensures i))))
    (λ i. c.min.ensures i - c.saturating_sub-before.ensures i)).read)
    c.bytes_from-2.ensures.ok
