use Rattle.std.proofs.Common.{◌≡◌, ◌∙◌, List, All, arith, ap, sym, subst}
use Rattle.tumbler.specs.declared.span.Span.{Span}
use Rattle.enfilade_core.specs.Rows.{rows_of}
use Rattle.poom.specs.Laid.{texts}
use Rattle.world_rules.specs.declared.rows.Row.{Row}
use Rattle.world_rules.specs.Relation.{diagonals_of}
use Rattle.poom_compare.specs.Shared.{IsCompared, shared, pairs_between, rows_picked}
use Rattle.poom_compare.specs.Placed.{IsPlaced, rows_laid}
use Rattle.poom_compare.proofs.Laying.{picked_ascend}
use Rattle.poom_compare.proofs.Valid.{are_valid, compared_valid}
use Rattle.poom_compare.proofs.compared.diagonals.Goals as goal

pub between-requires : goal.between-requires
between-requires c = record {
  left = subst (All IsPlaced) (sym c.as_slice-3.ensures.value) c.in_ok-lefts.ensures.each;
  left_ascends = picked_ascend c.as_slice.result.now (texts (rows_of c.args.poom.now c.args.left.0)) (rows_laid c.as_slice-3.result.now) (ap rows_laid c.as_slice-3.ensures.value ∙ c.in_ok-lefts.ensures.rows);
  right = subst (All IsPlaced) (sym c.as_slice-4.ensures.value) c.in_ok-rights.ensures.each;
  right_ascends = picked_ascend c.as_slice-2.result.now (texts (rows_of c.args.poom.now c.args.right.0)) (rows_laid c.as_slice-4.result.now) (ap rows_laid c.as_slice-4.ensures.value ∙ c.in_ok-rights.ensures.rows);
}

pub returns-clause-value : goal.returns-clause-value
returns-clause-value c =
    let left = texts (rows_of c.args.poom.now c.args.left.0) in
    let right = texts (rows_of c.args.poom.now c.args.right.0) in
    let lefts : rows_laid c.as_slice-3.result.now ≡ rows_picked c.args.left_spans.now.items left =
    ap rows_laid c.as_slice-3.ensures.value ∙ (c.in_ok-lefts.ensures.rows ∙ ap (λ (spans : List Span). rows_picked spans left) c.as_slice.ensures) in
    let rights : rows_laid c.as_slice-4.result.now ≡ rows_picked c.args.right_spans.now.items right =
    ap rows_laid c.as_slice-4.ensures.value ∙ (c.in_ok-rights.ensures.rows ∙ ap (λ (spans : List Span). rows_picked spans right) c.as_slice-2.ensures) in
    subst (λ (rows : List Row). IsCompared (diagonals_of (pairs_between rows (rows_picked c.args.right_spans.now.items right))) c.in_ok-found.found) lefts
    (subst (λ (rows : List Row). IsCompared (diagonals_of (pairs_between (rows_laid c.as_slice-3.result.now) rows)) c.in_ok-found.found) rights c.in_ok-found.ensures)

pub returns-clause-valid : goal.returns-clause-valid
returns-clause-valid c =
    let left = texts (rows_of c.args.poom.now c.args.left.0) in
    let right = texts (rows_of c.args.poom.now c.args.right.0) in
    let few = c.requires.left.document.text_fits in
    let few' = c.requires.right.document.text_fits in
    compared_valid (shared left c.args.left_spans.now.items right c.args.right_spans.now.items) c.in_ok-found.found (returns-clause-value c)
    (are_valid left c.args.left_spans.now.items right c.args.right_spans.now.items (omega arith) (omega arith))
