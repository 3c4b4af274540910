use Rattle.flat_rows.proofs.Swapped.{all_parts}
use Rattle.flat_rows.proofs.swaps.rows_swapped.Goals as goal

pub returns : goal.returns
returns c =
    rw (
      c.in_ok-push_moved.ensures,
      c.in_ok-push_block-3.ensures,
      c.in_ok-push_block-2.ensures,
      c.in_ok-push_block.ensures,
      c.in_ok-push_staying.ensures,
      c.new-made.ensures.items,
    )
    (
    all_parts c.args.rows.now c.args.document.now c.args.cuts.now c.saturating_sub-up.result c.saturating_sub-down.result c.saturating_sub-first_length.result c.saturating_sub-second_length.result
    c.saturating_sub-first_length.ensures c.saturating_sub-second_length.ensures c.saturating_sub-up.ensures c.saturating_sub-down.ensures
    )
