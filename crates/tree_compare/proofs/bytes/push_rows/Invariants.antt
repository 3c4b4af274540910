use Rattle.std.proofs.Common.{◌≡◌, ◌++◌, map, take, All}
use Rattle.enfilade_core.specs.Plain.{plain_row}
use Rattle.enfilade_core.specs.Planes.{plain_text}
use Rattle.tree_compare.specs.Stretches.{laid_stretches, IsStretch, laid_at}
use Rattle.tree_compare.proofs.bytes.push_rows.Given as goal

abbrev pub invariant-loop-row : goal.invariant-loop-row
invariant-loop-row l =
    (laid_stretches l.into.items ≡ laid_stretches l.initial.into.items ++ laid_at l.first (map (plain_row plain_text) (take l.row-index l.rows))) × (All IsStretch l.initial.into.items → All IsStretch l.into.items)
