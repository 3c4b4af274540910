use Rattle.std.proofs.Common.{◌≡◌, ◌++◌, take, All}
use Rattle.std.specs.List.{flat_map}
use Rattle.tree_compare.specs.Stretches.{laid_stretches, IsStretch}
use Rattle.tree_compare.proofs.Lent.{child_laid}
use Rattle.tree_compare.proofs.bytes.+push_below.Given as goal

abbrev pub decreases-push_below : goal.decreases-push_below
decreases-push_below l = l.node.0

abbrev pub invariant-loop-child : goal.invariant-loop-child
invariant-loop-child l =
    (laid_stretches l.into.items ≡ laid_stretches l.initial.into.items ++ flat_map (child_laid l.arena l.first) (take l.child-index l.child-items)) × (All IsStretch l.initial.into.items → All IsStretch l.into.items)
