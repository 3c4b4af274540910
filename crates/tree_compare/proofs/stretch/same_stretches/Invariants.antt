use Rattle.std.proofs.Common.{length, ◌-◌, ◌+◌}
use Rattle.std.specs.Prelude.{ℕ, List}
use Rattle.tree_compare.specs.declared.stretch.Stretch.{Stretch}
use Rattle.tree_compare.specs.Stretches.{laid_stretch, byte_count}
use Rattle.tree_compare.specs.inside.Rests.{IsPlace, GoTogether}
use Rattle.tree_compare.proofs.stretch.same_stretches.Given as goal

abbrev pub invariant-loop-left : goal.invariant-loop-left
invariant-loop-left l = GoTogether laid_stretch l.one l.other l.left l.right × IsPlace byte_count l.one l.left × IsPlace byte_count l.other l.right

abbrev pub decreases-loop-left : goal.decreases-loop-left
decreases-loop-left l = (length l.one - l.left.item) + (length l.other - l.right.item)
