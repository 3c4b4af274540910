use Rattle.enfilade_core.proofs.arena.Arena.+row_below.Given as goal

abbrev pub decreases-row_below : goal.decreases-row_below
decreases-row_below g l = l.node.0
