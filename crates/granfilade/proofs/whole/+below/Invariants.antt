use Rattle.granfilade.proofs.whole.+below.Given as goal

abbrev pub decreases-below : goal.decreases-below
decreases-below l = l.node.0
