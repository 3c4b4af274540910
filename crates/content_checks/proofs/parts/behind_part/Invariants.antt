-- The rest of the rows has what is left of the part.
use Rattle.std.proofs.Common.{length}
use Rattle.content_checks.proofs.PartRows.{GoesOn}
use Rattle.content_checks.proofs.parts.behind_part.Given as goal

abbrev pub invariant-loop-row : goal.invariant-loop-row
invariant-loop-row l = GoesOn l.part l.most l.n l.rows l.rest

abbrev pub decreases-loop-row : goal.decreases-loop-row
decreases-loop-row l = length l.rest
