use Rattle.poom.proofs.Roots.{empty_root}
use Rattle.poom.proofs.poom.Poom.empty.Goals as goal

pub returns-clause-document : goal.returns-clause-document
returns-clause-document c = empty_root _ _ _ c.in_ok-root.ensures.ok c.in_ok-root.ensures.made
