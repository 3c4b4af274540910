use Rattle.std.proofs.Common.{subst, sym}
use Rattle.std.specs.List.{All}
use Rattle.poom.specs.Pieces.{IsPiece}
use Rattle.poom.proofs.Picks.{are_contents}
use Rattle.poom.proofs.Maximal.{maximal_runs}
use Rattle.poom.proofs.poom.Poom.picked.Goals as goal

pub returns-clause-content : goal.returns-clause-content
returns-clause-content c =
    are_contents c.args.document.now c.as_slice.result.now c.in_ok-runs.runs.items c.in_ok-runs.ensures (subst (All IsPiece) (sym c.as_slice.ensures) c.in_ok-pieces.ensures.each)

pub returns-clause-runs : goal.returns-clause-runs
returns-clause-runs c =
    maximal_runs c.args.document.now c.in_ok-pieces.pieces.items c.as_slice.result.now c.in_ok-runs.runs.items _ c.in_ok-pieces.ensures.each c.in_ok-pieces.ensures.apart c.in_ok-pieces.ensures.laid c.as_slice.ensures c.in_ok-runs.ensures
