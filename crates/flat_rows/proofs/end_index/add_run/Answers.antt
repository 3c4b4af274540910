use Rattle.flat_rows.proofs.Indexed.{run_added}
use Rattle.flat_rows.proofs.end_index.add_run.Goals as goal

pub returns : goal.returns
returns c =
    run_added c.args.index.now c.take_pieces-pieces.new.index c.insert.new.self c.args.run.now c.push.new.self c.take_pieces-pieces.result.items c.take_pieces-pieces.ensures.items c.in_ok-push.ensures.ok
    c.take_pieces-pieces.ensures.updates (rw c.copy.ensures at c.in_ok-insert.ensures.updates)
