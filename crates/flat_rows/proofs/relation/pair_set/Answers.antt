use Rattle.flat_rows.proofs.Relations.{set_more}
use Rattle.flat_rows.proofs.relation.pair_set.Goals as goal

pub loop-pair-preserved : goal.loop-pair-preserved
loop-pair-preserved c =
    set_more c.args.pairs.now c.loop-pair.pair-index (record { left = 0; right = 0 }) c.loop-pair.members c.insert.new.self c.loop-pair-test.true c.loop-pair.invariant c.in_ok-insert.ensures.updates
