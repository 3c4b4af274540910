use Rattle.std.proofs.Common.{All, sym, subst}
use Rattle.poom_compare.specs.Segments.{IsSmall, flipped_pair}
use Rattle.poom_compare.proofs.Behind.{mapped_all, pairs_small}
use Rattle.poom_compare.proofs.ends.flipped_pairs.Goals as goal

pub returns-clause-small : goal.returns-clause-small
returns-clause-small c =
    subst (All IsSmall) (sym (mapped_all flipped_pair c.args.pairs.now c.loop-pair.pair-index c.loop-pair.made.items c.loop-pair-test.false c.loop-pair.invariant)) (pairs_small c.args.pairs.now)
