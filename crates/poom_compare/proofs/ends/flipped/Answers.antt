use Rattle.std.proofs.Common.{All, sym, subst}
use Rattle.poom_compare.specs.Segments.{IsSegment, flipped_segment}
use Rattle.poom_compare.proofs.Behind.{mapped_all, segments_right}
use Rattle.poom_compare.proofs.ends.flipped.Goals as goal

pub returns-clause-right : goal.returns-clause-right
returns-clause-right c =
    subst (All IsSegment) (sym (mapped_all flipped_segment c.args.segments.now c.loop-segment.segment-index c.loop-segment.made.items c.loop-segment-test.false c.loop-segment.invariant)) (segments_right c.args.segments.now c.requires)
