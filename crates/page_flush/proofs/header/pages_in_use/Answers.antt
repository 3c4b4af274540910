-- The pages of one stream more are counted.
use Rattle.std.proofs.Common.{◌≡◌, ◌+◌, ◌-◌, ◌^◌, List, min, length, take_all, subst, arith, refl}
use Rattle.page_flush.specs.declared.kept_stream.KeptStream.{KeptStream}
use Rattle.page_flush.specs.FlushView.{plain_streams, kept_pages}
use Rattle.page_flush.proofs.SpellSteps.{used_more}
use Rattle.page_flush.proofs.header.pages_in_use.Goals as goal

pub loop-stream-preserved : goal.loop-stream-preserved
loop-stream-preserved c = used_more c.args.streams.now c.loop-stream.stream-index c.stream-item.result c.loop-stream.used c.saturating_add-used.result c.len.result (omega arith) c.stream-item.is c.loop-stream.invariant c.len.ensures c.saturating_add-used.ensures

pub returns : goal.returns
returns c = subst (λ (l : List KeptStream). c.loop-stream.used ≡ min (length (kept_pages (plain_streams l)) + 1) (2 ^ 64 - 1)) (take_all c.loop-stream.stream-index c.args.streams.now (omega arith)) c.loop-stream.invariant
