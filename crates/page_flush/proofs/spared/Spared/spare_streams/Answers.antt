-- The pages of one stream more are spared, or as many as there was memory for.
use Rattle.std.proofs.Common.{List, take, take_all, subst, arith}
use Rattle.page_flush.specs.declared.kept_stream.KeptStream.{KeptStream}
use Rattle.page_flush.specs.FlushView.{plain_streams, kept_pages}
use Rattle.page_flush.specs.inside.Fresh.{HasAlso}
use Rattle.page_flush.proofs.SparedPages.{also_none, also_keeps, spared_then, streams_more}
use Rattle.page_flush.proofs.spared.Spared.spare_streams.Goals as goal

pub loop-stream-init : goal.loop-stream-init
loop-stream-init c = also_none c.args.self.now

pub loop-stream-preserved : goal.loop-stream-preserved
loop-stream-preserved c = streams_more c.args.streams.now c.args.self.now c.loop-stream.self c.spare_all.new.self c.as_slice.result.now c.loop-stream.stream-index c.stream-item.result (omega arith) c.stream-item.is c.as_slice.ensures c.loop-stream.invariant c.in_ok-spare_all.ensures.ok

pub returns-in_err-spare_all-clause-keeps : goal.returns-in_err-spare_all-clause-keeps
returns-in_err-spare_all-clause-keeps c =
    spared_then c.args.self.now c.loop-stream.self c.spare_all.new.self (also_keeps (kept_pages (plain_streams (take c.loop-stream.stream-index c.args.streams.now))) c.args.self.now c.loop-stream.self c.loop-stream.invariant) c.spare_all.ensures.keeps

pub returns-clause-ok : goal.returns-clause-ok
returns-clause-ok c = subst (λ (l : List KeptStream). HasAlso (kept_pages (plain_streams l)) c.args.self.now c.loop-stream.self) (take_all c.loop-stream.stream-index c.args.streams.now (omega arith)) c.loop-stream.invariant

pub returns-clause-keeps : goal.returns-clause-keeps
returns-clause-keeps c = also_keeps (kept_pages (plain_streams (take c.loop-stream.stream-index c.args.streams.now))) c.args.self.now c.loop-stream.self c.loop-stream.invariant
