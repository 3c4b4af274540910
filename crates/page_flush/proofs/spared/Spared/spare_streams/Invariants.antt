-- The pages of the first of the streams are spared too.
use Rattle.std.proofs.Common.{take}
use Rattle.page_flush.specs.FlushView.{plain_streams, kept_pages}
use Rattle.page_flush.specs.inside.Fresh.{HasAlso}
use Rattle.page_flush.proofs.spared.Spared.spare_streams.Given as goal

abbrev pub invariant-loop-stream : goal.invariant-loop-stream
invariant-loop-stream l = HasAlso (kept_pages (plain_streams (take l.stream-index l.streams))) l.fn.self l.self
