-- The pages of the first of the streams are counted.
use Rattle.std.proofs.Common.{◌≡◌, ◌+◌, ◌-◌, ◌^◌, min, length, take}
use Rattle.page_flush.specs.FlushView.{plain_streams, kept_pages}
use Rattle.page_flush.proofs.header.pages_in_use.Given as goal

abbrev pub invariant-loop-stream : goal.invariant-loop-stream
invariant-loop-stream l = l.used ≡ min (length (kept_pages (plain_streams (take l.stream-index l.streams))) + 1) (2 ^ 64 - 1)
