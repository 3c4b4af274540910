-- The first of the starts are those of the streams.
use Rattle.std.proofs.Common.{◌≡◌, length, map, take}
use Rattle.page_flush.specs.FlushView.{plain_streams, start_of}
use Rattle.page_flush.proofs.header.starts_of.Given as goal

abbrev pub invariant-loop-place : goal.invariant-loop-place
invariant-loop-place l = record {
  long : length l.starts ≡ 7;
  are : take l.place l.starts ≡ map start_of (plain_streams (take l.place l.streams));
}
