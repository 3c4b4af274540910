-- The flushes that were interrupted kept what the writer holds.
use Rattle.std.specs.Io.KnownBytes.{Keeps}
use Rattle.green_io.proofs.std_sink.flush_uninterrupted.Given as goal

abbrev pub invariant-loop : goal.invariant-loop
invariant-loop g l = Keeps (g.W.Write.contents l.initial.writer) (g.W.Write.contents l.writer)
