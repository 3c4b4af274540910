-- The writes that were interrupted appended nothing.
use Rattle.std.specs.Io.KnownBytes.{Keeps}
use Rattle.green_io.proofs.std_sink.write_uninterrupted.Given as goal

abbrev pub invariant-loop : goal.invariant-loop
invariant-loop g l = Keeps (g.W.Write.contents l.initial.writer) (g.W.Write.contents l.writer)
