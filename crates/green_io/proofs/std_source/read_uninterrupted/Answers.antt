-- A read that gave no byte consumed none, and the reader is at its end, since there was room.
use Rattle.std.proofs.Common.{take, subst, arith}
use Rattle.std.specs.Io.KnownBytes.{Consumes}
use Rattle.green_io.proofs.Kept.{Keeps-of_no_read}
use Rattle.green_io.proofs.std_source.read_uninterrupted.Goals as goal

pub returns-in-Ok-eq0 : goal.returns-in-Ok-eq0
returns-in-Ok-eq0 g c =
    let known = g.R.Read.remaining in
    let none : Consumes (known c.loop.reader) (known c.read.new.self) (take 0 c.read.new.buf) =
    subst (λ n. Consumes (known c.loop.reader) (known c.read.new.self) (take n c.read.new.buf)) c.in-Ok-eq0.field-0-test c.in-Ok-eq0.ensures.bytes.0 in
    (Keeps-of_no_read _ _ _ c.loop.invariant none, c.in-Ok-eq0.ensures.bytes.1 c.in-Ok-eq0.field-0-test (omega arith))
