use Rattle.febe_fields.specs.declared.scanned.Scanned.TheVariants.{Incomplete, Complete, Bad}
use Rattle.febe_wire.proofs.PartScans.{spans_scanned, are_read_spans, some_spans}
use Rattle.febe_wire.proofs.parts.read_spans.Goals as goal

pub unreachable-requires : goal.unreachable-requires
unreachable-requires c =
    some_spans c.args.bytes.now c.in-Complete.used (spans_scanned c.args.bytes.now (Complete c.in-Complete.used) (rw c.open.ensures at c.in-Complete.ensures)) (rw c.in_default.is at c.in_ok-spans-in-Complete.ensures)

pub returns-in-Incomplete : goal.returns-in-Incomplete
returns-in-Incomplete c = record { got = spans_scanned c.args.bytes.now Incomplete (rw c.open.ensures at c.in-Incomplete.ensures) }

pub returns-in-Bad : goal.returns-in-Bad
returns-in-Bad c = record { got = spans_scanned c.args.bytes.now (Bad c.in-Bad.at) (rw c.open.ensures at c.in-Bad.ensures) }

pub returns-in-Some : goal.returns-in-Some
returns-in-Some c = record {
  got = are_read_spans c.args.bytes.now c.in-Complete.used c.in-Some.spans.items c.in-Some.field-0-1.now (spans_scanned c.args.bytes.now (Complete c.in-Complete.used) (rw c.open.ensures at c.in-Complete.ensures)) (rw c.in-Some.is at c.in_ok-spans-in-Complete.ensures);
}
