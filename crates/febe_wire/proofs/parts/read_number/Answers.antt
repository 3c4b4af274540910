use Rattle.std.proofs.Common.{arith}
use Rattle.febe_fields.specs.declared.scanned.Scanned.TheVariants.{Incomplete, Complete, Bad}
use Rattle.febe_wire.proofs.PartScans.{number_scanned, is_read_number, some_number}
use Rattle.febe_wire.proofs.parts.read_number.Goals as goal

pub unreachable-requires : goal.unreachable-requires
unreachable-requires c =
    some_number c.args.most c.args.bytes.now c.in-Complete.used (omega (arith, c.ranges.most.fits)) (number_scanned c.args.most c.args.bytes.now (Complete c.in-Complete.used) (omega (arith, c.ranges.most.fits)) (rw c.number.ensures at c.in-Complete.ensures)) c.in_default.ensures

pub returns-in-Incomplete : goal.returns-in-Incomplete
returns-in-Incomplete c = record { got = number_scanned c.args.most c.args.bytes.now Incomplete (omega (arith, c.ranges.most.fits)) (rw c.number.ensures at c.in-Incomplete.ensures) }

pub returns-in-Bad : goal.returns-in-Bad
returns-in-Bad c = record { got = number_scanned c.args.most c.args.bytes.now (Bad c.in-Bad.at) (omega (arith, c.ranges.most.fits)) (rw c.number.ensures at c.in-Bad.ensures) }

pub returns-in-Some : goal.returns-in-Some
returns-in-Some c = record {
  got = is_read_number c.args.most c.args.bytes.now c.in-Complete.used c.in-Some.number c.in-Some.field-0-1.now (omega (arith, c.ranges.most.fits)) (number_scanned c.args.most c.args.bytes.now (Complete c.in-Complete.used) (omega (arith, c.ranges.most.fits)) (rw c.number.ensures at c.in-Complete.ensures)) c.in-Some.ensures;
}
