use Rattle.febe_wire.proofs.RequestScans.{request_scanned}
use Rattle.febe_fields.specs.declared.scanned.Scanned.TheVariants.{Incomplete, Complete, Bad}
use Rattle.febe_wire.proofs.got.read_scanned.Goals as goal

pub read_spelled-requires : goal.read_spelled-requires
read_spelled-requires c = request_scanned c.args.bytes.now (Complete c.in-Complete.used) c.in-Complete.ensures.said

pub returns-in-Incomplete : goal.returns-in-Incomplete
returns-in-Incomplete c = record { got = request_scanned c.args.bytes.now Incomplete c.in-Incomplete.ensures.said }

pub returns-in-Bad : goal.returns-in-Bad
returns-in-Bad c = record { got = request_scanned c.args.bytes.now (Bad c.in-Bad.at) c.in-Bad.ensures.said }
