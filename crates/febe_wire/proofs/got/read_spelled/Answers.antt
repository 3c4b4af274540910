use Rattle.febe_data.specs.Plain.{plain_request}
use Rattle.febe_wire.proofs.RequestScans.{is_read, not_none}
use Rattle.febe_wire.proofs.got.read_spelled.Goals as goal

pub unreachable-requires : goal.unreachable-requires
unreachable-requires c = not_none c.args.bytes.now c.args.used c.requires (rw c.in_default.is at c.in_ok-request.ensures)

pub returns : goal.returns
returns c = record { read = is_read c.args.bytes.now c.args.used (plain_request c.in-Some.request) c.in-Some.field-0-1.now c.requires (rw c.in-Some.is at c.in_ok-request.ensures) }
