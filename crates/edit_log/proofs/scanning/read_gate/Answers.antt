-- The bytes behind the gate are the body, which was decoded, and more.
use Rattle.std.proofs.Common.{subst}
use Rattle.entry_codec.specs.Bodies.{IsBodyOf}
use Rattle.entry_codec.specs.Logged.{plain_logged}
use Rattle.edit_log.specs.inside.Scan.{IsDecodedAs}
use Rattle.edit_log.proofs.Scans.{steps_over}
use Rattle.edit_log.proofs.scanning.read_gate.Goals as goal

pub returns : goal.returns
returns c =
    let format = c.args.format in
    let row = plain_logged c.in-Some-2.row in
    let of : IsBodyOf format row c.in-Some-split_body.body.now = subst (IsDecodedAs format c.in-Some-split_body.body.now) c.in-Some-2.is c.in_ok-row.ensures in
    let parts = c.in-Some.ensures.cases in
    let split = c.in-Some-split_body.ensures in
    steps_over format c.args.count c.in-Some.gate.now c.args.rest.now c.in-Some.behind.now c.in-Some-split_body.body.now c.in-Some-split_body.field-0-1.now row parts.0 c.if-gate-ne1.false split.split of c.if-count-ge-MOST_ENTRIES.false
