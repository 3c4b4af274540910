use Rattle.world_rules.specs.Edits.{content_addresses}
use Rattle.flat_rows.proofs.Edited.{addresses_more}
use Rattle.flat_rows.proofs.edits.content_addresses.Goals as goal

pub loop-preserved : goal.loop-preserved
loop-preserved c =
    rw (c.in_ok-push.ensures.ok, c.in_ok-content_address.ensures, c.in_ok-first.ensures)
    (addresses_more c.args.document.now c.loop.first c.args.count c.loop.counter c.loop.made.items (content_addresses c.args.document.now c.args.first c.args.count) c.loop-test.true c.loop.invariant)
