use Rattle.std.proofs.Common.{length}
use Rattle.febe_fields.proofs.ManyLoop.{one_more, none_more, all_read}
use Rattle.node_pages.specs.NodeReading.{branch_at}
use Rattle.node_pages.proofs.fields.many_branches_at.Goals as goal

pub returns-in_default : goal.returns-in_default
returns-in_default g c = none_more (branch_at (length c.args.arena.now)) c.loop.branches.items c.args.count c.loop.counter c.loop.rest.now _ c.loop-test.true c.in_default.ensures c.loop.invariant

pub loop-preserved : goal.loop-preserved
loop-preserved g c =
    rw (c.push_reserved.ensures.items, c.in_ok-reserve.ensures.items)
    (one_more (branch_at (length c.args.arena.now)) c.loop.branches.items c.args.count c.loop.counter c.loop.rest.now c.in-Some.branch c.in-Some.behind.now _ c.loop-test.true c.in-Some.ensures c.loop.invariant)

pub returns : goal.returns
returns g c = all_read (branch_at (length c.args.arena.now)) c.loop.branches.items c.args.count c.loop.counter c.loop.rest.now _ c.loop-test.false c.loop.invariant
