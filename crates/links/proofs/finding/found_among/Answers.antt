use Rattle.std.proofs.Common.{◌<◌, ◌≤◌, length, arith}
use Rattle.links.specs.inside.Kept.{taken_at}
use Rattle.links.proofs.ListSteps.{step_taken, stop_taken, all_taken}
use Rattle.links.proofs.Searched.{taken_at-short}
use Rattle.links.proofs.finding.found_among.Goals as goal

pub returns-then-len-limit : goal.returns-then-len-limit
returns-then-len-limit c =
    let full : c.args.limit ≤ length c.loop-id.found.items = let le = c.if-len-limit.true in let is = c.len.ensures in omega (arith, le, is) in
    stop_taken (taken_at c.args.table.now c.args.homes.now c.args.ends.now c.args.after.now) (taken_at-short c.args.table.now c.args.homes.now c.args.ends.now c.args.after.now) c.args.limit c.args.ids.now c.loop-id.id-index c.loop-id.found.items c.loop-id.invariant full

pub loop-id-preserved : goal.loop-id-preserved
loop-id-preserved c =
    let room : length c.loop-id.found.items < c.args.limit = let lt = c.if-len-limit.false in let is = c.len.ensures in omega (arith, lt, is) in
    step_taken (taken_at c.args.table.now c.args.homes.now c.args.ends.now c.args.after.now) (taken_at-short c.args.table.now c.args.homes.now c.args.ends.now c.args.after.now) c.args.limit c.args.ids.now c.loop-id.id-index c.id-item.result c.loop-id.found.items c.take_id.new.found.items
    c.loop-id-test.true c.id-item.is c.loop-id.invariant room c.in_ok-take_id.ensures

pub returns : goal.returns
returns c =
    all_taken (taken_at c.args.table.now c.args.homes.now c.args.ends.now c.args.after.now) (taken_at-short c.args.table.now c.args.homes.now c.args.ends.now c.args.after.now) c.args.limit c.args.ids.now c.loop-id.id-index c.loop-id.found.items c.loop-id.invariant c.loop-id-test.false
