-- The entry of the next row goes behind those before it, and so does its moment.
use Rattle.std.proofs.Common.{◌<◌, length, arith}
use Rattle.green_store.proofs.Rows.{entry_moved, moment_moved, rest_stays}
use Rattle.green_store.proofs.opening.move_apart.Goals as goal

pub loop-k-preserved : goal.loop-k-preserved
loop-k-preserved c =
    let now = c.loop-k.rows in
    let old = c.args.rows.now in
    let k = c.loop-k.k in
    let there : k < length old = omega (arith, c.loop-k-test.true, c.loop-k.auto.rows, c.loop-k.auto.k-end) in
    let here : k < length now = omega (arith, there, c.loop-k.auto.rows) in
    let rest = c.loop-k.invariant.rest in
    record {
      told =
          entry_moved c.args.entries.now.items c.loop-k.entries.items c.push_reserved-in-loop-k.new.self.items now old k c.index-rows-k-in-loop-k.result c.take_entry.result here there rest
          c.take_entry.ensures c.push_reserved-in-loop-k.ensures.items c.loop-k.invariant.told;
      timed = moment_moved c.args.moments.now.items c.loop-k.moments.items c.push_reserved.new.self.items now old k c.index-rows-k.result here there rest c.push_reserved.ensures.items c.loop-k.invariant.timed;
      room = omega (arith, c.loop-k.invariant.room, there, c.push_reserved-in-loop-k.ensures.spare);
      moments_room = omega (arith, c.loop-k.invariant.moments_room, there, c.push_reserved.ensures.spare);
      rest = rest_stays now old k c.index-rows-k.result c.take_entry.new.row here there rest;
    }
