-- The body of each entry is there, and its length is added to the place.
use Rattle.std.proofs.Common.{◌+◌, arith}
use Rattle.green_store.proofs.Openings.{spelled_at, first_place, place_more, place_small}
use Rattle.green_store.proofs.opening.gate_behind.Goals as goal

pub body_length-requires : goal.body_length-requires
body_length-requires c = spelled_at c.args.format c.args.entries.now c.loop-entry.entry-index c.entry-item.result c.loop-entry-test.true c.entry-item.is c.requires.spelled

pub overflow_add-at : goal.overflow_add-at
overflow_add-at c =
    omega (
      arith,
      c.body_length.ensures,
      place_more c.args.format c.args.entries.now c.loop-entry.entry-index c.entry-item.result c.loop-entry.at c.loop-entry-test.true c.entry-item.is c.loop-entry.invariant,
      place_small c.body_says_length.ensures c.args.format c.args.entries.now (c.loop-entry.entry-index + 1) c.requires.spelled c.requires.few,
    )

pub overflow_add-at-in-loop-entry : goal.overflow_add-at-in-loop-entry
overflow_add-at-in-loop-entry c =
    omega (
      arith,
      c.body_length.ensures,
      place_more c.args.format c.args.entries.now c.loop-entry.entry-index c.entry-item.result c.loop-entry.at c.loop-entry-test.true c.entry-item.is c.loop-entry.invariant,
      place_small c.body_says_length.ensures c.args.format c.args.entries.now (c.loop-entry.entry-index + 1) c.requires.spelled c.requires.few,
    )

pub loop-entry-preserved : goal.loop-entry-preserved
loop-entry-preserved c =
    omega (arith, c.body_length.ensures, place_more c.args.format c.args.entries.now c.loop-entry.entry-index c.entry-item.result c.loop-entry.at c.loop-entry-test.true c.entry-item.is c.loop-entry.invariant)

pub loop-entry-init : goal.loop-entry-init
loop-entry-init c = first_place c.args.format c.beginning-at.result c.beginning-at.ensures
