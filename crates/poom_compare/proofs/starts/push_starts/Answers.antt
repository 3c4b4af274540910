use Rattle.std.proofs.Common.{◌<◌, get_or, arith, sym, ◌∙◌}
use Rattle.poom_compare.specs.declared.segment.Segment.{Segment}
use Rattle.poom_compare.proofs.Sought.{any_default, further, sought_none, sought_past, sought_high}
use Rattle.poom_compare.proofs.starts.push_starts.Goals as goal

-- what an index past the end would give
abbrev none : Segment
none = record { at = 0; first = 0; length = 0; before = 0; after = 0 }

pub loop-k-init : goal.loop-k-init
loop-k-init c = (omega arith, sought_none c.args.side c.args.outer.now c.args.inners.now c.first_from-from.result c.args.found.now.items (rw c.least_of.ensures at c.first_from-from.ensures))

pub returns-then-end-inner : goal.returns-then-end-inner
returns-then-end-inner c =
    let inner = get_or c.args.inners.now c.loop-k.k none in
    sought_high c.args.side c.args.outer.now c.args.inners.now c.loop-k.k inner c.args.found.now.items c.loop-k.found.items c.loop-k.invariant.1 c.requires.inners c.requires.sorted c.loop-k-test.true
    (any_default c.args.inners.now c.loop-k.k none inner c.loop-k-test.true) (omega (arith, c.if-end-inner.true, c.from.ensures))

pub loop-k-preserved : goal.loop-k-preserved
loop-k-preserved c =
    let inner = get_or c.args.inners.now c.loop-k.k none in
    let is = any_default c.args.inners.now c.loop-k.k none inner c.loop-k-test.true in
    let on : c.loop-k.k < c.first_behind-k.result = further c.args.inners.now c.loop-k.k c.first_behind-k.result inner c.loop-k-test.true is c.first_behind-k.ensures in (
      omega (arith, on, c.loop-k.invariant.0),
      sought_past c.args.side c.args.outer.now c.args.inners.now c.loop-k.k c.first_behind-k.result inner c.args.found.now.items c.loop-k.found.items c.loop-k.invariant.1 c.requires.inners c.requires.sorted c.loop-k-test.true is
          (sym c.begins.ensures ∙ c.if-begins.false) c.first_behind-k.ensures,
    )
