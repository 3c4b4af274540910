use Rattle.std.proofs.Common.{◌≡◌, ◌∙◌, ◌++◌, ◌∷◌, [], All, get_or, ap, refl, sym, subst, arith}
use Rattle.std.specs.Global.{Vec}
use Rattle.poom_compare.specs.declared.positions.Interval.{Interval}
use Rattle.poom_compare.specs.Placed.{IsInterval}
use Rattle.poom_compare.proofs.Lists.{same_at}
use Rattle.tree_world.proofs.Lists.{pushed_right}
use Rattle.tree_world.proofs.InEnds.{met_none, met_more, met_all, pushed_in, empty_in}
use Rattle.tree_world.proofs.end_sets.push_met.Goals as goal
use Rattle.tree_world.proofs.end_sets.push_met.Goals.{then-met+in_ok-push, else-met}

-- what an index past the end would give
abbrev none : Interval
none = record { from = 0; to = 0 }

pub loop-interval-init : goal.loop-interval-init
loop-interval-init c = (c.requires.each, λ n. met_none c.args.placed.now c.args.made.now.items n)

pub loop-interval-preserved : goal.loop-interval-preserved
loop-interval-preserved c =
    let now = c.loop-interval.made.items in
    let interval = c.met_positions-met.result in
    let one = get_or c.args.numbers.now c.loop-interval.interval-index none in
    let here : one ≡ get_or c.args.numbers.now c.loop-interval.interval-index one = same_at c.args.numbers.now c.loop-interval.interval-index none one c.loop-interval-test.true in
    elim c.if-met.branch [
      | then-met+in_ok-push w ↦
          let items : c.if-met.made.items ≡ now ++ interval ∷ [] = ap (λ (v : Vec Interval). v.items) w.made-is ∙ w.in_ok-push.ensures.items in
          let some = w.if-met.true in (
            pushed_right (IsInterval 1073741824) now c.if-met.made.items interval items c.loop-interval.invariant.0
                (record { from_one = c.met_positions-met.ensures.from_one; some = some; to_end = omega (arith, c.met_positions-met.ensures.to_end) }),
            λ n.
                met_more c.args.placed.now c.args.numbers.now c.loop-interval.interval-index _ one interval c.args.made.now.items now c.if-met.made.items n c.loop-interval-test.true here refl (c.met_positions-met.ensures.same n) (c.loop-interval.invariant.1 n)
                (pushed_in now c.if-met.made.items interval n items),
          )
      | else-met w ↦
          let items : c.if-met.made.items ≡ now = ap (λ (v : Vec Interval). v.items) w.made-is in (
            subst (All (IsInterval 1073741824)) (sym items) c.loop-interval.invariant.0,
            λ n.
                met_more c.args.placed.now c.args.numbers.now c.loop-interval.interval-index _ one interval c.args.made.now.items now c.if-met.made.items n c.loop-interval-test.true here refl (c.met_positions-met.ensures.same n) (c.loop-interval.invariant.1 n)
                (empty_in now c.if-met.made.items interval n items w.if-met.false),
          )
    ]

pub returns : goal.returns
returns c = record { each = c.loop-interval.invariant.0; same = λ n. met_all c.args.placed.now c.args.numbers.now c.loop-interval.interval-index c.args.made.now.items c.loop-interval.made.items n c.loop-interval-test.false (c.loop-interval.invariant.1 n) }
