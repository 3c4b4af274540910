use Rattle.std.proofs.Common.{◌≡◌, ◌+◌, ◌∙◌, ◌++◌, ◌∷◌, [], All, List, ap, refl, sym, subst, take}
use Rattle.std.specs.Global.{Vec}
use Rattle.std.proofs.lemmas.List.Elements.{All-nil, All-push}
use Rattle.poom_compare.specs.declared.positions.Interval.{Interval}
use Rattle.poom_compare.specs.Placed.{IsInterval}
use Rattle.poom_compare.proofs.IntervalSteps.{PicksSame, picks_none, picks_more, picks_no_more, picks_all, some_interval}
use Rattle.poom_compare.proofs.positions.intervals.Goals as goal
use Rattle.poom_compare.proofs.positions.intervals.Goals.{then-interval+in_ok-push, else-interval}

pub loop-span-init : goal.loop-span-init
loop-span-init c = (subst (All (IsInterval c.args.length)) (sym c.new-made.ensures.items) (All-nil (IsInterval c.args.length)), subst (λ (l : List Interval). PicksSame c.args.length l []) (sym c.new-made.ensures.items) (picks_none c.args.length))

pub loop-span-preserved : goal.loop-span-preserved
loop-span-preserved c =
    let long = c.args.length in
    let now = c.loop-span.made.items in
    let interval = c.interval_of-interval.result in
    elim c.if-interval.branch [
      | then-interval+in_ok-push w ↦
          let items : c.if-interval.made.items ≡ now ++ interval ∷ [] = ap (λ (v : Vec Interval). v.items) w.made-is ∙ w.in_ok-push.ensures.items in (
            subst (All (IsInterval long)) (sym items) (All-push (IsInterval long) now interval c.loop-span.invariant.0 (some_interval long c.span-item.result interval c.interval_of-interval.ensures w.if-interval.true)),
            picks_more long c.args.spans.now c.loop-span.span-index _ c.span-item.result interval now c.if-interval.made.items c.loop-span.invariant.1 c.loop-span-test.true c.span-item.is c.interval_of-interval.ensures items refl,
          )
      | else-interval w ↦
          let items : c.if-interval.made.items ≡ now = ap (λ (v : Vec Interval). v.items) w.made-is in (
            subst (All (IsInterval long)) (sym items) c.loop-span.invariant.0,
            subst (λ (l : List Interval). PicksSame long l (take (c.loop-span.span-index + 1) c.args.spans.now)) (sym items)
                (picks_no_more long c.args.spans.now c.loop-span.span-index _ c.span-item.result interval now c.loop-span.invariant.1 c.loop-span-test.true c.span-item.is c.interval_of-interval.ensures w.if-interval.false refl),
          )
    ]

pub returns : goal.returns
returns c = record { each = c.loop-span.invariant.0; same = picks_all c.args.length c.args.spans.now c.loop-span.span-index c.loop-span.made.items c.loop-span-test.false c.loop-span.invariant.1 }
