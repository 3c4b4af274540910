use Rattle.std.proofs.Common.{All, refl, sym, subst, rules}
use Rattle.std.specs.List.Sorted.{IsPermutation, IsNonDecreasingBy}
use Rattle.std.proofs.lemmas.List.Sorted.{All-permutation, IsNonDecreasingBy-from_sort_by_key}
use Rattle.poom_compare.specs.declared.positions.Interval.{Interval}
use Rattle.poom_compare.specs.Placed.{IsInterval}
use Rattle.poom_compare.proofs.IntervalSteps.{joined_none, joined_more, joined_same}
use Rattle.poom_compare.proofs.positions.joined.Goals as goal

-- what an index past the end would give
abbrev none : Interval
none = record { from = 0; to = 0 }

pub loop-interval-init : goal.loop-interval-init
loop-interval-init c = joined_none c.args.length c.as_slice-interval-items.result.now c.new-made.result.items c.new-made.ensures.items

pub push_joined-requires : goal.push_joined-requires
push_joined-requires c = record {
  each = c.loop-interval.invariant.each;
  apart = c.loop-interval.invariant.apart;
  interval = subst (All (IsInterval c.args.length)) (sym c.as_slice-interval-items.ensures.value)
      (All-permutation (IsInterval c.args.length) c.args.intervals.items c.sort_by_key.new.self.items c.in_ok-sort_by_key.ensures.permutation c.requires) c.loop-interval.interval-index none c.loop-interval-test.true;
  behind = c.loop-interval.invariant.behind none c.loop-interval-test.true;
}

pub loop-interval-preserved : goal.loop-interval-preserved
loop-interval-preserved c =
    let up = subst (IsNonDecreasingBy (λ (i : Interval). i.from)) (sym c.as_slice-interval-items.ensures.value)
    (IsNonDecreasingBy-from_sort_by_key (λ (i : Interval). i.from) c.sort_by_key.new.self.items c.in_ok-sort_by_key.ensures.sorted (λ a r q k. search rules)) in
    joined_more c.args.length c.as_slice-interval-items.result.now c.loop-interval.interval-index _ none c.loop-interval.made.items c.push_joined.new.made.items up c.loop-interval.invariant c.loop-interval-test.true c.in_ok-push_joined.ensures.each
    c.in_ok-push_joined.ensures.apart c.in_ok-push_joined.ensures.behind c.in_ok-push_joined.ensures.same refl

pub returns : goal.returns
returns c =
    let moved = subst (IsPermutation c.args.intervals.items) (sym c.as_slice-interval-items.ensures.value) c.in_ok-sort_by_key.ensures.permutation in
    record {
      each = c.loop-interval.invariant.each;
      apart = c.loop-interval.invariant.apart;
      same = joined_same c.args.length c.args.intervals.items c.as_slice-interval-items.result.now c.loop-interval.interval-index c.loop-interval.made.items moved c.loop-interval-test.false c.loop-interval.invariant;
    }
