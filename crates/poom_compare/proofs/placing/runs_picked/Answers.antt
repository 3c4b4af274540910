use Rattle.std.proofs.Common.{ℕ, ◌≤◌, All, length, ap, refl, sym, subst}
use Rattle.std.proofs.lemmas.List.Elements.{All-nil}
use Rattle.enfilade_core.specs.Rows.{rows_of}
use Rattle.poom.specs.Laid.{texts}
use Rattle.poom_compare.specs.declared.positions.Interval.{Interval}
use Rattle.poom_compare.specs.Shared.{rows_of_text}
use Rattle.poom_compare.specs.Placed.{AreIntervalsOf, IsPlaced, rows_laid}
use Rattle.poom_compare.proofs.Laying.{had_more, had_all, text_fits}
use Rattle.poom_compare.proofs.placing.runs_picked.Goals as goal

-- what an index past the end would give
abbrev none : Interval
none = record { from = 0; to = 0 }

pub picked-requires : goal.picked-requires
picked-requires c = record { fits = c.requires.fits; few = subst (λ (n : ℕ). n ≤ 1073741824) (sym c.length.ensures) (text_fits c.args.poom.now c.args.root.0 c.requires.root) }

pub loop-interval-init : goal.loop-interval-init
loop-interval-init c = (subst (All IsPlaced) (sym c.new-placed.ensures.items) (All-nil IsPlaced), ap rows_laid c.new-placed.ensures.items)

pub place-requires : goal.place-requires
place-requires c =
    let S = texts (rows_of c.args.poom.now c.args.root.0) in
    let are = subst (λ (n : ℕ). AreIntervalsOf n c.args.spans.now c.in_ok-intervals.intervals.items) c.length.ensures c.in_ok-intervals.ensures in
    let are' = subst (AreIntervalsOf (length S) c.args.spans.now) (sym c.as_slice-interval-items.ensures.value) are in
    record { root = c.requires.root; each = c.loop-interval.invariant.0; interval = are'.each c.loop-interval.interval-index none c.loop-interval-test.true }

pub loop-interval-preserved : goal.loop-interval-preserved
loop-interval-preserved c = (
  c.in_ok-place.ensures.each,
  had_more c.as_slice-interval-items.result.now (rows_of_text (texts (rows_of c.args.poom.now c.args.root.0))) c.loop-interval.interval-index _ none c.loop-interval.placed.items c.place.new.placed.items c.loop-interval-test.true c.loop-interval.invariant.1
      c.in_ok-place.ensures.rows refl,
)

pub returns : goal.returns
returns c =
    let S = texts (rows_of c.args.poom.now c.args.root.0) in
    let are = subst (λ (n : ℕ). AreIntervalsOf n c.args.spans.now c.in_ok-intervals.intervals.items) c.length.ensures c.in_ok-intervals.ensures in
    let are' = subst (AreIntervalsOf (length S) c.args.spans.now) (sym c.as_slice-interval-items.ensures.value) are in
    record {
      each = c.loop-interval.invariant.0;
      rows = had_all c.as_slice-interval-items.result.now c.args.spans.now S c.loop-interval.interval-index c.loop-interval.placed.items are' c.loop-interval-test.false c.loop-interval.invariant.1;
    }
