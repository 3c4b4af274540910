-- Rows that do not meet a span have no byte in it.
use Rattle.std.proofs.Common.{◌≡◌, ℕ, ◌<◌, Bool, true, false, not, [], length, refl, arith, sym, subst, inl}
use Rattle.std.proofs.lemmas.Bool.{and_parts, not-true, both_ways}
use Rattle.tumbler.specs.ListView.{ListView}
use Rattle.tumbler.specs.Places.{IsTumbler, IsBefore, comes_before, width_at}
use Rattle.tumbler.specs.Span.{Share, end_of}
use Rattle.tumbler.specs.declared.span.Span.{Span}
use Rattle.tumbler.proofs.Before.{before_if_true, up_to_if_false}
use Rattle.tumbler.proofs.Spans.{are_places}
use Rattle.tumbler.proofs.Sums.{sum-upto}
use Rattle.tumbler.proofs.Widths.{EndsWell-width_at}
use Rattle.enfilade_core.specs.declared.tree.Row.{Row}
use Rattle.enfilade_core.specs.Axes.{first_axis, IsWellFormedRow}
use Rattle.enfilade_core.specs.Planes.{content_widths}
use Rattle.enfilade_search.specs.Meeting.{meets}
use Rattle.enfilade_search.specs.Laws.{span_on}
use Rattle.enfilade_search.proofs.Touching.{meets_exactly}
use Rattle.granfilade.specs.Content.{so_far_on, laid_row, lies_in, bytes_in}
use Rattle.granfilade.proofs.Stepping.{step_is_tumbler, steps-before}
use Rattle.granfilade.proofs.Picking.{part-outside}
use Rattle.granfilade.proofs.WellFormedRows.{row_filled, row_end, row_room}

abbrev pub is_met : Span → Row (ListView ℕ) → Bool
is_met span row = meets (first_axis content_widths) span row

shared : (span : Span) (row : Row (ListView ℕ)) (j : ℕ) → IsWellFormedRow content_widths row → j < length row.leaf.items → lies_in span (so_far_on row.first j) ≡ true → Share (span_on (first_axis content_widths) row) span
shared span row j well_formed lt h =
    let at = so_far_on row.first j in
    let parts = and_parts (not (comes_before at span.start)) (comes_before at (end_of span)) h in
    record {
      places = at;
      are_places = are_places at (step_is_tumbler row.first j well_formed.first_coordinate (omega (arith, row_room row well_formed, lt)));
      in_first = (
        sum-upto row.first (width_at (length row.first) j) (EndsWell-width_at (length row.first) j),
        subst (IsBefore at) (sym (row_end row well_formed)) (steps-before row.first j (length row.leaf.items) (row_filled row well_formed) lt),
      );
      in_second = (up_to_if_false at span.start (not-true (comes_before at span.start) parts.0), before_if_true at (end_of span) parts.1);
    }

outside : (b : Bool) → (b ≡ true → ⊥) → b ≡ false
outside true h = absurd (h refl)
outside false h = refl

pub no_part : (span : Span) (row : Row (ListView ℕ)) → IsTumbler span.start → IsWellFormedRow content_widths row → is_met span row ≡ false → bytes_in span (laid_row row) ≡ []
no_part span row t well_formed not_met =
    part-outside span row.first row.leaf.items (λ j lt. outside (lies_in span (so_far_on row.first j)) (λ h.
    both_ways (is_met span row) not_met (((meets_exactly content_widths).first span row t well_formed).1 (inl ((well_formed.proper.0 refl).0, shared span row j well_formed lt h)))))
