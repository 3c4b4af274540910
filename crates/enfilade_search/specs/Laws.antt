-- What it says that a row meets a span.
use Rattle.std.specs.Prelude.{◌≡◌, ◌≢◌, ◌⊎◌, ◌↔◌, IsTrue, []}
use Rattle.tumbler.specs.Places.{IsTumbler}
use Rattle.tumbler.specs.Span.{IsIn, Share}
use Rattle.tumbler.specs.declared.span.Span.{Span}
use Rattle.enfilade_core.specs.declared.tree.Row.{Row}
use Rattle.enfilade_core.specs.Axes.{Widths, Axis, first_axis, second_axis, IsWellFormedRow}
use Rattle.enfilade_search.specs.Meeting.{meets}

-- what a row takes up on an axis
abbrev pub span_on : {L : Type 0} → Axis L → Row L → Span
span_on axis row = record { start = axis.coordinate row; width = axis.width row }

-- a row that has a width shares some coordinate with the span; one that has none stands in it
abbrev pub Meets : {L : Type 0} → Axis L → Span → Row L → Type 0
Meets axis span row = ((axis.width row ≢ []) × Share (span_on axis row) span) ⊎ ((axis.width row ≡ []) × IsIn (axis.coordinate row) span)

-- on both axes the test of a row is true exactly where it meets the span
pub record MeetsExactly {L : Type 0} (w : Widths L) : Type 0 where
  pub first : (span : Span) (row : Row L) → IsTumbler span.start → IsWellFormedRow w row → (IsTrue (meets (first_axis w) span row) ↔ Meets (first_axis w) span row)
  pub second : (span : Span) (row : Row L) → IsTumbler span.start → IsWellFormedRow w row → (IsTrue (meets (second_axis w) span row) ↔ Meets (second_axis w) span row)
