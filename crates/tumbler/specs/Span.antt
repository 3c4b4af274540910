-- What lies in a span.
use Rattle.std.specs.Prelude.{ℕ, List}
use Rattle.tumbler.specs.Places.{ArePlaces, IsBefore, IsUpTo, sum, Fits}
use Rattle.tumbler.specs.declared.span.Span.{Span}

-- where the span ends: the first place after it
abbrev pub end_of : Span → List ℕ
end_of span = sum span.start span.width

abbrev pub SpanFits : Span → Type 0
SpanFits span = Fits span.start span.width

-- x is at the start or after it, and before the end
abbrev pub IsIn : List ℕ → Span → Type 0
IsIn x span = IsUpTo span.start x × IsBefore x (end_of span)

-- some places, of any number, are in both spans
pub record Share (a b : Span) : Type 0 where
  pub places : List ℕ
  pub are_places : ArePlaces places
  pub in_first : IsIn places a
  pub in_second : IsIn places b
