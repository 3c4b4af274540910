-- Spans that come one after another.
use Rattle.std.specs.Prelude.{ℕ, List, All}
use Rattle.std.specs.List.{AllPairs}
use Rattle.tumbler.specs.declared.span.Span.{Span}
use Rattle.tumbler.specs.Places.{IsBefore, IsUpTo}
use Rattle.tumbler.specs.Span.{end_of, SpanFits}

-- some place is in the span
abbrev pub HasPlaces : Span → Type 0
HasPlaces span = IsBefore span.start (end_of span)

-- the one ends before the other begins
abbrev pub EndsBefore : Span → Span → Type 0
EndsBefore a b = IsBefore (end_of a) b.start

-- each has some place, and ends before the next one begins
pub record AreApart (spans : List Span) : Type 0 where
  pub filled : All HasPlaces spans
  pub apart : AllPairs EndsBefore spans

-- the span starts at a place or before it
abbrev pub StartsUpTo : List ℕ → Span → Type 0
StartsUpTo at span = IsUpTo span.start at

-- no span starts before one in front of it
abbrev pub IsByStart : List Span → Type 0
IsByStart spans = AllPairs (λ (a : Span) (b : Span). IsUpTo a.start b.start) spans

-- spans that fit and are apart, of which none starts behind a place
pub record IsJoined (at : List ℕ) (spans : List Span) : Type 0 where
  pub fits : All SpanFits spans
  pub apart : AreApart spans
  pub starts : All (StartsUpTo at) spans
