-- What two spans share begins at the later start.
use Rattle.std.proofs.Common.{ℕ, List, inl, inr}
use Rattle.tumbler.specs.declared.span.Span.{Span}
use Rattle.tumbler.specs.Places.{ArePlaces, IsTumbler, IsBefore, IsUpTo}
use Rattle.tumbler.specs.Span.{end_of, Share}
use Rattle.tumbler.proofs.Order.{upto_before, upto_itself, upto_or_before, before_upto, never_before_itself}

pub are_places : (a : List ℕ) → IsTumbler a → ArePlaces a
are_places a t = record { small = t.small; ends = t.ends }

pub not_before : (a b : List ℕ) → IsUpTo a b → IsBefore b a → ⊥
not_before a b le lt = never_before_itself b (before_upto b a b lt le)

pub upto_unless_before : (a b : List ℕ) → (IsBefore b a → ⊥) → IsUpTo a b
upto_unless_before a b n = elim (upto_or_before a b) [ inl le ↦ le | inr lt ↦ absurd (n lt) ]

pub share_flip : (a b : Span) → Share a b → Share b a
share_flip a b s = record { places = s.places; are_places = s.are_places; in_first = s.in_second; in_second = s.in_first }

-- where b starts at or after a, they share b's start or nothing
pub share_at : (a b : Span) → IsTumbler b.start → IsUpTo a.start b.start → IsBefore b.start (end_of a) → IsBefore b.start (end_of b) → Share a b
share_at a b t le in_a in_b = record { places = b.start; are_places = are_places b.start t; in_first = (le, in_a); in_second = (upto_itself b.start, in_b) }

pub share_first : (a b : Span) → Share a b → IsBefore b.start (end_of a)
share_first a b s = upto_before b.start s.places (end_of a) s.in_second.0 s.in_first.1

pub share_second : (a b : Span) → Share a b → IsBefore b.start (end_of b)
share_second a b s = upto_before b.start s.places (end_of b) s.in_second.0 s.in_second.1

pub ruleset spans = (not_before, upto_unless_before, share_flip, share_at, share_first, share_second)
