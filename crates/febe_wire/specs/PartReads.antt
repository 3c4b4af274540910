-- What reading a part says.
use Rattle.std.specs.Prelude.{◌≡◌, ℕ, ◌≤◌, List, length, take}
use Rattle.tumbler.specs.declared.span.Span.{Span}
use Rattle.febe_data.specs.Spelling.{spell_number, spell_span, spell_list}
use Rattle.febe_data.specs.Validity.{IsSpan, IsList}
use Rattle.febe_fields.specs.Prefixes.{IsUnfinished, IsBadAt}
use Rattle.febe_wire.specs.declared.parts.GotNumber.{GotNumber}
use Rattle.febe_wire.specs.declared.parts.GotNumber.TheVariants as numbers
use Rattle.febe_wire.specs.declared.parts.GotSpans.{GotSpans}
use Rattle.febe_wire.specs.declared.parts.GotSpans.TheVariants as lists

-- these bytes spell a number up to this one
pub record SpellsNumber (most : ℕ) (bytes : List ℕ) : Type 0 where
  pub number : ℕ
  pub bound : number ≤ most
  pub spelled : bytes ≡ spell_number number

-- the first bytes, as many as were used, spell the number
pub record IsReadNumber (most : ℕ) (bytes : List ℕ) (number used : ℕ) : Type 0 where
  pub within : used ≤ length bytes
  pub bound : number ≤ most
  pub spelled : take used bytes ≡ spell_number number

-- what was got is so
abbrev pub IsGotNumber : ℕ → List ℕ → GotNumber → Type 0
IsGotNumber most bytes (numbers.Number number used) = IsReadNumber most bytes number used
IsGotNumber most bytes numbers.More = IsUnfinished (SpellsNumber most) bytes
IsGotNumber most bytes (numbers.Bad at) = IsBadAt (SpellsNumber most) bytes at

-- these bytes spell a list of spans
pub record SpellsSpans (bytes : List ℕ) : Type 0 where
  pub spans : List Span
  pub valid : IsList IsSpan spans
  pub spelled : bytes ≡ spell_list spell_span spans

-- the first bytes, as many as were used, spell the spans
pub record AreReadSpans (bytes : List ℕ) (spans : List Span) (used : ℕ) : Type 0 where
  pub within : used ≤ length bytes
  pub valid : IsList IsSpan spans
  pub spelled : take used bytes ≡ spell_list spell_span spans

-- what was got is so
abbrev pub IsGotSpans : List ℕ → GotSpans → Type 0
IsGotSpans bytes (lists.Spans spans used) = AreReadSpans bytes spans.items used
IsGotSpans bytes lists.More = IsUnfinished SpellsSpans bytes
IsGotSpans bytes (lists.Bad at) = IsBadAt SpellsSpans bytes at
