-- The laws of the grammar.
use Rattle.std.specs.Prelude.{◌≡◌, ℕ, ◌<◌, List, ◌++◌}
use Rattle.tumbler.specs.declared.span.Span.{Span}
use Rattle.tumbler.specs.Places.{IsTumbler}
use Rattle.febe_data.specs.Plain.{PlainRequest}
use Rattle.febe_data.specs.Spelling.{spell_number, spell_tumbler, spell_span, spell_list}
use Rattle.febe_data.specs.Validity.{IsSpan, IsList}
use Rattle.febe_wire.specs.Grammar.{Spells}

-- no spelling begins another, and each spells one request
abbrev pub OneForm : Type 0
OneForm = (a b x y : List ℕ) (r s : PlainRequest) → Spells a r → Spells b s → a ++ x ≡ b ++ y → (a ≡ b) × (r ≡ s)

-- the same for numbers up to 2 ^ 32
abbrev pub OneNumber : Type 0
OneNumber = (m n : ℕ) (x y : List ℕ) → m < 4294967296 → n < 4294967296 → spell_number m ++ x ≡ spell_number n ++ y → (m ≡ n) × (x ≡ y)

-- the same for lists of spans
abbrev pub OneSpans : Type 0
OneSpans = (a b : List Span) (x y : List ℕ) → IsList IsSpan a → IsList IsSpan b → spell_list spell_span a ++ x ≡ spell_list spell_span b ++ y → (a ≡ b) × (x ≡ y)

-- the same for tumblers
abbrev pub OneTumbler : Type 0
OneTumbler = (a b x y : List ℕ) → IsTumbler a → IsTumbler b → spell_tumbler a ++ x ≡ spell_tumbler b ++ y → (a ≡ b) × (x ≡ y)
