-- What is spelled by modes, rules, spans, specs and lists is read again.
use Rattle.std.proofs.Common.{◌≡◌, ℕ, suc, List, [], ◌∷◌, ◌++◌, length, All, Option, Some, refl, ap, ◌∙◌, append_assoc, arith}
use Rattle.std.specs.List.{flat_map}
use Rattle.std.proofs.lemmas.Bool.{le-ltb}
use Rattle.std.proofs.lemmas.List.Elements.{All-head, All-tail}
use Rattle.tumbler.specs.declared.span.Span.{Span}
use Rattle.tumbler.specs.Places.{IsTumbler}
use Rattle.febe_data.specs.declared.access.Mode.{Mode}
use Rattle.febe_data.specs.declared.access.Mode.TheVariants as modes
use Rattle.febe_data.specs.declared.access.Rule.{Rule}
use Rattle.febe_data.specs.declared.access.Rule.TheVariants as rules
use Rattle.febe_data.specs.Access.{mode_number, rule_number}
use Rattle.febe_data.specs.Plain.{PlainSpec}
use Rattle.febe_data.specs.Spelling.{spell_number, spell_tumbler, spell_span, spell_list, spell_spec}
use Rattle.febe_data.specs.Validity.{IsSpan, IsList, IsSpec}
use Rattle.febe_fields.specs.Reading.{tumbler_at, mode_at, rule_at, many_at, list_at, tumblers_at, span_at, spans_at, spec_at, specs_at}
use Rattle.febe_fields.proofs.FieldLaws.{number_again, tumbler_again}

-- ---- modes and rules

pub mode_again : (mode : Mode) (rest : List ℕ) → mode_at (spell_number (mode_number mode) ++ rest) ≡ Some (mode, rest)
unfolding mode_at
mode_again modes.Read rest = rw (number_again 1 rest (omega arith)) refl
mode_again modes.Write rest = rw (number_again 2 rest (omega arith)) refl

pub rule_again : (rule : Rule) (rest : List ℕ) → rule_at (spell_number (rule_number rule) ++ rest) ≡ Some (rule, rest)
unfolding rule_at
rule_again rules.Refuse rest = rw (number_again 1 rest (omega arith)) refl
rule_again rules.Copy rest = rw (number_again 2 rest (omega arith)) refl
rule_again rules.Always rest = rw (number_again 3 rest (omega arith)) refl

-- ---- lists

-- what is right is read from its spelling, whatever stands behind it
abbrev pub ReadsAgain : {X : Type 0} → (X → Type 0) → (List ℕ → Option (X × List ℕ)) → (X → List ℕ) → Type 0
ReadsAgain {X} IsWellFormed read spell = (x : X) (rest : List ℕ) → IsWellFormed x → read (spell x ++ rest) ≡ Some (x, rest)

pub many_again : {X : Type 0} (IsWellFormed : X → Type 0) (read : List ℕ → Option (X × List ℕ)) (spell : X → List ℕ) → ReadsAgain IsWellFormed read spell
    → (xs : List X) (rest : List ℕ) → All IsWellFormed xs → many_at read (length xs) (flat_map spell xs ++ rest) ≡ Some (xs, rest)
unfolding many_at
many_again IsWellFormed read spell again [] rest each = refl
many_again IsWellFormed read spell again (x ∷ xs) rest each =
    ap (many_at read (suc (length xs))) (append_assoc (spell x) (flat_map spell xs) rest)
    ∙ rw (again x (flat_map spell xs ++ rest) (All-head IsWellFormed x xs each), many_again IsWellFormed read spell again xs rest (All-tail IsWellFormed x xs each)) refl

pub list_again : {X : Type 0} (IsWellFormed : X → Type 0) (read : List ℕ → Option (X × List ℕ)) (spell : X → List ℕ) → ReadsAgain IsWellFormed read spell
    → (xs : List X) (rest : List ℕ) → IsList IsWellFormed xs → list_at read (spell_list spell xs ++ rest) ≡ Some (xs, rest)
unfolding list_at
list_again IsWellFormed read spell again xs rest h =
    ap (list_at read) (append_assoc (spell_number (length xs)) (flat_map spell xs) rest)
    ∙ rw (number_again (length xs) (flat_map spell xs ++ rest) (omega (arith, h.few)), le-ltb _ _ h.few) (many_again IsWellFormed read spell again xs rest h.each)

pub tumblers_again : (tumblers : List (List ℕ)) (rest : List ℕ) → IsList IsTumbler tumblers → tumblers_at (spell_list spell_tumbler tumblers ++ rest) ≡ Some (tumblers, rest)
tumblers_again = list_again IsTumbler tumbler_at spell_tumbler tumbler_again

-- ---- spans and specs

pub span_again : (span : Span) (rest : List ℕ) → IsSpan span → span_at (spell_span span ++ rest) ≡ Some (span, rest)
unfolding span_at
span_again span rest h =
    ap span_at (append_assoc (spell_tumbler span.start) (spell_tumbler span.width) rest)
    ∙ rw (tumbler_again span.start (spell_tumbler span.width ++ rest) h.start, tumbler_again span.width rest h.width) refl

pub spans_again : (spans : List Span) (rest : List ℕ) → IsList IsSpan spans → spans_at (spell_list spell_span spans ++ rest) ≡ Some (spans, rest)
spans_again = list_again IsSpan span_at spell_span span_again

pub spec_again : (spec : PlainSpec) (rest : List ℕ) → IsSpec spec → spec_at (spell_spec spec ++ rest) ≡ Some (spec, rest)
unfolding spec_at
spec_again spec rest h =
    ap spec_at (append_assoc (spell_tumbler spec.document) (spell_list spell_span spec.spans) rest)
    ∙ rw (tumbler_again spec.document (spell_list spell_span spec.spans ++ rest) h.document, spans_again spec.spans rest h.spans) refl

pub specs_again : (specs : List PlainSpec) (rest : List ℕ) → IsList IsSpec specs → specs_at (spell_list spell_spec specs ++ rest) ≡ Some (specs, rest)
specs_again = list_again IsSpec spec_at spell_spec spec_again
