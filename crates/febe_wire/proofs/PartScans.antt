-- The scans of a number and of a list of spans take what spells them, and nothing else.
use Rattle.std.proofs.Common.{◌≡◌, ℕ, ◌<◌, ◌≤◌, List, [], ◌∷◌, ◌++◌, drop, Some, None, refl, sym, ap, subst, ◌∙◌, arith}
use Rattle.std.specs.Fmt.{decimal}
use Rattle.std.proofs.lemmas.Option.{some_pair_parts}
use Rattle.std.proofs.lemmas.List.{append-nil, take-append-drop}
use Rattle.tumbler.specs.declared.span.Span.{Span}
use Rattle.febe_data.specs.Spelling.{spell_number, spell_span, spell_list}
use Rattle.febe_data.specs.Validity.{IsSpan, IsList}
use Rattle.febe_fields.specs.declared.leaf.Terminator.TheVariants.{Tilde}
use Rattle.febe_fields.specs.declared.leaf.Leaf.TheVariants.{First}
use Rattle.febe_fields.specs.declared.scanned.Scanned.{Scanned}
use Rattle.febe_fields.specs.declared.scanner.Field.TheVariants as fields
use Rattle.febe_fields.specs.declared.scanner.Role.TheVariants as roles
use Rattle.febe_fields.specs.Prefixes.{IsScanned, HasSpelledPrefix}
use Rattle.febe_fields.specs.Scanning.{scan}
use Rattle.febe_fields.specs.Machine.{State, field_step, opened}
use Rattle.febe_fields.specs.Fields.{takes}
use Rattle.febe_fields.specs.Reading.{number_at, tumbler_at, spans_at}
use Rattle.febe_fields.proofs.FieldLaws as laws
use Rattle.febe_fields.proofs.ListLaws as lists
use Rattle.febe_fields.proofs.Scans.{scan_says, scanned_too}
use Rattle.febe_fields.proofs.NumberScans.{at_leaf, number_takes, number_again}
use Rattle.febe_fields.proofs.FieldsTaken.{field_takes}
use Rattle.febe_fields.proofs.FieldsAgain.{field_again}
use Rattle.febe_fields.proofs.Live.{never_stuck}
use Rattle.febe_wire.specs.Laws.{OneNumber, OneSpans, OneTumbler}
use Rattle.febe_wire.specs.PartReads.{SpellsNumber, IsReadNumber, SpellsSpans, AreReadSpans}

-- ---- numbers

abbrev pub number_state : ℕ → State
number_state most = at_leaf roles.Value 0 0 0 [] (First most Tilde)

number_spelled : (most : ℕ) → most < 4294967296 → (bytes : List ℕ) → takes field_step (number_state most) bytes → SpellsNumber most bytes
number_spelled most word bytes h =
    let t = number_takes roles.Value 0 0 0 [] most Tilde bytes word h in
    record { number = t.number; bound = t.bound; spelled = t.spelled ∙ ap (λ (ds : List ℕ). decimal t.number ++ 126 ∷ ds) t.ended }

number_taken : (most : ℕ) → most < 4294967296 → (bytes : List ℕ) → SpellsNumber most bytes → takes field_step (number_state most) bytes
number_taken most word bytes h = subst (takes field_step (number_state most)) (sym h.spelled) (number_again roles.Value 0 0 0 [] h.number most Tilde [] h.bound word refl)

pub number_scanned : (most : ℕ) (bytes : List ℕ) (r : Scanned) → most < 4294967296 → r ≡ scan field_step (number_state most) bytes → IsScanned (SpellsNumber most) bytes r
number_scanned most bytes r word e =
    subst (IsScanned (SpellsNumber most) bytes) (sym e) (scanned_too (takes field_step (number_state most)) (SpellsNumber most) (number_spelled most word) (number_taken most word) bytes (scan field_step (number_state most) bytes) (scan_says field_step never_stuck (number_state most) bytes))

number_read_again : (most : ℕ) (bytes : List ℕ) (used : ℕ) → most < 4294967296 → (h : HasSpelledPrefix (SpellsNumber most) bytes used) → number_at bytes ≡ Some (h.prefix.number, drop used bytes)
number_read_again most bytes used word h =
    let whole : bytes ≡ spell_number h.prefix.number ++ drop used bytes = sym (take-append-drop used bytes) ∙ ap (λ (ds : List ℕ). ds ++ drop used bytes) h.prefix.spelled in
    ap number_at whole ∙ laws.number_again h.prefix.number (drop used bytes) (omega (arith, h.prefix.bound))

pub is_read_number : (most : ℕ) (bytes : List ℕ) (used number : ℕ) (rest : List ℕ) → most < 4294967296 → HasSpelledPrefix (SpellsNumber most) bytes used → number_at bytes ≡ Some (number, rest) → IsReadNumber most bytes number used
is_read_number most bytes used number rest word h e =
    let p = some_pair_parts h.prefix.number number (drop used bytes) rest (sym (number_read_again most bytes used word h) ∙ e) in
    record { within = h.within; bound = subst (λ (n : ℕ). n ≤ most) p.0 h.prefix.bound; spelled = h.prefix.spelled ∙ ap spell_number p.0 }

pub some_number : (most : ℕ) (bytes : List ℕ) (used : ℕ) → most < 4294967296 → HasSpelledPrefix (SpellsNumber most) bytes used → number_at bytes ≡ None → ⊥
some_number most bytes used word h e = cc (sym (number_read_again most bytes used word h) ∙ e)

-- ---- lists of spans

spans_spelled : (bytes : List ℕ) → takes field_step (opened fields.Spans []) bytes → SpellsSpans bytes
spans_spelled bytes h =
    let t = field_takes fields.Spans [] bytes h in
    record { spans = t.value; valid = t.valid; spelled = t.spelled ∙ ap (λ (ds : List ℕ). spell_list spell_span t.value ++ ds) t.ended ∙ append-nil (spell_list spell_span t.value) }

spans_taken : (bytes : List ℕ) → SpellsSpans bytes → takes field_step (opened fields.Spans []) bytes
spans_taken bytes h = subst (takes field_step (opened fields.Spans [])) (append-nil (spell_list spell_span h.spans) ∙ sym h.spelled) (field_again fields.Spans [] [] refl h.spans h.valid)

pub spans_scanned : (bytes : List ℕ) (r : Scanned) → r ≡ scan field_step (opened fields.Spans []) bytes → IsScanned SpellsSpans bytes r
spans_scanned bytes r e =
    subst (IsScanned SpellsSpans bytes) (sym e) (scanned_too (takes field_step (opened fields.Spans [])) SpellsSpans spans_spelled spans_taken bytes (scan field_step (opened fields.Spans []) bytes) (scan_says field_step never_stuck (opened fields.Spans []) bytes))

spans_read_again : (bytes : List ℕ) (used : ℕ) (h : HasSpelledPrefix SpellsSpans bytes used) → spans_at bytes ≡ Some (h.prefix.spans, drop used bytes)
spans_read_again bytes used h =
    let whole : bytes ≡ spell_list spell_span h.prefix.spans ++ drop used bytes = sym (take-append-drop used bytes) ∙ ap (λ (ds : List ℕ). ds ++ drop used bytes) h.prefix.spelled in
    ap spans_at whole ∙ lists.spans_again h.prefix.spans (drop used bytes) h.prefix.valid

pub are_read_spans : (bytes : List ℕ) (used : ℕ) (spans : List Span) (rest : List ℕ) → HasSpelledPrefix SpellsSpans bytes used → spans_at bytes ≡ Some (spans, rest) → AreReadSpans bytes spans used
are_read_spans bytes used spans rest h e =
    let p = some_pair_parts h.prefix.spans spans (drop used bytes) rest (sym (spans_read_again bytes used h) ∙ e) in
    record { within = h.within; valid = subst (IsList IsSpan) p.0 h.prefix.valid; spelled = h.prefix.spelled ∙ ap (spell_list spell_span) p.0 }

pub some_spans : (bytes : List ℕ) (used : ℕ) → HasSpelledPrefix SpellsSpans bytes used → spans_at bytes ≡ None → ⊥
some_spans bytes used h e = cc (sym (spans_read_again bytes used h) ∙ e)

-- ---- one spelling for each part

pub number_alone : OneNumber
number_alone m n x y h g e = some_pair_parts m n x y (sym (laws.number_again m x h) ∙ ap number_at e ∙ laws.number_again n y g)

pub spans_alone : OneSpans
spans_alone a b x y h g e = some_pair_parts a b x y (sym (lists.spans_again a x h) ∙ ap spans_at e ∙ lists.spans_again b y g)

pub tumbler_alone : OneTumbler
tumbler_alone a b x y h g e = some_pair_parts a b x y (sym (laws.tumbler_again a x h) ∙ ap tumbler_at e ∙ laws.tumbler_again b y g)
