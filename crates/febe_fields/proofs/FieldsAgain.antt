-- The scan of fields takes each spelling of right values.
use Rattle.std.proofs.Common.{◌≡◌, ℕ, suc, ◌-◌, ◌*◌, ◌<◌, ◌≤◌, false, List, [], ◌∷◌, ◌++◌, length, All, refl, sym, ap, subst, ◌∙◌, append_assoc, arith}
use Rattle.std.specs.Prelude.{◌==◌}
use Rattle.std.specs.List.{flat_map, AllByRecursion}
use Rattle.std.specs.Fmt.{decimal, digits}
use Rattle.std.proofs.lemmas.Bool.{ne_eqb, lt-ltb}
use Rattle.std.proofs.lemmas.List.Elements.{All-nil, All-cons, All-head, All-tail}
use Rattle.tumbler.specs.declared.span.Span.{Span}
use Rattle.tumbler.specs.Places.{IsTumbler}
use Rattle.febe_data.specs.declared.access.Mode.TheVariants as modes
use Rattle.febe_data.specs.declared.access.Rule.TheVariants as rules
use Rattle.febe_data.specs.Plain.{PlainSpec}
use Rattle.febe_data.specs.Spelling.{spell_number, spell_tumbler, spell_text, spell_span, spell_spec, spell_list, spell_value}
use Rattle.febe_data.specs.Validity.{IsText, IsSpan, IsSpec, IsFieldValue, spans_in_all}
use Rattle.febe_fields.specs.declared.leaf.Terminator.TheVariants.{Tilde, Colon}
use Rattle.febe_fields.specs.declared.leaf.Leaf.TheVariants.{Byte, First, ZeroCount, Text, Choice}
use Rattle.febe_fields.specs.declared.scanner.Field.{Field}
use Rattle.febe_fields.specs.declared.scanner.Field.TheVariants as fields
use Rattle.febe_fields.specs.declared.scanner.Role.{Role}
use Rattle.febe_fields.specs.declared.scanner.Role.TheVariants as roles
use Rattle.febe_fields.specs.Machine.{field_step, fields_next, what_next, opened}
use Rattle.febe_fields.specs.Fields.{ValueOf, field_value, ValuesOf, field_values, SpellsFields, takes, follows}
use Rattle.febe_fields.proofs.NumberScans.{at_leaf, behind_leaf, taken_step, byte_again, number_again}
use Rattle.febe_fields.proofs.TumblersAgain.{tumbler_again}
use Rattle.febe_fields.proofs.FieldScans.{spans_counted}

-- a number and its tilde
spelled_number_again : (role : Role) (tumblers specs room : ℕ) (others : List Field) (n most : ℕ) (behind : List ℕ) → n ≤ most → most < 4294967296 → behind_leaf role tumblers specs room others n behind
    → takes field_step (at_leaf role tumblers specs room others (First most Tilde)) (spell_number n ++ behind)
spelled_number_again role tumblers specs room others n most behind small word h =
    subst (takes field_step (at_leaf role tumblers specs room others (First most Tilde))) (sym (append_assoc (decimal n) (126 ∷ []) behind)) (number_again role tumblers specs room others n most Tilde behind small word h)

-- ---- texts

module _ (tumblers specs room : ℕ) (others : List Field) (behind : List ℕ) (ended : follows field_step (what_next tumblers specs room others) behind) where
  bytes_again : (b : ℕ) (text : List ℕ) → All (λ b. b < 256) (b ∷ text) → takes field_step (at_leaf roles.Value tumblers specs room others (Text (length text))) (b ∷ text ++ behind)
  bytes_again b [] are = taken_step roles.Value tumblers specs room others (Text 0) b behind (rw (lt-ltb b 256 (All-head (λ b. b < 256) b [] are)) ended)
  bytes_again b (c ∷ text) are =
      let on = bytes_again c text (All-tail (λ b. b < 256) b (c ∷ text) are) in
      let left : (suc (length text) == 0) ≡ false = ne_eqb _ _ (λ e. omega arith) in
      let one : suc (length text) - 1 ≡ length text = omega arith in
      taken_step roles.Value tumblers specs room others (Text (suc (length text))) b (c ∷ text ++ behind) (rw (lt-ltb b 256 (All-head (λ b. b < 256) b (c ∷ text) are), left, one) on)

  length_again : (text : List ℕ) → IsText text → behind_leaf roles.TextLength tumblers specs room others (length text) (text ++ behind)
  length_again [] h = ended
  length_again (b ∷ text) h =
      let left : (suc (length text) == 0) ≡ false = ne_eqb _ _ (λ e. omega arith) in
      let one : suc (length text) - 1 ≡ length text = omega arith in
      rw (left, one) (bytes_again b text h.bytes)

  pub text_again : (text : List ℕ) → IsText text → takes field_step (at_leaf roles.TextMark tumblers specs room others (Byte 116)) (spell_text text ++ behind)
  text_again text h =
      let n = number_again roles.TextLength tumblers specs room others (length text) 16777216 Colon (text ++ behind) h.short (omega arith) (length_again text h) in
      let regrouped : 116 ∷ (decimal (length text) ++ 58 ∷ (text ++ behind)) ≡ spell_text text ++ behind =
      sym (ap (λ (ds : List ℕ). 116 ∷ ds) (append_assoc (decimal (length text) ++ 58 ∷ []) text behind ∙ append_assoc (decimal (length text)) (58 ∷ []) (text ++ behind))) in
      subst (takes field_step (at_leaf roles.TextMark tumblers specs room others (Byte 116))) regrouped (byte_again roles.TextMark tumblers specs room others 116 (decimal (length text) ++ 58 ∷ (text ++ behind)) n)

-- ---- lists

module _ (specs room : ℕ) (others : List Field) (behind : List ℕ) (ended : follows field_step (what_next 0 specs room others) behind) where
  pub tumblers_again : (tumblers : List (List ℕ)) → All IsTumbler tumblers → follows field_step (what_next (length tumblers) specs room others) (flat_map spell_tumbler tumblers ++ behind)
  tumblers_again [] are = ended
  tumblers_again (t ∷ tumblers) are =
      let on = tumblers_again tumblers (All-tail IsTumbler t tumblers are) in
      let one : suc (length tumblers) - 1 ≡ length tumblers = omega arith in
      let some : 0 < suc (length tumblers) = omega arith in
      let this = tumbler_again roles.Value (length tumblers) specs room others (flat_map spell_tumbler tumblers ++ behind) on t (All-head IsTumbler t tumblers are) in
      let regrouped : spell_tumbler t ++ (flat_map spell_tumbler tumblers ++ behind) ≡ flat_map spell_tumbler (t ∷ tumblers) ++ behind = sym (append_assoc (spell_tumbler t) (flat_map spell_tumbler tumblers) behind) in
      rw (lt-ltb 0 (suc (length tumblers)) some, one) (subst (takes field_step (at_leaf roles.Value (length tumblers) specs room others ZeroCount)) regrouped this)

-- the tumblers of spans, one after the other
abbrev ends_of : List Span → List (List ℕ)
ends_of [] = []
ends_of (span ∷ spans) = span.start ∷ span.width ∷ ends_of spans

ends_counted : (spans : List Span) → length (ends_of spans) ≡ length spans * 2
ends_counted [] = refl
ends_counted (span ∷ spans) = omega (arith, ends_counted spans)

ends_spelled : (spans : List Span) → flat_map spell_tumbler (ends_of spans) ≡ flat_map spell_span spans
ends_spelled [] = refl
ends_spelled (span ∷ spans) = ap (λ (ds : List ℕ). spell_tumbler span.start ++ (spell_tumbler span.width ++ ds)) (ends_spelled spans) ∙ sym (append_assoc (spell_tumbler span.start) (spell_tumbler span.width) (flat_map spell_span spans))

ends_are : (spans : List Span) → All IsSpan spans → All IsTumbler (ends_of spans)
ends_are [] are = All-nil IsTumbler
ends_are (span ∷ spans) are =
    let first = All-head IsSpan span spans are in
    All-cons IsTumbler span.start (span.width ∷ ends_of spans) first.start (All-cons IsTumbler span.width (ends_of spans) first.width (ends_are spans (All-tail IsSpan span spans are)))

pub spans_again : (specs room : ℕ) (others : List Field) (behind : List ℕ) → follows field_step (what_next 0 specs room others) behind → (spans : List Span) → All IsSpan spans
    → follows field_step (what_next (length spans * 2) specs room others) (flat_map spell_span spans ++ behind)
spans_again specs room others behind ended spans are =
    let t = tumblers_again specs room others behind ended (ends_of spans) (ends_are spans are) in
    let counted : follows field_step (what_next (length spans * 2) specs room others) (flat_map spell_tumbler (ends_of spans) ++ behind) = subst (λ (k : ℕ). follows field_step (what_next k specs room others) (flat_map spell_tumbler (ends_of spans) ++ behind)) (ends_counted spans) t in
    subst (λ (ds : List ℕ). follows field_step (what_next (length spans * 2) specs room others) (ds ++ behind)) (ends_spelled spans) counted

-- ---- spec sets

pub spec_again : (specs room : ℕ) (others : List Field) (behind : List ℕ) (spec : PlainSpec) → IsSpec spec → length spec.spans ≤ room → room < 4294967296 → follows field_step (what_next 0 specs (room - length spec.spans) others) behind
    → takes field_step (at_leaf roles.Document 0 specs room others ZeroCount) (spell_spec spec ++ behind)
spec_again specs room others behind spec h few word ended =
    let s = spans_again specs (room - length spec.spans) others behind ended spec.spans h.spans.each in
    let n = spelled_number_again roles.CountOfSpecSpans 0 specs room others (length spec.spans) room (flat_map spell_span spec.spans ++ behind) few word s in
    let d = tumbler_again roles.Document 0 specs room others (spell_number (length spec.spans) ++ (flat_map spell_span spec.spans ++ behind)) n spec.document h.document in
    let regrouped : spell_tumbler spec.document ++ (spell_number (length spec.spans) ++ (flat_map spell_span spec.spans ++ behind)) ≡ spell_spec spec ++ behind =
    sym (append_assoc (spell_tumbler spec.document) (spell_list spell_span spec.spans) behind ∙ ap (λ (ds : List ℕ). spell_tumbler spec.document ++ ds) (append_assoc (spell_number (length spec.spans)) (flat_map spell_span spec.spans) behind)) in
    subst (takes field_step (at_leaf roles.Document 0 specs room others ZeroCount)) regrouped d

pub specs_again : (others : List Field) (behind : List ℕ) → follows field_step (fields_next others) behind → (specs : List PlainSpec) (room : ℕ) → All IsSpec specs → spans_in_all specs ≤ room → room < 4294967296
    → follows field_step (what_next 0 (length specs) room others) (flat_map spell_spec specs ++ behind)
specs_again others behind ended [] room are few word = ended
specs_again others behind ended (spec ∷ specs) room are few word =
    let counted = spans_counted spec specs in
    let on = specs_again others behind ended specs (room - length spec.spans) (All-tail IsSpec spec specs are) (omega (arith, counted, few)) (omega (arith, word)) in
    let one : suc (length specs) - 1 ≡ length specs = omega arith in
    let some : 0 < suc (length specs) = omega arith in
    let this = spec_again (length specs) room others (flat_map spell_spec specs ++ behind) spec (All-head IsSpec spec specs are) (omega (arith, counted, few)) word on in
    let regrouped : spell_spec spec ++ (flat_map spell_spec specs ++ behind) ≡ flat_map spell_spec (spec ∷ specs) ++ behind = sym (append_assoc (spell_spec spec) (flat_map spell_spec specs) behind) in
    rw (lt-ltb 0 (suc (length specs)) some, one) (subst (takes field_step (at_leaf roles.Document 0 (length specs) room others ZeroCount)) regrouped this)

-- ---- all fields

pub field_again : (field : Field) (others : List Field) (behind : List ℕ) → follows field_step (fields_next others) behind → (value : ValueOf field) → IsFieldValue (field_value field value) → takes field_step (opened field others) (spell_value (field_value field value) ++ behind)
unfolding digits
field_again fields.Tumbler others behind ended value h = tumbler_again roles.Value 0 0 0 others behind ended value h
field_again fields.Number others behind ended value h = spelled_number_again roles.Value 0 0 0 others value 4294967295 behind (omega (arith, h)) (omega arith) ended
field_again fields.Text others behind ended value h = text_again 0 0 0 others behind ended value h
field_again fields.Span others behind ended value h =
    let width = tumbler_again roles.Value 0 0 0 others behind ended value.width h.width in
    let start = tumbler_again roles.Value 1 0 0 others (spell_tumbler value.width ++ behind) width value.start h.start in
    subst (takes field_step (opened fields.Span others)) (sym (append_assoc (spell_tumbler value.start) (spell_tumbler value.width) behind)) start
field_again fields.Spans others behind ended value h =
    let on = spelled_number_again roles.CountOfSpans 0 0 0 others (length value) 65536 (flat_map spell_span value ++ behind) h.few (omega arith) (spans_again 0 0 others behind ended value h.each) in
    subst (takes field_step (opened fields.Spans others)) (sym (append_assoc (spell_number (length value)) (flat_map spell_span value) behind)) on
field_again fields.Tumblers others behind ended value h =
    let on = spelled_number_again roles.CountOfTumblers 0 0 0 others (length value) 65536 (flat_map spell_tumbler value ++ behind) h.few (omega arith) (tumblers_again 0 0 others behind ended value h.each) in
    subst (takes field_step (opened fields.Tumblers others)) (sym (append_assoc (spell_number (length value)) (flat_map spell_tumbler value) behind)) on
field_again fields.Spec others behind ended value h = spec_again 0 65536 others behind value h h.spans.few (omega arith) ended
field_again fields.Specs others behind ended value h =
    let on = spelled_number_again roles.CountOfSpecs 0 0 0 others (length value) 65536 (flat_map spell_spec value ++ behind) h.list.few (omega arith) (specs_again others behind ended value 65536 h.list.each h.few_spans (omega arith)) in
    subst (takes field_step (opened fields.Specs others)) (sym (append_assoc (spell_number (length value)) (flat_map spell_spec value) behind)) on
field_again fields.Mode others behind ended modes.Read h = taken_step roles.Value 0 0 0 others (Choice 1) 49 (126 ∷ behind) (byte_again roles.Value 0 0 0 others 126 behind ended)
field_again fields.Mode others behind ended modes.Write h = taken_step roles.Value 0 0 0 others (Choice 1) 50 (126 ∷ behind) (byte_again roles.Value 0 0 0 others 126 behind ended)
field_again fields.Rule others behind ended rules.Refuse h = taken_step roles.Value 0 0 0 others (Choice 2) 49 (126 ∷ behind) (byte_again roles.Value 0 0 0 others 126 behind ended)
field_again fields.Rule others behind ended rules.Copy h = taken_step roles.Value 0 0 0 others (Choice 2) 50 (126 ∷ behind) (byte_again roles.Value 0 0 0 others 126 behind ended)
field_again fields.Rule others behind ended rules.Always h = taken_step roles.Value 0 0 0 others (Choice 2) 51 (126 ∷ behind) (byte_again roles.Value 0 0 0 others 126 behind ended)

pub fields_again : (others : List Field) (values : ValuesOf others) → AllByRecursion IsFieldValue (field_values others values) → follows field_step (fields_next others) (flat_map spell_value (field_values others values))
fields_again [] values h = refl
fields_again (field ∷ others) values h = field_again field others (flat_map spell_value (field_values others values.1)) (fields_again others values.1 h.1) values.0 h.0

-- the same, for bytes that spell fields
pub fields_taken : (others : List Field) (bytes : List ℕ) → SpellsFields others bytes → follows field_step (fields_next others) bytes
fields_taken others bytes h = subst (follows field_step (fields_next others)) (sym h.spelled) (fields_again others h.values h.valid)
