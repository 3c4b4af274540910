-- What the scan of fields takes spells a right value for each of them.
use Rattle.std.proofs.Common.{◌≡◌, ℕ, zero, suc, ◌+◌, ◌≤◌, List, [], ◌∷◌, ◌++◌, length, refl, sym, ap, subst, ◌∙◌, append_assoc, arith}
use Rattle.std.specs.List.{flat_map}
use Rattle.std.specs.Fmt.{decimal}
use Rattle.febe_data.specs.declared.access.Mode.{Mode}
use Rattle.febe_data.specs.declared.access.Mode.TheVariants as modes
use Rattle.febe_data.specs.declared.access.Rule.{Rule}
use Rattle.febe_data.specs.declared.access.Rule.TheVariants as rules
use Rattle.febe_data.specs.Access.{mode_number, rule_number}
use Rattle.febe_data.specs.Spelling.{spell_number, spell_tumbler, spell_span, spell_spec, spell_value}
use Rattle.febe_data.specs.Validity.{IsFieldValue}
use Rattle.febe_fields.specs.declared.leaf.Terminator.TheVariants.{Tilde}
use Rattle.febe_fields.specs.declared.scanner.Field.{Field}
use Rattle.febe_fields.specs.declared.scanner.Field.TheVariants as fields
use Rattle.febe_fields.specs.declared.scanner.Role.TheVariants as roles
use Rattle.febe_fields.specs.Machine.{field_step, fields_next, opened}
use Rattle.febe_fields.specs.Fields.{ValueOf, field_value, SpellsFields, takes, follows}
use Rattle.febe_fields.proofs.NumberScans.{number_takes}
use Rattle.febe_fields.proofs.TumblerScans.{tumbler_takes}
use Rattle.febe_fields.proofs.FieldScans.{text_takes, tumblers_take, spans_take, spec_takes, specs_take, choice_takes}

-- a right value of a field, in front of what the other fields take
pub record TakesField (field : Field) (others : List Field) (bytes : List ℕ) : Type 0 where
  pub value : ValueOf field
  pub behind : List ℕ
  pub valid : IsFieldValue (field_value field value)
  pub spelled : bytes ≡ spell_value (field_value field value) ++ behind
  pub ended : follows field_step (fields_next others) behind

number_joined : (bytes behind : List ℕ) (n : ℕ) → bytes ≡ decimal n ++ 126 ∷ behind → bytes ≡ spell_number n ++ behind
number_joined bytes behind n e = e ∙ sym (append_assoc (decimal n) (126 ∷ []) behind)

list_joined : (bytes mid items behind : List ℕ) (n count : ℕ) → bytes ≡ decimal n ++ 126 ∷ mid → mid ≡ items ++ behind → count ≡ n → bytes ≡ (spell_number count ++ items) ++ behind
list_joined bytes mid items behind n count e f len =
    number_joined bytes mid n e ∙ rw (f, len) (sym (append_assoc (spell_number n) items behind))

span_joined : (bytes start after width behind : List ℕ) → bytes ≡ spell_tumbler start ++ after → after ≡ spell_tumbler width ++ behind → bytes ≡ spell_span (record { start = start; width = width }) ++ behind
span_joined bytes start after width behind e f = e ∙ ap (λ (ds : List ℕ). spell_tumbler start ++ ds) f ∙ sym (append_assoc (spell_tumbler start) (spell_tumbler width) behind)

-- the mode of a number
mode_with_number : (n : ℕ) → 1 ≤ n → n ≤ 1 + 1 → (mode : Mode) × (mode_number mode ≡ n)
mode_with_number zero low high = absurd (omega arith)
mode_with_number (suc zero) low high = (modes.Read, refl)
mode_with_number (suc (suc zero)) low high = (modes.Write, refl)
mode_with_number (suc (suc (suc n))) low high = absurd (omega arith)

-- the rule of a number
rule_with_number : (n : ℕ) → 1 ≤ n → n ≤ 2 + 1 → (rule : Rule) × (rule_number rule ≡ n)
rule_with_number zero low high = absurd (omega arith)
rule_with_number (suc zero) low high = (rules.Refuse, refl)
rule_with_number (suc (suc zero)) low high = (rules.Copy, refl)
rule_with_number (suc (suc (suc zero))) low high = (rules.Always, refl)
rule_with_number (suc (suc (suc (suc n)))) low high = absurd (omega arith)

pub field_takes : (field : Field) (others : List Field) (bytes : List ℕ) → takes field_step (opened field others) bytes → TakesField field others bytes
field_takes fields.Tumbler others bytes h =
    let t = tumbler_takes roles.Value 0 0 0 others bytes h in
    record { value = t.places; behind = t.behind; valid = t.is; spelled = t.spelled; ended = t.ended }
field_takes fields.Number others bytes h =
    let t = number_takes roles.Value 0 0 0 others 4294967295 Tilde bytes (omega arith) h in
    record { value = t.number; behind = t.behind; valid = omega (arith, t.bound); spelled = number_joined bytes t.behind t.number t.spelled; ended = t.ended }
field_takes fields.Text others bytes h =
    let t = text_takes 0 0 0 others bytes h in
    record { value = t.text; behind = t.behind; valid = t.is; spelled = t.spelled; ended = t.ended }
field_takes fields.Span others bytes h =
    let a = tumbler_takes roles.Value 1 0 0 others bytes h in
    let b = tumbler_takes roles.Value 0 0 0 others a.behind a.ended in
    record {
      value = record { start = a.places; width = b.places };
      behind = b.behind;
      valid = record { start = a.is; width = b.is };
      spelled = span_joined bytes a.places a.behind b.places b.behind a.spelled b.spelled;
      ended = b.ended;
    }
field_takes fields.Spans others bytes h =
    let n = number_takes roles.CountOfSpans 0 0 0 others 65536 Tilde bytes (omega arith) h in
    let s = spans_take 0 0 others n.number n.behind n.ended in
    record {
      value = s.spans;
      behind = s.behind;
      valid = record { few = omega (arith, s.count_is, n.bound); each = s.are };
      spelled = list_joined bytes n.behind (flat_map spell_span s.spans) s.behind n.number (length s.spans) n.spelled s.spelled s.count_is;
      ended = s.ended;
    }
field_takes fields.Tumblers others bytes h =
    let n = number_takes roles.CountOfTumblers 0 0 0 others 65536 Tilde bytes (omega arith) h in
    let s = tumblers_take 0 0 others n.number n.behind n.ended in
    record {
      value = s.tumblers;
      behind = s.behind;
      valid = record { few = omega (arith, s.count_is, n.bound); each = s.are };
      spelled = list_joined bytes n.behind (flat_map spell_tumbler s.tumblers) s.behind n.number (length s.tumblers) n.spelled s.spelled s.count_is;
      ended = s.ended;
    }
field_takes fields.Spec others bytes h =
    let s = spec_takes others 0 65536 bytes (omega arith) h in
    record {
      value = s.spec;
      behind = s.behind;
      valid = record { document = s.document; spans = record { few = s.bound; each = s.spans } };
      spelled = s.spelled;
      ended = s.ended;
    }
field_takes fields.Specs others bytes h =
    let n = number_takes roles.CountOfSpecs 0 0 0 others 65536 Tilde bytes (omega arith) h in
    let s = specs_take others n.number 65536 n.behind (omega arith) n.ended in
    record {
      value = s.specs;
      behind = s.behind;
      valid = record { list = record { few = omega (arith, s.count_is, n.bound); each = s.are }; few_spans = s.few_spans };
      spelled = list_joined bytes n.behind (flat_map spell_spec s.specs) s.behind n.number (length s.specs) n.spelled s.spelled s.count_is;
      ended = s.ended;
    }
field_takes fields.Mode others bytes h =
    let t = choice_takes others 1 bytes h in
    let m = mode_with_number t.number t.from_one t.bound in
    record { value = m.0; behind = t.behind; valid = tt; spelled = subst (λ (k : ℕ). bytes ≡ spell_number k ++ t.behind) (sym m.1) t.spelled; ended = t.ended }
field_takes fields.Rule others bytes h =
    let t = choice_takes others 2 bytes h in
    let m = rule_with_number t.number t.from_one t.bound in
    record { value = m.0; behind = t.behind; valid = tt; spelled = subst (λ (k : ℕ). bytes ≡ spell_number k ++ t.behind) (sym m.1) t.spelled; ended = t.ended }

pub fields_take : (others : List Field) (bytes : List ℕ) → follows field_step (fields_next others) bytes → SpellsFields others bytes
fields_take [] bytes h = record { values = tt; valid = tt; spelled = h }
fields_take (field ∷ others) bytes h =
    let t = field_takes field others bytes h in
    let on = fields_take others t.behind t.ended in
    record {
      values = (t.value, on.values);
      valid = (t.valid, on.valid);
      spelled = t.spelled ∙ ap (λ (ds : List ℕ). spell_value (field_value field t.value) ++ ds) on.spelled;
    }
