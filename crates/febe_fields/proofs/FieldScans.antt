-- Fields, byte by byte: what is taken is the spelling of right values.
use Rattle.std.proofs.Common.{◌≡◌, ℕ, zero, suc, ◌+◌, ◌-◌, ◌*◌, ◌<◌, ◌≤◌, List, [], ◌∷◌, ◌++◌, length, All, refl, sym, ap, subst, ◌∙◌, append_assoc, arith, inl, inr}
use Rattle.std.specs.Prelude.{◌==◌}
use Rattle.std.specs.List.{flat_map}
use Rattle.std.specs.Char.{is_ascii_digit}
use Rattle.std.specs.Fmt.{decimal}
use Rattle.std.proofs.lemmas.Bool.{cases_Bool, cases_lt, eqb-true, eqb-false, lt-ltb, le-ltb}
use Rattle.std.proofs.lemmas.List.Sums.{sum_by-cons}
use Rattle.std.proofs.lemmas.List.Elements.{All-nil, All-cons, All-head, All-tail}
use Rattle.tumbler.specs.declared.span.Span.{Span}
use Rattle.tumbler.specs.Places.{IsTumbler}
use Rattle.febe_data.specs.Plain.{PlainSpec}
use Rattle.febe_data.specs.Spelling.{spell_number, spell_tumbler, spell_text, spell_span, spell_spec, spell_list}
use Rattle.febe_data.specs.Validity.{IsText, IsSpan, IsSpec, spans_in_all}
use Rattle.febe_fields.specs.declared.leaf.Terminator.TheVariants.{Tilde, Colon}
use Rattle.febe_fields.specs.declared.leaf.Leaf.TheVariants.{Byte, ZeroCount, Text, Choice}
use Rattle.febe_fields.specs.declared.scanner.Field.{Field}
use Rattle.febe_fields.specs.declared.scanner.Role.TheVariants as roles
use Rattle.febe_fields.specs.Machine.{field_step, fields_next, what_next}
use Rattle.febe_fields.specs.Fields.{takes, follows}
use Rattle.febe_fields.proofs.Scans.{takes_some}
use Rattle.febe_fields.proofs.NumberScans.{at_leaf, step_taken, byte_takes, number_takes}
use Rattle.febe_fields.proofs.TumblerScans.{is_digit, one_digit_is, tumbler_takes}

-- ---- texts

module _ (tumblers specs room : ℕ) (fields : List Field) where
  -- bytes in front of what comes behind
  pub record TakesBytes (count : ℕ) (bytes : List ℕ) : Type 0 where
    pub text : List ℕ
    pub behind : List ℕ
    pub count_is : length text ≡ count
    pub are_bytes : All (λ b. b < 256) text
    pub spelled : bytes ≡ text ++ behind
    pub ended : follows field_step (what_next tumblers specs room fields) behind

  bytes_take : (more : ℕ) (bytes : List ℕ) → takes field_step (at_leaf roles.Value tumblers specs room fields (Text more)) bytes → TakesBytes (suc more) bytes
  bytes_take more [] h = absurd (takes_some field_step (at_leaf roles.Value tumblers specs room fields (Text more)) h)
  bytes_take more (b ∷ bytes) h =
      let f = step_taken roles.Value tumblers specs room fields (Text more) b bytes h in
      elim (cases_lt b 256) [
        | inl byte ↦ elim (cases_Bool (more == 0)) [
          | inl last ↦ record {
            text = b ∷ [];
            behind = bytes;
            count_is = ap suc (sym (eqb-true _ _ last));
            are_bytes = All-cons (λ b. b < 256) b [] byte (All-nil (λ b. b < 256));
            spelled = refl;
            ended = rw (lt-ltb _ _ byte, last) at f;
          }
          | inr on ↦
              let more_left = eqb-false _ _ on in
              let t = bytes_take (more - 1) bytes (rw (lt-ltb _ _ byte, on) at f) in
              record {
                text = b ∷ t.text;
                behind = t.behind;
                count_is = omega (arith, t.count_is, more_left);
                are_bytes = All-cons (λ b. b < 256) b t.text byte t.are_bytes;
                spelled = ap (λ (ds : List ℕ). b ∷ ds) t.spelled;
                ended = t.ended;
              }
        ]
        | inr over ↦ absurd (rw (le-ltb _ _ over) at f)
      ]

  pub record TakesText (bytes : List ℕ) : Type 0 where
    pub text : List ℕ
    pub behind : List ℕ
    pub is : IsText text
    pub spelled : bytes ≡ spell_text text ++ behind
    pub ended : follows field_step (what_next tumblers specs room fields) behind

  text_joined : (bytes first mid text behind : List ℕ) (n : ℕ) → bytes ≡ 116 ∷ first → first ≡ decimal n ++ 58 ∷ mid → mid ≡ text ++ behind → length text ≡ n → bytes ≡ spell_text text ++ behind
  text_joined bytes first mid text behind n e f g len = e ∙ rw (f, g, ← len)
      (sym (ap (λ (ds : List ℕ). 116 ∷ ds) (append_assoc (decimal (length text) ++ 58 ∷ []) text behind ∙ append_assoc (decimal (length text)) (58 ∷ []) (text ++ behind))))

  pub text_takes : (bytes : List ℕ) → takes field_step (at_leaf roles.TextMark tumblers specs room fields (Byte 116)) bytes → TakesText bytes
  text_takes bytes h =
      let mark = byte_takes roles.TextMark tumblers specs room fields 116 bytes h in
      let n = number_takes roles.TextLength tumblers specs room fields 16777216 Colon mark.0 (omega arith) mark.2 in
      elim (cases_Bool (n.number == 0)) [
        | inl none ↦ record {
          text = [];
          behind = n.behind;
          is = record { short = omega arith; bytes = All-nil (λ b. b < 256) };
          spelled = text_joined bytes mark.0 n.behind [] n.behind n.number mark.1 n.spelled refl (sym (eqb-true _ _ none));
          ended = rw none at n.ended;
        }
        | inr some ↦
            let left = eqb-false _ _ some in
            let t = bytes_take (n.number - 1) n.behind (rw some at n.ended) in
            let len : length t.text ≡ n.number = omega (arith, t.count_is, left) in
            record {
              text = t.text;
              behind = t.behind;
              is = record { short = omega (arith, len, n.bound); bytes = t.are_bytes };
              spelled = text_joined bytes mark.0 n.behind t.text t.behind n.number mark.1 n.spelled t.spelled len;
              ended = t.ended;
            }
      ]

-- ---- lists of tumblers and of spans

module _ (specs room : ℕ) (fields : List Field) where
  pub record TakesTumblers (count : ℕ) (bytes : List ℕ) : Type 0 where
    pub tumblers : List (List ℕ)
    pub behind : List ℕ
    pub count_is : length tumblers ≡ count
    pub are : All IsTumbler tumblers
    pub spelled : bytes ≡ flat_map spell_tumbler tumblers ++ behind
    pub ended : follows field_step (what_next 0 specs room fields) behind

  pub tumblers_take : (count : ℕ) (bytes : List ℕ) → follows field_step (what_next count specs room fields) bytes → TakesTumblers count bytes
  tumblers_take zero bytes h = record { tumblers = []; behind = bytes; count_is = refl; are = All-nil IsTumbler; spelled = refl; ended = h }
  tumblers_take (suc n) bytes h =
      let one : suc n - 1 ≡ n = omega arith in
      let some : 0 < suc n = omega arith in
      let t = tumbler_takes roles.Value n specs room fields bytes (rw (lt-ltb 0 (suc n) some, one) at h) in
      let on = tumblers_take n t.behind t.ended in
      record {
        tumblers = t.places ∷ on.tumblers;
        behind = on.behind;
        count_is = ap suc on.count_is;
        are = All-cons IsTumbler t.places on.tumblers t.is on.are;
        spelled = t.spelled ∙ ap (λ (ds : List ℕ). spell_tumbler t.places ++ ds) on.spelled ∙ sym (append_assoc (spell_tumbler t.places) (flat_map spell_tumbler on.tumblers) on.behind);
        ended = on.ended;
      }

  pub record TakesSpans (count : ℕ) (bytes : List ℕ) : Type 0 where
    pub spans : List Span
    pub behind : List ℕ
    pub count_is : length spans ≡ count
    pub are : All IsSpan spans
    pub spelled : bytes ≡ flat_map spell_span spans ++ behind
    pub ended : follows field_step (what_next 0 specs room fields) behind

-- tumblers, two by two
record Pairs (count : ℕ) (tumblers : List (List ℕ)) : Type 0 where
  spans : List Span
  count_is : length spans ≡ count
  are : All IsSpan spans
  spelled : flat_map spell_tumbler tumblers ≡ flat_map spell_span spans

paired : (count : ℕ) (tumblers : List (List ℕ)) → length tumblers ≡ count * 2 → All IsTumbler tumblers → Pairs count tumblers
paired zero [] len are = record { spans = []; count_is = refl; are = All-nil IsSpan; spelled = refl }
paired zero (a ∷ tumblers) len are = absurd (omega arith)
paired (suc n) [] len are = absurd (omega arith)
paired (suc n) (a ∷ []) len are = absurd (omega arith)
paired (suc n) (a ∷ b ∷ tumblers) len are =
    let more = All-tail IsTumbler a (b ∷ tumblers) are in
    let on = paired n tumblers (omega arith) (All-tail IsTumbler b tumblers more) in
    let span : Span = record { start = a; width = b } in
    record {
      spans = span ∷ on.spans;
      count_is = ap suc on.count_is;
      are = All-cons IsSpan span on.spans (record { start = All-head IsTumbler a (b ∷ tumblers) are; width = All-head IsTumbler b tumblers more }) on.are;
      spelled = ap (λ (ds : List ℕ). spell_tumbler a ++ (spell_tumbler b ++ ds)) on.spelled ∙ sym (append_assoc (spell_tumbler a) (spell_tumbler b) (flat_map spell_span on.spans));
    }

pub spans_take : (specs room : ℕ) (fields : List Field) (count : ℕ) (bytes : List ℕ) → follows field_step (what_next (count * 2) specs room fields) bytes → TakesSpans specs room fields count bytes
spans_take specs room fields count bytes h =
    let t = tumblers_take specs room fields (count * 2) bytes h in
    let p = paired count t.tumblers t.count_is t.are in
    record { spans = p.spans; behind = t.behind; count_is = p.count_is; are = p.are; spelled = t.spelled ∙ ap (λ (ds : List ℕ). ds ++ t.behind) p.spelled; ended = t.ended }

-- ---- spec sets

pub spans_counted : (spec : PlainSpec) (specs : List PlainSpec) → spans_in_all (spec ∷ specs) ≡ length spec.spans + spans_in_all specs
spans_counted spec specs = sum_by-cons (λ (spec : PlainSpec). length spec.spans) spec specs

spans_fit : (spec : PlainSpec) (specs : List PlainSpec) (room : ℕ) → length spec.spans ≤ room → spans_in_all specs ≤ room - length spec.spans → spans_in_all (spec ∷ specs) ≤ room
spans_fit spec specs room few more = omega (arith, spans_counted spec specs, few, more)

module _ (fields : List Field) where
  -- a spec, and what is left of its set
  pub record TakesSpec (specs room : ℕ) (bytes : List ℕ) : Type 0 where
    pub spec : PlainSpec
    pub behind : List ℕ
    pub document : IsTumbler spec.document
    pub spans : All IsSpan spec.spans
    pub bound : length spec.spans ≤ room
    pub spelled : bytes ≡ spell_spec spec ++ behind
    pub ended : follows field_step (what_next 0 specs (room - length spec.spans) fields) behind

  spec_joined : (bytes document after mid behind : List ℕ) (n : ℕ) (spans : List Span) → bytes ≡ spell_tumbler document ++ after → after ≡ decimal n ++ 126 ∷ mid → mid ≡ flat_map spell_span spans ++ behind → length spans ≡ n
      → bytes ≡ spell_spec (record { document = document; spans = spans }) ++ behind
  spec_joined bytes document after mid behind n spans e f g len = e ∙ ap (λ (ds : List ℕ). spell_tumbler document ++ ds)
      (f ∙ rw (g, ← len) (sym (append_assoc (decimal (length spans) ++ 126 ∷ []) (flat_map spell_span spans) behind ∙ append_assoc (decimal (length spans)) (126 ∷ []) (flat_map spell_span spans ++ behind))))
      ∙ sym (append_assoc (spell_tumbler document) (spell_list spell_span spans) behind)

  pub spec_takes : (specs room : ℕ) (bytes : List ℕ) → room < 4294967296 → takes field_step (at_leaf roles.Document 0 specs room fields ZeroCount) bytes → TakesSpec specs room bytes
  spec_takes specs room bytes word h =
      let t = tumbler_takes roles.Document 0 specs room fields bytes h in
      let n = number_takes roles.CountOfSpecSpans 0 specs room fields room Tilde t.behind word t.ended in
      let s = spans_take specs (room - n.number) fields n.number n.behind n.ended in
      record {
        spec = record { document = t.places; spans = s.spans };
        behind = s.behind;
        document = t.is;
        spans = s.are;
        bound = omega (arith, s.count_is, n.bound);
        spelled = spec_joined bytes t.places t.behind n.behind s.behind n.number s.spans t.spelled n.spelled s.spelled s.count_is;
        ended = subst (λ (k : ℕ). follows field_step (what_next 0 specs (room - k) fields) s.behind) (sym s.count_is) s.ended;
      }

  pub record TakesSpecs (count room : ℕ) (bytes : List ℕ) : Type 0 where
    pub specs : List PlainSpec
    pub behind : List ℕ
    pub count_is : length specs ≡ count
    pub are : All IsSpec specs
    pub few_spans : spans_in_all specs ≤ room
    pub spelled : bytes ≡ flat_map spell_spec specs ++ behind
    pub ended : follows field_step (fields_next fields) behind

  pub specs_take : (count room : ℕ) (bytes : List ℕ) → room ≤ 65536 → follows field_step (what_next 0 count room fields) bytes → TakesSpecs count room bytes
  specs_take zero room bytes small h = record { specs = []; behind = bytes; count_is = refl; are = All-nil IsSpec; few_spans = omega arith; spelled = refl; ended = h }
  specs_take (suc n) room bytes small h =
      let one : suc n - 1 ≡ n = omega arith in
      let some : 0 < suc n = omega arith in
      let t = spec_takes n room bytes (omega (arith, small)) (rw (lt-ltb 0 (suc n) some, one) at h) in
      let on = specs_take n (room - length t.spec.spans) t.behind (omega (arith, small)) t.ended in
      record {
        specs = t.spec ∷ on.specs;
        behind = on.behind;
        count_is = ap suc on.count_is;
        are = All-cons IsSpec t.spec on.specs (record { document = t.document; spans = record { few = omega (arith, t.bound, small); each = t.spans } }) on.are;
        few_spans = spans_fit t.spec on.specs room t.bound on.few_spans;
        spelled = t.spelled ∙ ap (λ (ds : List ℕ). spell_spec t.spec ++ ds) on.spelled ∙ sym (append_assoc (spell_spec t.spec) (flat_map spell_spec on.specs) on.behind);
        ended = on.ended;
      }

-- ---- modes and rules

module _ (fields : List Field) where
  -- a number from 1 on, in front of what comes behind
  pub record TakesChoice (more : ℕ) (bytes : List ℕ) : Type 0 where
    pub number : ℕ
    pub behind : List ℕ
    pub from_one : 1 ≤ number
    pub bound : number ≤ more + 1
    pub spelled : bytes ≡ spell_number number ++ behind
    pub ended : follows field_step (fields_next fields) behind

  choice_joined : (b : ℕ) (bytes behind : List ℕ) → 48 ≤ b → b ≤ 57 → bytes ≡ 126 ∷ behind → b ∷ bytes ≡ spell_number (b - 48) ++ behind
  choice_joined b bytes behind low high e = rw (e, one_digit_is b low high) refl

  pub choice_takes : (more : ℕ) (bytes : List ℕ) → takes field_step (at_leaf roles.Value 0 0 0 fields (Choice more)) bytes → TakesChoice more bytes
  choice_takes more [] h = absurd (takes_some field_step (at_leaf roles.Value 0 0 0 fields (Choice more)) h)
  choice_takes more (b ∷ bytes) h =
      let f = step_taken roles.Value 0 0 0 fields (Choice more) b bytes h in
      elim (cases_Bool (is_ascii_digit b)) [
        | inl digit ↦ elim (cases_lt 48 b) [
          | inl some ↦ elim (cases_lt more (b - 49)) [
            | inl over ↦ absurd (rw (digit, lt-ltb _ _ some, lt-ltb _ _ over) at f)
            | inr within ↦
                let range = is_digit b digit in
                let t = byte_takes roles.Value 0 0 0 fields 126 bytes (rw (digit, lt-ltb _ _ some, le-ltb _ _ within) at f) in
                record {
                  number = b - 48;
                  behind = t.0;
                  from_one = omega (arith, some);
                  bound = omega (arith, some, within);
                  spelled = choice_joined b bytes t.0 range.0 range.1 t.1;
                  ended = t.2;
                }
          ]
          | inr none ↦ absurd (rw (digit, le-ltb _ _ none) at f)
        ]
        | inr other ↦ absurd (rw other at f)
      ]
