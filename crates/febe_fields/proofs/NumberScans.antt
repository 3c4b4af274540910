-- Numbers, byte by byte: what is taken is the spelling of a number up to its bound, and each such spelling is taken.
use Rattle.std.proofs.Common.{◌≡◌, ℕ, zero, suc, ◌+◌, ◌-◌, ◌*◌, ◌/◌, ◌%◌, ◌<◌, ◌≤◌, true, false, List, [], ◌∷◌, ◌++◌, refl, sym, ap, subst, ◌∙◌, append_assoc, arith, inl, inr}
use Rattle.std.specs.Prelude.{◌==◌}
use Rattle.std.specs.Char.{is_ascii_digit}
use Rattle.std.specs.Fmt.{decimal}
use Rattle.std.proofs.lemmas.Bool.{cases_Bool, cases_lt, eqb-true, eqb-false, ne_eqb, eq-eqb, lt-ltb, le-ltb}
use Rattle.std.proofs.lemmas.Bool.Decides.{nat_tests}
use Rattle.std.proofs.lemmas.Fmt.{decimal_by_steps, decimal_digit, decimal_step}
use Rattle.febe_fields.specs.declared.leaf.Terminator.{Terminator}
use Rattle.febe_fields.specs.declared.leaf.Terminator.TheVariants as terminators
use Rattle.febe_fields.specs.declared.leaf.Leaf.{Leaf}
use Rattle.febe_fields.specs.declared.leaf.Leaf.TheVariants.{Byte, First, Digits}
use Rattle.febe_fields.specs.declared.scanner.Field.{Field}
use Rattle.febe_fields.specs.declared.scanner.Role.{Role}
use Rattle.febe_fields.specs.Machine.{State, role_ended, field_step}
use Rattle.febe_fields.specs.Leaves.{terminator_byte}
use Rattle.febe_fields.proofs.Scans.{takes_some, takes_one, one_taken}
use Rattle.febe_fields.specs.Fields.{takes, follows}

pub next_digit : (n b : ℕ) → 0 < n → is_ascii_digit b ≡ true → n * 10 + (b - 48) < 4294967296 → decimal n ++ b ∷ [] ≡ decimal (n * 10 + (b - 48))
next_digit n b some digit small =
    let range : (48 ≤ b) × (b ≤ 57) = grind arith in
    let step = decimal_step (n * 10 + (b - 48)) (omega arith) (omega arith) in
    let top : (n * 10 + (b - 48)) / 10 ≡ n = omega arith in
    let low : 48 + (n * 10 + (b - 48)) % 10 ≡ b = omega arith in
    sym (rw (top, low) at step)

zero_spelled : (b end : ℕ) (bytes behind : List ℕ) → b ≡ 48 → bytes ≡ end ∷ behind → b ∷ bytes ≡ decimal 0 ++ end ∷ behind
zero_spelled b end bytes behind e f = rw (e, f, decimal_digit 0 (omega arith)) refl

module _ (role : Role) (tumblers specs room : ℕ) (fields : List Field) where
  -- a leaf with these behind it
  abbrev pub at_leaf : Leaf → State
  at_leaf leaf = record { leaf = leaf; role = role; tumblers = tumblers; specs = specs; room = room; fields = fields }

  -- what comes behind a leaf that ends with a number
  abbrev pub behind_leaf : ℕ → List ℕ → Type 0
  behind_leaf n bytes = follows field_step (role_ended role n tumblers specs room fields) bytes

  pub step_taken : (leaf : Leaf) (b : ℕ) (bytes : List ℕ) → takes field_step (at_leaf leaf) (b ∷ bytes) → follows field_step (field_step (at_leaf leaf) b) bytes
  step_taken leaf b bytes h = takes_one field_step (at_leaf leaf) b bytes h

  pub taken_step : (leaf : Leaf) (b : ℕ) (bytes : List ℕ) → follows field_step (field_step (at_leaf leaf) b) bytes → takes field_step (at_leaf leaf) (b ∷ bytes)
  taken_step leaf b bytes h = one_taken field_step (at_leaf leaf) b bytes h

  -- ---- one byte

  pub byte_takes : (wanted : ℕ) (bytes : List ℕ) → takes field_step (at_leaf (Byte wanted)) bytes → (behind : List ℕ) × (bytes ≡ wanted ∷ behind) × behind_leaf 0 behind
  byte_takes wanted [] h = absurd (takes_some field_step (at_leaf (Byte wanted)) h)
  byte_takes wanted (b ∷ bytes) h =
      elim (cases_Bool (b == wanted)) [
        | inl is ↦ (bytes, ap (λ (c : ℕ). c ∷ bytes) (eqb-true _ _ is), rw is at (step_taken (Byte wanted) b bytes h))
        | inr other ↦ absurd (rw other at (step_taken (Byte wanted) b bytes h))
      ]

  pub byte_again : (wanted : ℕ) (behind : List ℕ) → behind_leaf 0 behind → takes field_step (at_leaf (Byte wanted)) (wanted ∷ behind)
  byte_again wanted behind h = taken_step (Byte wanted) wanted behind (rw (eq-eqb wanted wanted refl) h)

  -- ---- numbers

  -- a number and the byte that ends it, in front of what comes behind
  pub record TakesNumber (most : ℕ) (end : Terminator) (bytes : List ℕ) : Type 0 where
    pub number : ℕ
    pub behind : List ℕ
    pub bound : number ≤ most
    pub spelled : bytes ≡ decimal number ++ terminator_byte end ∷ behind
    pub ended : behind_leaf number behind

  digits_take : (n most : ℕ) (end : Terminator) (bytes : List ℕ) → most < 4294967296 → 0 < n → n ≤ most → takes field_step (at_leaf (Digits n most end)) bytes → TakesNumber most end (decimal n ++ bytes)
  digits_take n most end [] word some small h = absurd (takes_some field_step (at_leaf (Digits n most end)) h)
  digits_take n most end (b ∷ bytes) word some small h =
      let f = step_taken (Digits n most end) b bytes h in
      elim (cases_Bool (is_ascii_digit b)) [
        | inl digit ↦ elim (cases_lt most (n * 10 + (b - 48))) [
          | inl over ↦ absurd (rw (digit, lt-ltb _ _ over) at f)
          | inr within ↦
              let more : takes field_step (at_leaf (Digits (n * 10 + (b - 48)) most end)) bytes = rw (digit, le-ltb _ _ within) at f in
              let ih = digits_take (n * 10 + (b - 48)) most end bytes word (omega arith) within more in
              record {
                number = ih.number;
                behind = ih.behind;
                bound = ih.bound;
                spelled = sym (append_assoc (decimal n) (b ∷ []) bytes) ∙ ap (λ (ds : List ℕ). ds ++ bytes) (next_digit n b some digit (omega arith)) ∙ ih.spelled;
                ended = ih.ended;
              }
        ]
        | inr other ↦ elim (cases_Bool (b == terminator_byte end)) [
          | inl is ↦ record {
            number = n;
            behind = bytes;
            bound = small;
            spelled = ap (λ (c : ℕ). decimal n ++ c ∷ bytes) (eqb-true _ _ is);
            ended = rw (other, is) at f;
          }
          | inr neither ↦ absurd (rw (other, neither) at f)
        ]
      ]

  pub number_takes : (most : ℕ) (end : Terminator) (bytes : List ℕ) → most < 4294967296 → takes field_step (at_leaf (First most end)) bytes → TakesNumber most end bytes
  number_takes most end [] word h = absurd (takes_some field_step (at_leaf (First most end)) h)
  number_takes most end (b ∷ bytes) word h =
      let f = step_taken (First most end) b bytes h in
      elim (cases_Bool (b == 48)) [
        | inl is_zero ↦
            let ended = byte_takes (terminator_byte end) bytes (rw is_zero at f) in
            record {
              number = 0;
              behind = ended.0;
              bound = omega arith;
              spelled = zero_spelled b (terminator_byte end) bytes ended.0 (eqb-true _ _ is_zero) ended.1;
              ended = ended.2;
            }
        | inr other ↦ elim (cases_Bool (is_ascii_digit b)) [
          | inl digit ↦
              let range : (48 ≤ b) × (b ≤ 57) = grind arith in
              let not_zero = eqb-false _ _ other in
              elim (cases_lt most (0 * 10 + (b - 48))) [
                | inl over ↦ absurd (rw (other, digit, lt-ltb _ _ over) at f)
                | inr within ↦
                    let more : takes field_step (at_leaf (Digits (0 * 10 + (b - 48)) most end)) bytes = rw (other, digit, le-ltb _ _ within) at f in
                    let t = digits_take (0 * 10 + (b - 48)) most end bytes word (omega arith) within more in
                    let one : decimal (0 * 10 + (b - 48)) ≡ (48 + (0 * 10 + (b - 48))) ∷ [] = decimal_digit (0 * 10 + (b - 48)) (omega arith) in
                    let low : 48 + (0 * 10 + (b - 48)) ≡ b = omega arith in
                    let is : decimal (0 * 10 + (b - 48)) ≡ b ∷ [] = one ∙ ap (λ (c : ℕ). c ∷ []) low in
                    record {
                      number = t.number;
                      behind = t.behind;
                      bound = t.bound;
                      spelled = ap (λ (ds : List ℕ). ds ++ bytes) (sym is) ∙ t.spelled;
                      ended = t.ended;
                    }
              ]
          | inr none ↦ absurd (rw (other, none) at f)
        ]
      ]

  first_digit_again : (n most : ℕ) (end : Terminator) (behind : List ℕ) → n < 10 → 0 < n → n ≤ most → takes field_step (at_leaf (Digits n most end)) behind → takes field_step (at_leaf (First most end)) ((48 + n) ∷ behind)
  first_digit_again n most end behind one some small h =
      let other : (48 + n == 48) ≡ false = ne_eqb _ _ (λ e. omega arith) in
      let digit : is_ascii_digit (48 + n) ≡ true = grind (arith, nat_tests) in
      let same : 0 * 10 + (48 + n - 48) ≡ n = omega arith in
      taken_step (First most end) (48 + n) behind (rw (other, digit, same, le-ltb _ _ small) h)

  more_digits_again : (n most : ℕ) (end : Terminator) (behind : List ℕ) → 10 ≤ n → n ≤ most → takes field_step (at_leaf (Digits n most end)) behind → takes field_step (at_leaf (Digits (n / 10) most end)) ((48 + n % 10) ∷ behind)
  more_digits_again n most end behind big small h =
      let digit : is_ascii_digit (48 + n % 10) ≡ true = grind (arith, nat_tests) in
      let same : n / 10 * 10 + (48 + n % 10 - 48) ≡ n = omega arith in
      taken_step (Digits (n / 10) most end) (48 + n % 10) behind (rw (digit, same, le-ltb _ _ small) h)

  digits_again : (n most : ℕ) (end : Terminator) → 0 < n → n ≤ most → most < 4294967296 → (behind : List ℕ) → takes field_step (at_leaf (Digits n most end)) behind → takes field_step (at_leaf (First most end)) (decimal n ++ behind)
  digits_again n most end some small word =
      decimal_by_steps (λ n ds. 0 < n → n ≤ most → (behind : List ℕ) → takes field_step (at_leaf (Digits n most end)) behind → takes field_step (at_leaf (First most end)) (ds ++ behind))
      (λ n one some small behind h. first_digit_again n most end behind one some small h)
      (λ n ds big below some small behind h.
      subst (takes field_step (at_leaf (First most end))) (sym (append_assoc ds ((48 + n % 10) ∷ []) behind)) (below (omega arith) (omega arith) ((48 + n % 10) ∷ behind) (more_digits_again n most end behind big small h)))
      n (omega arith) some small

  digits_end_again : (n most : ℕ) (end : Terminator) (behind : List ℕ) → behind_leaf n behind → takes field_step (at_leaf (Digits n most end)) (terminator_byte end ∷ behind)
  digits_end_again n most terminators.Tilde behind h = taken_step (Digits n most terminators.Tilde) 126 behind h
  digits_end_again n most terminators.Colon behind h = taken_step (Digits n most terminators.Colon) 58 behind h

  -- each number up to the bound is taken
  pub number_again : (n most : ℕ) (end : Terminator) (behind : List ℕ) → n ≤ most → most < 4294967296 → behind_leaf n behind → takes field_step (at_leaf (First most end)) (decimal n ++ terminator_byte end ∷ behind)
  number_again zero most end behind small word h = subst (λ (ds : List ℕ). takes field_step (at_leaf (First most end)) (ds ++ terminator_byte end ∷ behind)) (sym (decimal_digit 0 (omega arith))) (taken_step (First most end) 48 (terminator_byte end ∷ behind) (byte_again (terminator_byte end) behind h))
  number_again (suc n) most end behind small word h = digits_again (suc n) most end (omega arith) small word (terminator_byte end ∷ behind) (digits_end_again (suc n) most end behind h)
