-- Numbers within a reply, byte by byte: what is taken is the spelling of a right number, and each such spelling is taken.
use Rattle.std.proofs.Common.{◌≡◌, ℕ, zero, suc, ◌+◌, ◌-◌, ◌*◌, ◌/◌, ◌%◌, ◌<◌, ◌≤◌, true, false, List, [], ◌∷◌, ◌++◌, refl, sym, ap, subst, ◌∙◌, append_assoc, arith, inl, inr}
use Rattle.std.specs.Prelude.{◌==◌}
use Rattle.std.specs.Char.{is_ascii_digit}
use Rattle.std.specs.Fmt.{decimal}
use Rattle.std.proofs.lemmas.Bool.{cases_Bool, cases_lt, eqb-true, eqb-false, ne_eqb, lt-ltb, le-ltb}
use Rattle.std.proofs.lemmas.Bool.Decides.{nat_tests}
use Rattle.std.proofs.lemmas.Fmt.{decimal_by_steps, decimal_digit}
use Rattle.febe_fields.specs.Fields.{takes, follows}
use Rattle.febe_fields.proofs.Scans.{takes_some, takes_one, one_taken}
use Rattle.febe_fields.proofs.NumberScans.{next_digit}
use Rattle.febe_fields.proofs.TumblerScans.{is_digit, one_digit_is}
use Rattle.febe_reply.specs.declared.scan.NumberRole.{NumberRole}
use Rattle.febe_reply.specs.declared.scan.NumberRole.TheVariants.{Refusal, Items, Diagonals, Left, Right, Length}
use Rattle.febe_reply.specs.inside.ReplyMachine.{at_number, at_zero, in_number, most_of, may_be_zero, number_ended, reply_step}

most_small : (role : NumberRole) → most_of role < 4294967296
most_small Refusal = omega arith
most_small Items = omega arith
most_small Diagonals = omega arith
most_small (Left more) = omega arith
most_small (Right more) = omega arith
most_small (Length more) = omega arith

-- 1 is always such a number
pub most_some : (role : NumberRole) → 1 ≤ most_of role
most_some Refusal = omega arith
most_some Items = omega arith
most_some Diagonals = omega arith
most_some (Left more) = omega arith
most_some (Right more) = omega arith
most_some (Length more) = omega arith

zero_spelled : (b c : ℕ) (bytes : List ℕ) → b ≡ 48 → c ≡ 126 → b ∷ c ∷ bytes ≡ decimal 0 ++ 126 ∷ bytes
zero_spelled b c bytes e f = rw (e, f, decimal_digit 0 (omega arith)) refl

digit_joined : (b n : ℕ) (input behind : List ℕ) → 48 ≤ b → b ≤ 57 → decimal (b - 48) ++ input ≡ decimal n ++ 126 ∷ behind → b ∷ input ≡ decimal n ++ 126 ∷ behind
digit_joined b n input behind low high e = ap (λ (ds : List ℕ). ds ++ input) (sym (one_digit_is b low high)) ∙ e

module _ (role : NumberRole) where
  -- a right number and its tilde, in front of what comes behind
  pub record TakesCount (bytes : List ℕ) : Type 0 where
    pub number : ℕ
    pub behind : List ℕ
    pub bound : number ≤ most_of role
    pub some : may_be_zero role ≡ false → 1 ≤ number
    pub spelled : bytes ≡ decimal number ++ 126 ∷ behind
    pub ended : follows reply_step (number_ended role number) behind

  digits_take : (n : ℕ) (bytes : List ℕ) → 0 < n → n ≤ most_of role → takes reply_step (in_number n role) bytes → TakesCount (decimal n ++ bytes)
  digits_take n [] some small h = absurd (takes_some reply_step (in_number n role) h)
  digits_take n (b ∷ bytes) some small h =
      let f = takes_one reply_step (in_number n role) b bytes h in
      let word = most_small role in
      elim (cases_Bool (is_ascii_digit b)) [
        | inl digit ↦ elim (cases_lt (most_of role) (n * 10 + (b - 48))) [
          | inl over ↦ absurd (rw (digit, lt-ltb _ _ over) at f)
          | inr within ↦
              let more : takes reply_step (in_number (n * 10 + (b - 48)) role) bytes = rw (digit, le-ltb _ _ within) at f in
              let ih = digits_take (n * 10 + (b - 48)) bytes (omega arith) within more in
              record {
                number = ih.number;
                behind = ih.behind;
                bound = ih.bound;
                some = ih.some;
                spelled = sym (append_assoc (decimal n) (b ∷ []) bytes) ∙ ap (λ (ds : List ℕ). ds ++ bytes) (next_digit n b some digit (omega (arith, within, word))) ∙ ih.spelled;
                ended = ih.ended;
              }
        ]
        | inr other ↦ elim (cases_Bool (b == 126)) [
          | inl is ↦ record {
            number = n;
            behind = bytes;
            bound = small;
            some = λ e. omega (arith, some);
            spelled = ap (λ (c : ℕ). decimal n ++ c ∷ bytes) (eqb-true _ _ is);
            ended = rw (other, is) at f;
          }
          | inr neither ↦ absurd (rw (other, neither) at f)
        ]
      ]

  zero_takes : (b : ℕ) (bytes : List ℕ) → b ≡ 48 → may_be_zero role ≡ true → takes reply_step (at_zero role) bytes → TakesCount (b ∷ bytes)
  zero_takes b [] is may h = absurd (takes_some reply_step (at_zero role) h)
  zero_takes b (c ∷ bytes) is may h =
      let f = takes_one reply_step (at_zero role) c bytes h in
      elim (cases_Bool (c == 126)) [
        | inl tilde ↦ record {
          number = 0;
          behind = bytes;
          bound = omega arith;
          some = λ e. absurd (cc (sym may ∙ e));
          spelled = zero_spelled b c bytes is (eqb-true _ _ tilde);
          ended = rw tilde at f;
        }
        | inr other ↦ absurd (rw other at f)
      ]

  pub count_takes : (bytes : List ℕ) → takes reply_step (at_number role) bytes → TakesCount bytes
  count_takes [] h = absurd (takes_some reply_step (at_number role) h)
  count_takes (b ∷ bytes) h =
      let f = takes_one reply_step (at_number role) b bytes h in
      elim (cases_Bool (b == 48)) [
        | inl is_zero ↦ elim (cases_Bool (may_be_zero role)) [
          | inl may ↦ zero_takes b bytes (eqb-true _ _ is_zero) may (rw (is_zero, may) at f)
          | inr never ↦ absurd (rw (is_zero, never) at f)
        ]
        | inr other ↦ elim (cases_Bool (is_ascii_digit b)) [
          | inl digit ↦
              let range = is_digit b digit in
              let not_zero = eqb-false _ _ other in
              let one : 0 * 10 + (b - 48) ≡ b - 48 = omega arith in
              elim (cases_lt (most_of role) (b - 48)) [
                | inl over ↦ absurd (rw (other, digit, one, lt-ltb _ _ over) at f)
                | inr within ↦
                    let more : takes reply_step (in_number (b - 48) role) bytes = rw (other, digit, one, le-ltb _ _ within) at f in
                    let t = digits_take (b - 48) bytes (omega (arith, range.0, not_zero)) within more in
                    record {
                      number = t.number;
                      behind = t.behind;
                      bound = t.bound;
                      some = t.some;
                      spelled = digit_joined b t.number bytes t.behind range.0 range.1 t.spelled;
                      ended = t.ended;
                    }
              ]
          | inr none ↦ absurd (rw (other, none) at f)
        ]
      ]

  first_digit_again : (n : ℕ) (behind : List ℕ) → n < 10 → 0 < n → n ≤ most_of role → takes reply_step (in_number n role) behind → takes reply_step (at_number role) ((48 + n) ∷ behind)
  first_digit_again n behind one some small h =
      let other : (48 + n == 48) ≡ false = ne_eqb _ _ (λ e. omega arith) in
      let digit : is_ascii_digit (48 + n) ≡ true = grind (arith, nat_tests) in
      let same : 0 * 10 + (48 + n - 48) ≡ n = omega arith in
      one_taken reply_step (at_number role) (48 + n) behind (rw (other, digit, same, le-ltb _ _ small) h)

  more_digits_again : (n : ℕ) (behind : List ℕ) → 10 ≤ n → n ≤ most_of role → takes reply_step (in_number n role) behind → takes reply_step (in_number (n / 10) role) ((48 + n % 10) ∷ behind)
  more_digits_again n behind big small h =
      let digit : is_ascii_digit (48 + n % 10) ≡ true = grind (arith, nat_tests) in
      let same : n / 10 * 10 + (48 + n % 10 - 48) ≡ n = omega arith in
      one_taken reply_step (in_number (n / 10) role) (48 + n % 10) behind (rw (digit, same, le-ltb _ _ small) h)

  digits_again : (n : ℕ) → 0 < n → n ≤ most_of role → (behind : List ℕ) → takes reply_step (in_number n role) behind → takes reply_step (at_number role) (decimal n ++ behind)
  digits_again n some small =
      decimal_by_steps (λ n ds. 0 < n → n ≤ most_of role → (behind : List ℕ) → takes reply_step (in_number n role) behind → takes reply_step (at_number role) (ds ++ behind))
      (λ n one some small behind h. first_digit_again n behind one some small h)
      (λ n ds big below some small behind h.
      subst (takes reply_step (at_number role)) (sym (append_assoc ds ((48 + n % 10) ∷ []) behind)) (below (omega arith) (omega arith) ((48 + n % 10) ∷ behind) (more_digits_again n behind big small h)))
      n (omega (arith, small, most_small role)) some small

  zero_again : (behind : List ℕ) → may_be_zero role ≡ true → follows reply_step (number_ended role 0) behind → takes reply_step (at_number role) (decimal 0 ++ 126 ∷ behind)
  zero_again behind may h =
      let tilde : takes reply_step (at_zero role) (126 ∷ behind) = one_taken reply_step (at_zero role) 126 behind h in
      subst (λ (ds : List ℕ). takes reply_step (at_number role) (ds ++ 126 ∷ behind)) (sym (decimal_digit 0 (omega arith))) (one_taken reply_step (at_number role) 48 (126 ∷ behind) (rw may tilde))

  -- each right number is taken
  pub count_again : (n : ℕ) (behind : List ℕ) → n ≤ most_of role → (may_be_zero role ≡ false → 1 ≤ n) → follows reply_step (number_ended role n) behind → takes reply_step (at_number role) (decimal n ++ 126 ∷ behind)
  count_again zero behind small some h =
      elim (cases_Bool (may_be_zero role)) [
        | inl may ↦ zero_again behind may h
        | inr never ↦ absurd (omega (arith, some never))
      ]
  count_again (suc n) behind small some h = digits_again (suc n) (omega arith) small (126 ∷ behind) (one_taken reply_step (in_number (suc n) role) 126 behind h)
