-- A field that is read is the field that is spelled so, and what is spelled so is read again.
use Rattle.std.proofs.Common.{◌≡◌, ℕ, zero, suc, ◌+◌, ◌-◌, ◌*◌, ◌/◌, ◌%◌, ◌<◌, ◌≤◌, ◌⊎◌, Bool, true, false, cond, ltb, List, [], ◌∷◌, ◌++◌, length, take, drop, All, Option, Some, None, refl, sym, ap, subst, ◌∙◌, append_assoc, arith, inl, inr}
use Rattle.std.specs.Prelude.{replicate, ◌==◌, ◌||◌}
use Rattle.std.specs.Char.{is_ascii_digit}
use Rattle.std.specs.Fmt.{decimal}
use Rattle.std.proofs.lemmas.Bool.{cases_Bool, cases_lt, eqb-true, eqb-false, ne_eqb, ltb-false, lt-ltb, le-ltb, or_parts}
use Rattle.std.proofs.lemmas.Bool.Decides.{nat_tests}
use Rattle.std.proofs.lemmas.Grind.{common_steps}
use Rattle.std.proofs.lemmas.Option.{cond_some, some_pair_parts, same_Some}
use Rattle.std.proofs.lemmas.List.{take_at, drop_at, take-append-drop, length-append, length-take, length-replicate}
use Rattle.std.proofs.lemmas.List.Elements.{All-nil, All-cons, All-head, All-tail, All-append, All-drop, All-replicate}
use Rattle.std.proofs.lemmas.Fmt.{decimal_by_steps, decimal_digit, decimal_step}
use Rattle.tumbler.specs.Places.{EndsWell, IsTumbler}
use Rattle.febe_data.specs.Spelling.{spell_number, zeros_of, spell_places, spell_tumbler, spell_text}
use Rattle.febe_fields.specs.Reading.{◌>>=◌, after, digits_after, digits_at, number_at, places_at, starts_with_zero, ends_well, all_places_at, tumbler_at, text_at}

-- the value of a step that did not fail
pub bind_some : {A B : Type 0} (r : Option A) (f : A → Option B) (y : B) → (r >>= f) ≡ Some y → (x : A) × (r ≡ Some x) × (f x ≡ Some y)
bind_some (Some x) f y e = (x, refl, e)
bind_some None f y e = absurd cc

-- a test that did not fail
pub cond_none : {A : Type 0} (b : Bool) (x y : A) → cond b None (Some x) ≡ Some y → (b ≡ false) × (x ≡ y)
cond_none true x y e = absurd cc
cond_none false x y e = (refl, cc)

-- which way a test went
pub chosen : {A : Type 0} (b : Bool) (x y z : A) → cond b x y ≡ z → ((b ≡ true) × (x ≡ z)) ⊎ ((b ≡ false) × (y ≡ z))
chosen true x y z e = inl (refl, e)
chosen false x y z e = inr (refl, e)

pub after_takes : (byte : ℕ) (bytes rest : List ℕ) → after byte bytes ≡ Some rest → bytes ≡ byte ∷ rest
after_takes byte [] rest e = absurd cc
after_takes byte (b ∷ bytes) rest e = let g = cond_some (b == byte) bytes rest e in rw (eqb-true _ _ g.0, g.1) refl

-- ---- digits

next_digit : (n b : ℕ) → 0 < n → is_ascii_digit b ≡ true → n * 10 + (b - 48) < 4294967296 → decimal n ++ b ∷ [] ≡ decimal (n * 10 + (b - 48))
next_digit n b some digit small =
    let range : (48 ≤ b) × (b ≤ 57) = grind arith in
    let step = decimal_step (n * 10 + (b - 48)) (omega arith) (omega arith) in
    let top : (n * 10 + (b - 48)) / 10 ≡ n = omega arith in
    let low : 48 + (n * 10 + (b - 48)) % 10 ≡ b = omega arith in
    sym (rw (top, low) at step)

digits_after_takes : (n : ℕ) (bytes : List ℕ) (m : ℕ) (rest : List ℕ) → 0 < n → n < 4294967296 → digits_after n bytes ≡ Some (m, rest) → (decimal n ++ bytes ≡ decimal m ++ rest) × (m < 4294967296)
unfolding digits_after
digits_after_takes n [] m rest some small e = let p = some_pair_parts n m [] rest e in (rw (p.0, p.1) refl, omega arith)
digits_after_takes n (b ∷ bytes) m rest some small e =
    elim (cases_Bool (is_ascii_digit b)) [
      | inl digit ↦ elim (cases_lt (n * 10 + (b - 48)) 4294967296) [
        | inl less ↦
            let more = rw (digit, lt-ltb _ _ less) at e in
            let next = next_digit n b some digit less in
            let ih = digits_after_takes (n * 10 + (b - 48)) bytes m rest (omega arith) less more in
            (sym (append_assoc (decimal n) (b ∷ []) bytes) ∙ ap (λ (ds : List ℕ). ds ++ bytes) next ∙ ih.0, ih.1)
        | inr big ↦ absurd (cc (rw (digit, le-ltb _ _ big) at e))
      ]
      | inr other ↦ let p = some_pair_parts n m (b ∷ bytes) rest (rw other at e) in (rw (p.0, p.1) refl, omega arith)
    ]

pub digits_takes : (bytes : List ℕ) (m : ℕ) (rest : List ℕ) → digits_at bytes ≡ Some (m, rest) → (bytes ≡ decimal m ++ rest) × (m < 4294967296)
unfolding digits_at
digits_takes [] m rest e = absurd cc
digits_takes (b ∷ bytes) m rest e =
    elim (cases_Bool (b == 48)) [
      | inl is_zero ↦
          let p = some_pair_parts 0 m bytes rest (rw is_zero at e) in
          (rw (eqb-true _ _ is_zero, ← p.0, ← p.1, decimal_digit 0 (omega arith)) refl, omega arith)
      | inr other ↦ elim (cases_Bool (is_ascii_digit b)) [
        | inl digit ↦
            let range : (48 ≤ b) × (b ≤ 57) = grind arith in
            let not_zero = eqb-false _ _ other in
            let t = digits_after_takes (b - 48) bytes m rest (omega arith) (omega arith) (rw (other, digit) at e) in
            let one : decimal (b - 48) ≡ (48 + (b - 48)) ∷ [] = decimal_digit (b - 48) (omega arith) in
            let low : 48 + (b - 48) ≡ b = omega arith in
            ((rw (one, low) at t.0), t.1)
        | inr none ↦ absurd (cc (rw (other, none) at e))
      ]
    ]

one_digit : (n : ℕ) (rest : List ℕ) → n < 10 → 0 < n → digits_at ((48 + n) ∷ rest) ≡ digits_after n rest
unfolding digits_at
one_digit n rest small some =
    let first : (48 + n == 48) ≡ false = ne_eqb _ _ (λ e. omega arith) in
    let digit : is_ascii_digit (48 + n) ≡ true = grind (arith, nat_tests) in
    let same : 48 + n - 48 ≡ n = omega arith in
    rw (first, digit, same) refl

more_digits : (n : ℕ) (rest : List ℕ) → 10 ≤ n → n < 4294967296 → digits_after (n / 10) ((48 + n % 10) ∷ rest) ≡ digits_after n rest
unfolding digits_after
more_digits n rest big small =
    let digit : is_ascii_digit (48 + n % 10) ≡ true = grind (arith, nat_tests) in
    let same : n / 10 * 10 + (48 + n % 10 - 48) ≡ n = omega arith in
    rw (digit, same, lt-ltb _ _ small) refl

digits_go_on : (n : ℕ) → 0 < n → n < 4294967296 → (rest : List ℕ) → digits_at (decimal n ++ rest) ≡ digits_after n rest
digits_go_on n some small =
    decimal_by_steps (λ n ds. 0 < n → n < 4294967296 → (rest : List ℕ) → digits_at (ds ++ rest) ≡ digits_after n rest)
    (λ n one some small rest. one_digit n rest one some)
    (λ n ds big below some small rest.
    ap digits_at (append_assoc ds ((48 + n % 10) ∷ []) rest) ∙ below (omega arith) (omega arith) ((48 + n % 10) ∷ rest) ∙ more_digits n rest big small)
    n (omega arith) some small

-- the digits end here
abbrev pub Stops : List ℕ → Type 0
Stops rest = (n : ℕ) → digits_after n rest ≡ Some (n, rest)

pub stops : (b : ℕ) (rest : List ℕ) → is_ascii_digit b ≡ false → Stops (b ∷ rest)
unfolding digits_after
stops b rest other n = rw other refl

zero_again : (rest : List ℕ) → digits_at (48 ∷ rest) ≡ Some (0, rest)
unfolding digits_at
zero_again rest = refl

pub digits_again : (n : ℕ) (rest : List ℕ) → n < 4294967296 → Stops rest → digits_at (decimal n ++ rest) ≡ Some (n, rest)
digits_again zero rest small stop = ap (λ (ds : List ℕ). digits_at (ds ++ rest)) (decimal_digit 0 (omega arith)) ∙ zero_again rest
digits_again (suc n) rest small stop = digits_go_on (suc n) (omega arith) small rest ∙ stop (suc n)

-- ---- numbers

number_joined : (bytes : List ℕ) (a : ℕ) (mid : List ℕ) (n : ℕ) (b rest : List ℕ) → bytes ≡ decimal a ++ mid → mid ≡ 126 ∷ b → a ≡ n → b ≡ rest → bytes ≡ spell_number n ++ rest
number_joined bytes a mid n b rest e f g h = e ∙ rw (f, g, h) (sym (append_assoc (decimal n) (126 ∷ []) rest))

pub number_takes : (bytes : List ℕ) (n : ℕ) (rest : List ℕ) → number_at bytes ≡ Some (n, rest) → (bytes ≡ spell_number n ++ rest) × (n < 4294967296)
unfolding number_at
number_takes bytes n rest e =
    let a = bind_some (digits_at bytes) (λ n. after 126 n.1 >>= λ rest. Some (n.0, rest)) (n, rest) e in
    let b = bind_some (after 126 a.0.1) (λ rest. Some (a.0.0, rest)) (n, rest) a.2 in
    let p = some_pair_parts a.0.0 n b.0 rest b.2 in
    let t = digits_takes bytes a.0.0 a.0.1 a.1 in
    (number_joined bytes a.0.0 a.0.1 n b.0 rest t.0 (after_takes 126 a.0.1 b.0 b.1) p.0 p.1, omega (arith, t.1, p.0))

pub number_again : (n : ℕ) (rest : List ℕ) → n < 4294967296 → number_at (spell_number n ++ rest) ≡ Some (n, rest)
unfolding number_at
number_again n rest small =
    ap number_at (append_assoc (decimal n) (126 ∷ []) rest) ∙ rw (digits_again n (126 ∷ rest) small (stops 126 rest refl)) refl

-- ---- texts

text_joined : (bytes first : List ℕ) (n : ℕ) (mid inner text rest : List ℕ) → bytes ≡ 116 ∷ first → first ≡ decimal n ++ mid → mid ≡ 58 ∷ inner → n ≤ length inner → n ≤ 16777216
    → take n inner ≡ text → drop n inner ≡ rest → (bytes ≡ spell_text text ++ rest) × (length text ≤ 16777216)
text_joined bytes first n mid inner text rest e f g long short text-is rest-is =
    let len : length text ≡ n = rw (← text-is) (omega (arith, length-take n inner)) in
    let parts : inner ≡ text ++ rest = rw (← text-is, ← rest-is) (sym (take-append-drop n inner)) in
    let whole : bytes ≡ 116 ∷ (decimal (length text) ++ 58 ∷ (text ++ rest)) = e ∙ rw (f, g, parts, len) refl in
    (whole ∙ ap (λ (ds : List ℕ). 116 ∷ ds) (sym (append_assoc (decimal (length text) ++ 58 ∷ []) text rest ∙ append_assoc (decimal (length text)) (58 ∷ []) (text ++ rest))), omega arith)

pub text_takes : (bytes text rest : List ℕ) → text_at bytes ≡ Some (text, rest) → (bytes ≡ spell_text text ++ rest) × (length text ≤ 16777216)
unfolding text_at
text_takes bytes text rest e =
    let a = bind_some (after 116 bytes >>= digits_at) (λ len. after 58 len.1 >>= λ rest. cond (ltb 16777216 len.0 || ltb (length rest) len.0) None (Some (take len.0 rest, drop len.0 rest))) (text, rest) e in
    let b = bind_some (after 58 a.0.1) (λ rest. cond (ltb 16777216 a.0.0 || ltb (length rest) a.0.0) None (Some (take a.0.0 rest, drop a.0.0 rest))) (text, rest) a.2 in
    let first = bind_some (after 116 bytes) digits_at a.0 a.1 in
    let g = cond_none (ltb 16777216 a.0.0 || ltb (length b.0) a.0.0) (take a.0.0 b.0, drop a.0.0 b.0) (text, rest) b.2 in
    let tests = or_parts _ _ g.0 in
    let short = ltb-false _ _ tests.0 in
    let long = ltb-false _ _ tests.1 in
    let t = digits_takes first.0 a.0.0 a.0.1 first.2 in
    text_joined bytes first.0 a.0.0 a.0.1 b.0 text rest (after_takes 116 bytes first.0 first.1) t.0 (after_takes 58 a.0.1 b.0 b.1) long short (ap (λ (p : List ℕ × List ℕ). p.0) g.1) (ap (λ (p : List ℕ × List ℕ). p.1) g.1)

pub text_again : (text rest : List ℕ) → length text ≤ 16777216 → text_at (spell_text text ++ rest) ≡ Some (text, rest)
unfolding text_at
text_again text rest small =
    let regrouped : spell_text text ++ rest ≡ 116 ∷ (decimal (length text) ++ 58 ∷ (text ++ rest)) =
    ap (λ (ds : List ℕ). 116 ∷ ds) (append_assoc (decimal (length text) ++ 58 ∷ []) text rest ∙ append_assoc (decimal (length text)) (58 ∷ []) (text ++ rest)) in
    let short : ltb 16777216 (length text) ≡ false = le-ltb _ _ small in
    let long : ltb (length (text ++ rest)) (length text) ≡ false = le-ltb _ _ (omega (arith, length-append text rest)) in
    ap text_at regrouped ∙ rw (digits_again (length text) (58 ∷ (text ++ rest)) (omega arith) (stops 58 (text ++ rest) refl), short, long, take_at text rest (length text) refl, drop_at text rest (length text) refl) refl

-- ---- tumblers

place_joined : (b : ℕ) (bytes : List ℕ) (n : ℕ) (mid places rest : List ℕ) → b ≡ 46 → bytes ≡ decimal n ++ mid → mid ≡ spell_places places ++ rest → b ∷ bytes ≡ spell_places (n ∷ places) ++ rest
place_joined b bytes n mid places rest e f g = rw (e, f, g) (ap (λ (ds : List ℕ). 46 ∷ ds) (sym (append_assoc (decimal n) (spell_places places) rest)))

places_take : (room : ℕ) (bytes places rest : List ℕ) → places_at room bytes ≡ Some (places, rest) → (bytes ≡ spell_places places ++ rest) × (length places ≤ room) × All (λ p. p < 4294967296) places
unfolding places_at
places_take zero bytes places rest e = let p = some_pair_parts [] places bytes rest e in rw (← p.0, ← p.1) (refl, omega arith, All-nil (λ p. p < 4294967296))
places_take (suc room) [] places rest e = let p = some_pair_parts [] places [] rest e in rw (← p.0, ← p.1) (refl, omega arith, All-nil (λ p. p < 4294967296))
places_take (suc room) (b ∷ bytes) places rest e =
    elim (chosen (b == 46) (digits_at bytes >>= λ first. places_at room first.1 >>= λ others. Some (first.0 ∷ others.0, others.1)) (Some ([], b ∷ bytes)) (Some (places, rest)) e) [
      | inl dot ↦
          let a = bind_some (digits_at bytes) (λ first. places_at room first.1 >>= λ others. Some (first.0 ∷ others.0, others.1)) (places, rest) dot.1 in
          let c = bind_some (places_at room a.0.1) (λ others. Some (a.0.0 ∷ others.0, others.1)) (places, rest) a.2 in
          let t = digits_takes bytes a.0.0 a.0.1 a.1 in
          let ih = places_take room a.0.1 c.0.0 c.0.1 c.1 in
          let whole : b ∷ bytes ≡ spell_places (a.0.0 ∷ c.0.0) ++ c.0.1 = place_joined b bytes a.0.0 a.0.1 c.0.0 c.0.1 (eqb-true _ _ dot.0) t.0 ih.0 in
          let made : List ℕ × List ℕ = (a.0.0 ∷ c.0.0, c.0.1) in
          let given : List ℕ × List ℕ = (places, rest) in
          subst (λ (p : List ℕ × List ℕ). (b ∷ bytes ≡ spell_places p.0 ++ p.1) × (length p.0 ≤ suc room) × All (λ p. p < 4294967296) p.0) (same_Some made given c.2) (whole, omega (arith, ih.1), All-cons (λ p. p < 4294967296) a.0.0 c.0.0 t.1 ih.2)
      | inr none ↦ let p = some_pair_parts [] places (b ∷ bytes) rest none.1 in rw (← p.0, ← p.1) (refl, omega arith, All-nil (λ p. p < 4294967296))
    ]

places_stop : (places rest : List ℕ) → Stops (spell_places places ++ 126 ∷ rest)
places_stop [] rest = stops 126 rest refl
places_stop (p ∷ places) rest = stops 46 ((decimal p ++ spell_places places) ++ 126 ∷ rest) refl

places_again : (places : List ℕ) (room : ℕ) (rest : List ℕ) → length places ≤ room → All (λ p. p < 4294967296) places → places_at room (spell_places places ++ 126 ∷ rest) ≡ Some (places, 126 ∷ rest)
unfolding places_at
places_again [] zero rest few small = refl
places_again [] (suc room) rest few small = refl
places_again (p ∷ places) zero rest few small = absurd (omega arith)
places_again (p ∷ places) (suc room) rest few small =
    let regrouped : spell_places (p ∷ places) ++ 126 ∷ rest ≡ 46 ∷ (decimal p ++ (spell_places places ++ 126 ∷ rest)) = ap (λ (ds : List ℕ). 46 ∷ ds) (append_assoc (decimal p) (spell_places places) (126 ∷ rest)) in
    ap (places_at (suc room)) regrouped ∙ rw (digits_again p (spell_places places ++ 126 ∷ rest) (All-head (λ p. p < 4294967296) p places small) (places_stop places rest), places_again places room rest (omega arith) (All-tail (λ p. p < 4294967296) p places small)) refl

zeros_of_none : (places : List ℕ) → starts_with_zero places ≡ false → zeros_of places ≡ 0
zeros_of_none [] e = refl
zeros_of_none (zero ∷ places) e = absurd cc
zeros_of_none (suc p ∷ places) e = refl

zeros_of_some : (n : ℕ) (places : List ℕ) → starts_with_zero places ≡ false → zeros_of (replicate n 0 ++ places) ≡ n
zeros_of_some zero places e = zeros_of_none places e
zeros_of_some (suc n) places e = ap suc (zeros_of_some n places e)

pub zeros_split : (places : List ℕ) → places ≡ replicate (zeros_of places) 0 ++ drop (zeros_of places) places
zeros_split [] = refl
zeros_split (zero ∷ places) = ap (λ (ps : List ℕ). 0 ∷ ps) (zeros_split places)
zeros_split (suc p ∷ places) = refl

pub zeros_few : (places : List ℕ) → zeros_of places ≤ length places
zeros_few [] = omega arith
zeros_few (zero ∷ places) = omega (arith, zeros_few places)
zeros_few (suc p ∷ places) = omega arith

pub zeros_end : (places : List ℕ) → starts_with_zero (drop (zeros_of places) places) ≡ false
zeros_end [] = refl
zeros_end (zero ∷ places) = zeros_end places
zeros_end (suc p ∷ places) = ne_eqb (suc p) 0 (λ e. omega arith)

ends_well_is : (places : List ℕ) → ends_well places ≡ true → EndsWell places
ends_well_is places e last = grind (arith, nat_tests)

pub ends_well_from : (places : List ℕ) → EndsWell places → ends_well places ≡ true
ends_well_from places e = grind (arith, nat_tests)

-- what a count of zeros and the written places spell
pub record Written (bytes places rest : List ℕ) : Type 0 where
  pub zeros : ℕ
  pub written : List ℕ
  pub spelled : bytes ≡ decimal zeros ++ (spell_places written ++ rest)
  pub is : places ≡ replicate zeros 0 ++ written
  pub full : starts_with_zero written ≡ false
  pub few : zeros + length written ≤ 24
  pub small : All (λ p. p < 4294967296) written

all_places_take : (bytes places rest : List ℕ) → all_places_at bytes ≡ Some (places, rest) → Written bytes places rest
unfolding all_places_at
all_places_take bytes places rest e =
    let a = bind_some (digits_at bytes) (λ zeros. cond (ltb 24 zeros.0) None (places_at (24 - zeros.0) zeros.1) >>= λ written. cond (starts_with_zero written.0) None (Some (replicate zeros.0 0 ++ written.0, written.1))) (places, rest) e in
    let b = bind_some (cond (ltb 24 a.0.0) None (places_at (24 - a.0.0) a.0.1)) (λ written. cond (starts_with_zero written.0) None (Some (replicate a.0.0 0 ++ written.0, written.1))) (places, rest) a.2 in
    let g = cond_none (starts_with_zero b.0.0) (replicate a.0.0 0 ++ b.0.0, b.0.1) (places, rest) b.2 in
    let t = digits_takes bytes a.0.0 a.0.1 a.1 in
    elim (chosen (ltb 24 a.0.0) None (places_at (24 - a.0.0) a.0.1) (Some b.0) b.1) [
      | inl over ↦ absurd (cc over.1)
      | inr within ↦
          let ps = places_take (24 - a.0.0) a.0.1 b.0.0 b.0.1 within.1 in
          let room = ltb-false _ _ within.0 in
          record {
            zeros = a.0.0;
            written = b.0.0;
            spelled = t.0 ∙ ap (λ (ds : List ℕ). decimal a.0.0 ++ ds) (ps.0 ∙ ap (λ (ds : List ℕ). spell_places b.0.0 ++ ds) (ap (λ (p : List ℕ × List ℕ). p.1) g.1));
            is = sym (ap (λ (p : List ℕ × List ℕ). p.0) g.1);
            full = g.0;
            few = omega (arith, ps.1);
            small = ps.2;
          }
    ]

pub tumbler_joined : (bytes places mid rest : List ℕ) → Written bytes places mid → mid ≡ 126 ∷ rest → ends_well places ≡ true → (bytes ≡ spell_tumbler places ++ rest) × IsTumbler places
tumbler_joined bytes places mid rest w tilde ends =
    let count : zeros_of places ≡ w.zeros = ap zeros_of w.is ∙ zeros_of_some w.zeros w.written w.full in
    let others : drop (zeros_of places) places ≡ w.written = rw count (ap (λ (ps : List ℕ). drop w.zeros ps) w.is ∙ drop_at (replicate w.zeros 0) w.written w.zeros (length-replicate w.zeros 0)) in
    let spelled : bytes ≡ spell_tumbler places ++ rest = w.spelled ∙ rw (others, count, tilde) (sym (append_assoc (decimal w.zeros ++ spell_places w.written) (126 ∷ []) rest ∙ append_assoc (decimal w.zeros) (spell_places w.written) (126 ∷ rest))) in (
      spelled,
      record {
        few = omega (arith, w.few, ap length w.is, length-append (replicate {A = ℕ} w.zeros 0) w.written, length-replicate {A = ℕ} w.zeros 0);
        small = subst (λ (ps : List ℕ). All (λ p. p < 4294967296) ps) (sym w.is) (All-append (λ p. p < 4294967296) (replicate w.zeros 0) w.written (All-replicate (λ p. p < 4294967296) w.zeros 0 (omega arith)) w.small);
        ends = ends_well_is places ends;
      },
    )

pub tumbler_takes : (bytes places rest : List ℕ) → tumbler_at bytes ≡ Some (places, rest) → (bytes ≡ spell_tumbler places ++ rest) × IsTumbler places
unfolding tumbler_at
tumbler_takes bytes places rest e =
    let a = bind_some (all_places_at bytes) (λ places. after 126 places.1 >>= λ rest. cond (ends_well places.0) (Some (places.0, rest)) None) (places, rest) e in
    let b = bind_some (after 126 a.0.1) (λ rest. cond (ends_well a.0.0) (Some (a.0.0, rest)) None) (places, rest) a.2 in
    let g = cond_some (ends_well a.0.0) (a.0.0, b.0) (places, rest) b.2 in
    let w = all_places_take bytes a.0.0 a.0.1 a.1 in
    subst (λ (p : List ℕ × List ℕ). (bytes ≡ spell_tumbler p.0 ++ p.1) × IsTumbler p.0) g.1 (tumbler_joined bytes a.0.0 a.0.1 b.0 w (after_takes 126 a.0.1 b.0 b.1) g.0)

pub tumbler_again : (places rest : List ℕ) → IsTumbler places → tumbler_at (spell_tumbler places ++ rest) ≡ Some (places, rest)
unfolding tumbler_at all_places_at
tumbler_again places rest h =
    let n = zeros_of places in
    let written = drop n places in
    let few = zeros_few places in
    let is = zeros_split places in
    let regrouped : spell_tumbler places ++ rest ≡ decimal n ++ (spell_places written ++ 126 ∷ rest) = append_assoc (decimal n ++ spell_places written) (126 ∷ []) rest ∙ append_assoc (decimal n) (spell_places written) (126 ∷ rest) in
    let within : ltb 24 n ≡ false = le-ltb _ _ (omega (arith, h.few)) in
    let count : length written ≤ 24 - n = grind (arith, common_steps, h.few) in
    let ends : ends_well places ≡ true = ends_well_from places h.ends in
    ap tumbler_at regrouped ∙ rw (digits_again n (spell_places written ++ 126 ∷ rest) (omega (arith, h.few)) (places_stop written rest), within, places_again written (24 - n) rest count (All-drop (λ p. p < 4294967296) n places h.small), zeros_end places, ← is, ends) refl
