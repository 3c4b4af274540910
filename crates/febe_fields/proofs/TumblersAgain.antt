-- Each spelling of a tumbler is taken, byte by byte.
use Rattle.std.proofs.Common.{◌≡◌, ℕ, zero, suc, ◌+◌, ◌-◌, ◌*◌, ◌/◌, ◌%◌, ◌<◌, ◌≤◌, true, false, List, [], ◌∷◌, ◌++◌, length, drop, All, refl, sym, ap, subst, ◌∙◌, append_assoc, arith}
use Rattle.std.specs.Prelude.{replicate, ◌==◌}
use Rattle.std.specs.Char.{is_ascii_digit}
use Rattle.std.specs.Fmt.{decimal}
use Rattle.std.proofs.lemmas.Bool.{ne_eqb, le-ltb}
use Rattle.std.proofs.lemmas.Bool.Decides.{nat_tests}
use Rattle.std.proofs.lemmas.List.{append-nil, length-append, length-replicate, get_or-append-add}
use Rattle.std.proofs.lemmas.List.Elements.{All-head, All-tail, All-drop}
use Rattle.std.proofs.lemmas.Fmt.{decimal_by_steps, decimal_digit}
use Rattle.tumbler.specs.Places.{place, EndsWell, IsTumbler}
use Rattle.febe_data.specs.Spelling.{zeros_of, spell_places, spell_tumbler}
use Rattle.febe_fields.specs.declared.leaf.Leaf.{Leaf}
use Rattle.febe_fields.specs.declared.leaf.Leaf.TheVariants.{ZeroCount, NoZeros, Zeros, FirstPlace, NextPlace, ZeroPlace, Place}
use Rattle.febe_fields.specs.declared.scanner.Field.{Field}
use Rattle.febe_fields.specs.declared.scanner.Role.{Role}
use Rattle.febe_fields.specs.Machine.{field_step}
use Rattle.febe_fields.specs.Reading.{starts_with_zero}
use Rattle.febe_fields.proofs.FieldLaws.{zeros_split, zeros_end}
use Rattle.febe_fields.specs.Fields.{takes}
use Rattle.febe_fields.proofs.NumberScans.{at_leaf, behind_leaf, taken_step}
use Rattle.febe_fields.proofs.TumblerScans.{LastIsSome}

last_from : (p : ℕ) (places : List ℕ) → 0 < place (p ∷ places) (length places) → LastIsSome p places
last_from p [] h = h
last_from p (q ∷ places) h = last_from q places h

last_is_some : (prefix : List ℕ) (p : ℕ) (places : List ℕ) → EndsWell (prefix ++ p ∷ places) → LastIsSome p places
last_is_some prefix p places ends =
    let k : length (prefix ++ p ∷ places) - 1 ≡ length prefix + length places = omega (arith, length-append prefix (p ∷ places)) in
    let at : place (prefix ++ p ∷ places) (length (prefix ++ p ∷ places) - 1) ≡ place (p ∷ places) (length places) = rw (k, get_or-append-add prefix (p ∷ places) (length places) 0) refl in
    last_from p places (not_zero (place (p ∷ places) (length places)) (λ e. omega (arith, ends (at ∙ e), length-append prefix (p ∷ places)))) where
      not_zero : (n : ℕ) → (n ≡ 0 → ⊥) → 0 < n
      not_zero zero h = absurd (h refl)
      not_zero (suc n) h = omega arith

full_start : (p : ℕ) (places : List ℕ) → starts_with_zero (p ∷ places) ≡ false → 0 < p
full_start zero places e = absurd cc
full_start (suc p) places e = omega arith

module _ (role : Role) (tumblers specs room : ℕ) (fields : List Field) where
  abbrev Takes : Leaf → List ℕ → Type 0
  Takes leaf bytes = takes field_step (at_leaf role tumblers specs room fields leaf) bytes

  -- ---- one number's digits

  first_digit : (n more : ℕ) (behind : List ℕ) → n < 10 → 0 < n → Takes (Place n more) behind → Takes (FirstPlace more) ((48 + n) ∷ behind)
  first_digit n more behind one some h =
      let other : (48 + n == 48) ≡ false = ne_eqb _ _ (λ e. omega arith) in
      let digit : is_ascii_digit (48 + n) ≡ true = grind (arith, nat_tests) in
      let same : 48 + n - 48 ≡ n = omega arith in
      taken_step role tumblers specs room fields (FirstPlace more) (48 + n) behind (rw (other, digit, same) h)

  next_digit_first : (n more : ℕ) (behind : List ℕ) → n < 10 → 0 < n → Takes (Place n more) behind → Takes (NextPlace more) ((48 + n) ∷ behind)
  next_digit_first n more behind one some h =
      let other : (48 + n == 48) ≡ false = ne_eqb _ _ (λ e. omega arith) in
      let digit : is_ascii_digit (48 + n) ≡ true = grind (arith, nat_tests) in
      let same : 48 + n - 48 ≡ n = omega arith in
      taken_step role tumblers specs room fields (NextPlace more) (48 + n) behind (rw (other, digit, same) h)

  count_first : (n : ℕ) (behind : List ℕ) → n < 10 → 0 < n → Takes (Zeros n) behind → Takes ZeroCount ((48 + n) ∷ behind)
  count_first n behind one some h =
      let other : (48 + n == 48) ≡ false = ne_eqb _ _ (λ e. omega arith) in
      let digit : is_ascii_digit (48 + n) ≡ true = grind (arith, nat_tests) in
      let same : 48 + n - 48 ≡ n = omega arith in
      taken_step role tumblers specs room fields ZeroCount (48 + n) behind (rw (other, digit, same) h)

  more_digits : (n more : ℕ) (behind : List ℕ) → 10 ≤ n → n < 4294967296 → Takes (Place n more) behind → Takes (Place (n / 10) more) ((48 + n % 10) ∷ behind)
  more_digits n more behind big small h =
      let digit : is_ascii_digit (48 + n % 10) ≡ true = grind (arith, nat_tests) in
      let same : n / 10 * 10 + (48 + n % 10 - 48) ≡ n = omega arith in
      let bound : n ≤ 4294967295 = omega arith in
      taken_step role tumblers specs room fields (Place (n / 10) more) (48 + n % 10) behind (rw (digit, same, le-ltb _ _ bound) h)

  more_count : (n : ℕ) (behind : List ℕ) → 10 ≤ n → n ≤ 23 → Takes (Zeros n) behind → Takes (Zeros (n / 10)) ((48 + n % 10) ∷ behind)
  more_count n behind big small h =
      let digit : is_ascii_digit (48 + n % 10) ≡ true = grind (arith, nat_tests) in
      let same : n / 10 * 10 + (48 + n % 10 - 48) ≡ n = omega arith in
      taken_step role tumblers specs room fields (Zeros (n / 10)) (48 + n % 10) behind (rw (digit, same, le-ltb _ _ small) h)

  -- the digits of a place, from the leaf at which it begins
  place_digits : (begins : Leaf) (more : ℕ) → ((n : ℕ) (behind : List ℕ) → n < 10 → 0 < n → Takes (Place n more) behind → Takes begins ((48 + n) ∷ behind))
      → (n : ℕ) → 0 < n → n < 4294967296 → (behind : List ℕ) → Takes (Place n more) behind → Takes begins (decimal n ++ behind)
  place_digits begins more first n some small =
      decimal_by_steps (λ n ds. 0 < n → n < 4294967296 → (behind : List ℕ) → Takes (Place n more) behind → Takes begins (ds ++ behind))
      (λ n one some small behind h. first n behind one some h)
      (λ n ds big below some small behind h.
      subst (Takes begins) (sym (append_assoc ds ((48 + n % 10) ∷ []) behind)) (below (omega arith) (omega arith) ((48 + n % 10) ∷ behind) (more_digits n more behind big small h)))
      n (omega arith) some small

  count_digits : (n : ℕ) → 0 < n → n ≤ 23 → (behind : List ℕ) → Takes (Zeros n) behind → Takes ZeroCount (decimal n ++ behind)
  count_digits n some small =
      decimal_by_steps (λ n ds. 0 < n → n ≤ 23 → (behind : List ℕ) → Takes (Zeros n) behind → Takes ZeroCount (ds ++ behind))
      (λ n one some small behind h. count_first n behind one some h)
      (λ n ds big below some small behind h.
      subst (Takes ZeroCount) (sym (append_assoc ds ((48 + n % 10) ∷ []) behind)) (below (omega arith) (omega arith) ((48 + n % 10) ∷ behind) (more_count n behind big small h)))
      n (omega arith) some small

  -- ---- places

  module _ (behind : List ℕ) (ended : behind_leaf role tumblers specs room fields 0 behind) where
    -- a dot and the next place
    dot_again : (n more q : ℕ) (places : List ℕ) → suc (length places) ≤ more → Takes (NextPlace (more - 1)) (decimal q ++ (spell_places places ++ 126 ∷ behind)) → Takes (Place n more) (spell_places (q ∷ places) ++ 126 ∷ behind)
    dot_again n more q places few h =
        let left : (more == 0) ≡ false = ne_eqb _ _ (λ e. omega arith) in
        let regrouped : 46 ∷ (decimal q ++ (spell_places places ++ 126 ∷ behind)) ≡ spell_places (q ∷ places) ++ 126 ∷ behind = ap (λ (ds : List ℕ). 46 ∷ ds) (sym (append_assoc (decimal q) (spell_places places) (126 ∷ behind))) in
        subst (Takes (Place n more)) regrouped (taken_step role tumblers specs room fields (Place n more) 46 (decimal q ++ (spell_places places ++ 126 ∷ behind)) (rw left h))

    zero_again : (more q : ℕ) (places : List ℕ) → suc (length places) ≤ more → Takes (NextPlace (more - 1)) (decimal q ++ (spell_places places ++ 126 ∷ behind)) → Takes (NextPlace more) (decimal 0 ++ (spell_places (q ∷ places) ++ 126 ∷ behind))
    zero_again more q places few h =
        let left : (more == 0) ≡ false = ne_eqb _ _ (λ e. omega arith) in
        let dot : Takes (ZeroPlace (more - 1)) (46 ∷ (decimal q ++ (spell_places places ++ 126 ∷ behind))) = taken_step role tumblers specs room fields (ZeroPlace (more - 1)) 46 (decimal q ++ (spell_places places ++ 126 ∷ behind)) h in
        let digit : Takes (NextPlace more) (48 ∷ 46 ∷ (decimal q ++ (spell_places places ++ 126 ∷ behind))) = taken_step role tumblers specs room fields (NextPlace more) 48 (46 ∷ (decimal q ++ (spell_places places ++ 126 ∷ behind))) (rw left dot) in
        let regrouped : 48 ∷ 46 ∷ (decimal q ++ (spell_places places ++ 126 ∷ behind)) ≡ decimal 0 ++ (spell_places (q ∷ places) ++ 126 ∷ behind) =
        rw (decimal_digit 0 (omega arith)) (ap (λ (ds : List ℕ). 48 ∷ 46 ∷ ds) (sym (append_assoc (decimal q) (spell_places places) (126 ∷ behind)))) in
        subst (Takes (NextPlace more)) regrouped digit

    tilde_again : (n more : ℕ) → Takes (Place n more) (126 ∷ behind)
    tilde_again n more = taken_step role tumblers specs room fields (Place n more) 126 behind ended

    next_again : (p : ℕ) (places : List ℕ) (more : ℕ) → length places ≤ more → p < 4294967296 → All (λ p. p < 4294967296) places → LastIsSome p places → Takes (NextPlace more) (decimal p ++ (spell_places places ++ 126 ∷ behind))
    next_again p [] more few small smalls last = place_digits (NextPlace more) more (λ n bytes one some h. next_digit_first n more bytes one some h) p last small (126 ∷ behind) (tilde_again p more)
    next_again zero (q ∷ places) more few small smalls last =
        zero_again more q places few (next_again q places (more - 1) (omega arith) (All-head (λ p. p < 4294967296) q places smalls) (All-tail (λ p. p < 4294967296) q places smalls) last)
    next_again (suc p) (q ∷ places) more few small smalls last =
        let on = next_again q places (more - 1) (omega arith) (All-head (λ p. p < 4294967296) q places smalls) (All-tail (λ p. p < 4294967296) q places smalls) last in
        place_digits (NextPlace more) more (λ n bytes one some h. next_digit_first n more bytes one some h) (suc p) (omega arith) small (spell_places (q ∷ places) ++ 126 ∷ behind) (dot_again (suc p) more q places few on)

    others_again : (p : ℕ) (places : List ℕ) (more : ℕ) → length places ≤ more → All (λ p. p < 4294967296) places → LastIsSome p places → Takes (Place p more) (spell_places places ++ 126 ∷ behind)
    others_again p [] more few smalls last = tilde_again p more
    others_again p (q ∷ places) more few smalls last =
        dot_again p more q places few (next_again q places (more - 1) (omega arith) (All-head (λ p. p < 4294967296) q places smalls) (All-tail (λ p. p < 4294967296) q places smalls) last)

    -- the written places, from the first on
    first_again : (p : ℕ) (places : List ℕ) (more : ℕ) → length places ≤ more → 0 < p → p < 4294967296 → All (λ p. p < 4294967296) places → LastIsSome p places → Takes (FirstPlace more) (decimal p ++ (spell_places places ++ 126 ∷ behind))
    first_again p places more few some small smalls last =
        place_digits (FirstPlace more) more (λ n bytes one some h. first_digit n more bytes one some h) p some small (spell_places places ++ 126 ∷ behind) (others_again p places more few smalls last)

    -- a count of zeros and the dot behind it
    count_again : (count : ℕ) (bytes : List ℕ) → count ≤ 23 → Takes (FirstPlace (23 - count)) bytes → Takes ZeroCount (decimal count ++ 46 ∷ bytes)
    count_again zero bytes small h =
        subst (λ (ds : List ℕ). Takes ZeroCount (ds ++ 46 ∷ bytes)) (sym (decimal_digit 0 (omega arith)))
        (taken_step role tumblers specs room fields ZeroCount 48 (46 ∷ bytes) (taken_step role tumblers specs room fields NoZeros 46 bytes h))
    count_again (suc n) bytes small h = count_digits (suc n) (omega arith) small (46 ∷ bytes) (taken_step role tumblers specs room fields (Zeros (suc n)) 46 bytes h)

    written_again : (count p : ℕ) (places : List ℕ) → count + suc (length places) ≤ 24 → 0 < p → p < 4294967296 → All (λ p. p < 4294967296) places → LastIsSome p places → Takes ZeroCount (decimal count ++ (spell_places (p ∷ places) ++ 126 ∷ behind))
    written_again count p places few some small smalls last =
        let on = first_again p places (23 - count) (omega arith) some small smalls last in
        let regrouped : decimal count ++ 46 ∷ (decimal p ++ (spell_places places ++ 126 ∷ behind)) ≡ decimal count ++ (spell_places (p ∷ places) ++ 126 ∷ behind) =
        ap (λ (ds : List ℕ). decimal count ++ 46 ∷ ds) (sym (append_assoc (decimal p) (spell_places places) (126 ∷ behind))) in
        subst (Takes ZeroCount) regrouped (count_again count (decimal p ++ (spell_places places ++ 126 ∷ behind)) (omega arith) on)

    no_place_again : Takes ZeroCount (decimal 0 ++ (spell_places [] ++ 126 ∷ behind))
    no_place_again =
        subst (λ (ds : List ℕ). Takes ZeroCount (ds ++ 126 ∷ behind)) (sym (decimal_digit 0 (omega arith)))
        (taken_step role tumblers specs room fields ZeroCount 48 (126 ∷ behind) (taken_step role tumblers specs room fields NoZeros 126 behind ended))

    split_again : (places : List ℕ) (count : ℕ) (written : List ℕ) → places ≡ replicate count 0 ++ written → starts_with_zero written ≡ false → IsTumbler places → All (λ p. p < 4294967296) written → Takes ZeroCount (decimal count ++ (spell_places written ++ 126 ∷ behind))
    split_again places zero [] is full h smalls = no_place_again
    split_again places (suc n) [] is full h smalls = absurd (omega (arith, only_zeros n (subst EndsWell (is ∙ append-nil (replicate (suc n) 0)) h.ends))) where
      at_zero : (n : ℕ) → place (replicate (suc n) 0) n ≡ 0
      at_zero zero = refl
      at_zero (suc n) = at_zero n

      only_zeros : (n : ℕ) → EndsWell (replicate (suc n) 0) → suc n ≡ 0
      only_zeros n ends =
          let len : length (replicate {A = ℕ} (suc n) 0) ≡ suc n = length-replicate {A = ℕ} (suc n) 0 in
          let k : length (replicate {A = ℕ} (suc n) 0) - 1 ≡ n = omega (arith, len) in
          sym len ∙ ends (rw k (at_zero n))
    split_again places count (p ∷ written) is full h smalls =
        let few : count + suc (length written) ≤ 24 = omega (arith, h.few, ap length is, length-append (replicate {A = ℕ} count 0) (p ∷ written), length-replicate {A = ℕ} count 0) in
        written_again count p written few (full_start p written full) (All-head (λ p. p < 4294967296) p written smalls) (All-tail (λ p. p < 4294967296) p written smalls) (last_is_some (replicate count 0) p written (subst EndsWell is h.ends))

    -- each tumbler is taken
    pub tumbler_again : (places : List ℕ) → IsTumbler places → Takes ZeroCount (spell_tumbler places ++ behind)
    tumbler_again places h =
        let n = zeros_of places in
        let regrouped : decimal n ++ (spell_places (drop n places) ++ 126 ∷ behind) ≡ spell_tumbler places ++ behind = sym (append_assoc (decimal n ++ spell_places (drop n places)) (126 ∷ []) behind ∙ append_assoc (decimal n) (spell_places (drop n places)) (126 ∷ behind)) in
        subst (Takes ZeroCount) regrouped (split_again places n (drop n places) (zeros_split places) (zeros_end places) h (All-drop (λ p. p < 4294967296) n places h.small))
