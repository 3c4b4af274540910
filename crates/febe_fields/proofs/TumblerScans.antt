-- Tumblers, byte by byte: what is taken is the spelling of a tumbler.
use Rattle.std.proofs.Common.{◌≡◌, ℕ, ◌+◌, ◌-◌, ◌*◌, ◌<◌, ◌≤◌, true, false, List, [], ◌∷◌, ◌++◌, length, All, refl, sym, ap, subst, ◌∙◌, append_assoc, arith, inl, inr}
use Rattle.std.specs.Prelude.{replicate, ◌==◌}
use Rattle.std.specs.Char.{is_ascii_digit}
use Rattle.std.specs.Fmt.{decimal}
use Rattle.std.proofs.lemmas.Bool.{cases_Bool, cases_lt, eqb-true, eqb-false, ne_eqb, lt-ltb, le-ltb}
use Rattle.std.proofs.lemmas.List.{length-append, get_or-append-add}
use Rattle.std.proofs.lemmas.List.Elements.{All-nil, All-cons}
use Rattle.std.proofs.lemmas.Fmt.{decimal_digit}
use Rattle.tumbler.specs.Places.{place, EndsWell, IsTumbler}
use Rattle.febe_data.specs.Spelling.{spell_places, spell_tumbler}
use Rattle.febe_fields.specs.declared.leaf.Leaf.{Leaf}
use Rattle.febe_fields.specs.declared.leaf.Leaf.TheVariants.{ZeroCount, NoZeros, Zeros, FirstPlace, NextPlace, ZeroPlace, Place}
use Rattle.febe_fields.specs.declared.scanner.Field.{Field}
use Rattle.febe_fields.specs.declared.scanner.Role.{Role}
use Rattle.febe_fields.specs.Machine.{field_step}
use Rattle.febe_fields.specs.Reading.{starts_with_zero}
use Rattle.febe_fields.proofs.FieldLaws.{Written, tumbler_joined, ends_well_from}
use Rattle.febe_fields.proofs.Scans.{takes_some}
use Rattle.febe_fields.specs.Fields.{takes}
use Rattle.febe_fields.proofs.NumberScans.{next_digit, at_leaf, behind_leaf, step_taken}

-- ---- the last place

-- the last of these places is not 0
abbrev pub LastIsSome : ℕ → List ℕ → Type 0
LastIsSome p [] = 0 < p
LastIsSome p (q ∷ places) = LastIsSome q places

last_of : (p : ℕ) (places : List ℕ) → LastIsSome p places → 0 < place (p ∷ places) (length places)
last_of p [] h = h
last_of p (q ∷ places) h = last_of q places h

last_behind : (prefix : List ℕ) (p : ℕ) (places : List ℕ) → LastIsSome p places → 0 < place (prefix ++ p ∷ places) (length prefix + length places)
last_behind prefix p places h = rw (get_or-append-add prefix (p ∷ places) (length places) 0) (last_of p places h)

pub ends_well_behind : (prefix : List ℕ) (p : ℕ) (places : List ℕ) → LastIsSome p places → EndsWell (prefix ++ p ∷ places)
ends_well_behind prefix p places h e =
    let k : length (prefix ++ p ∷ places) - 1 ≡ length prefix + length places = omega (arith, length-append prefix (p ∷ places)) in
    let some : 0 < place (prefix ++ p ∷ places) (length (prefix ++ p ∷ places) - 1) = rw k (last_behind prefix p places h) in
    absurd (omega (arith, some, e))

-- ---- spellings joined

ended_here : (n b : ℕ) (bytes : List ℕ) → b ≡ 126 → decimal n ++ b ∷ bytes ≡ decimal n ++ (spell_places [] ++ 126 ∷ bytes)
ended_here n b bytes e = rw e refl

more_places : (n b : ℕ) (bytes : List ℕ) (p : ℕ) (places behind : List ℕ) → b ≡ 46 → bytes ≡ decimal p ++ (spell_places places ++ 126 ∷ behind)
    → decimal n ++ b ∷ bytes ≡ decimal n ++ (spell_places (p ∷ places) ++ 126 ∷ behind)
more_places n b bytes p places behind e f = rw (e, f) (ap (λ (ds : List ℕ). decimal n ++ 46 ∷ ds) (sym (append_assoc (decimal p) (spell_places places) (126 ∷ behind))))

zero_then : (b : ℕ) (bytes after : List ℕ) (p : ℕ) (places behind : List ℕ) → b ≡ 48 → bytes ≡ 46 ∷ after → after ≡ decimal p ++ (spell_places places ++ 126 ∷ behind)
    → b ∷ bytes ≡ decimal 0 ++ (spell_places (p ∷ places) ++ 126 ∷ behind)
zero_then b bytes after p places behind e f g = rw (e, f, decimal_digit 0 (omega arith)) (ap (λ (ds : List ℕ). 48 ∷ ds) (ap (λ (ds : List ℕ). 46 ∷ ds) (g ∙ sym (append_assoc (decimal p) (spell_places places) (126 ∷ behind)))))

pub is_digit : (b : ℕ) → is_ascii_digit b ≡ true → (48 ≤ b) × (b ≤ 57)
is_digit b h = grind arith

pub one_digit_is : (b : ℕ) → 48 ≤ b → b ≤ 57 → decimal (b - 48) ≡ b ∷ []
one_digit_is b low high =
    let is : 48 + (b - 48) ≡ b = omega arith in
    decimal_digit (b - 48) (omega arith) ∙ ap (λ (c : ℕ). c ∷ []) is

joined : (count : ℕ) (bytes after : List ℕ) (p : ℕ) (places behind : List ℕ) → bytes ≡ decimal count ++ 46 ∷ after → after ≡ decimal p ++ (spell_places places ++ 126 ∷ behind)
    → bytes ≡ decimal count ++ (spell_places (p ∷ places) ++ 126 ∷ behind)
joined count bytes after p places behind e f = e ∙ ap (λ (ds : List ℕ). decimal count ++ 46 ∷ ds) (f ∙ sym (append_assoc (decimal p) (spell_places places) (126 ∷ behind)))

zero_tumbler : (b : ℕ) (bytes : List ℕ) → b ≡ 126 → 48 ∷ b ∷ bytes ≡ spell_tumbler [] ++ bytes
zero_tumbler b bytes e = rw (e, decimal_digit 0 (omega arith)) refl

no_zeros_then : (b : ℕ) (bytes : List ℕ) → b ≡ 46 → 48 ∷ b ∷ bytes ≡ decimal 0 ++ 46 ∷ bytes
no_zeros_then b bytes e = rw (e, decimal_digit 0 (omega arith)) refl

-- a first written place that is not 0
starts_full : (p : ℕ) (places : List ℕ) → 0 < p → starts_with_zero (p ∷ places) ≡ false
starts_full p places some = ne_eqb p 0 (λ e. omega (arith, some, e))

module _ (role : Role) (tumblers specs room : ℕ) (fields : List Field) where
  abbrev Takes : Leaf → List ℕ → Type 0
  Takes leaf bytes = takes field_step (at_leaf role tumblers specs room fields leaf) bytes

  -- places up to a tilde, in front of what comes behind
  pub record TakesPlaces (more : ℕ) (bytes : List ℕ) : Type 0 where
    pub first : ℕ
    pub others : List ℕ
    pub behind : List ℕ
    pub few : length others ≤ more
    pub small : first < 4294967296
    pub smalls : All (λ p. p < 4294967296) others
    pub last : LastIsSome first others
    pub spelled : bytes ≡ decimal first ++ (spell_places others ++ 126 ∷ behind)
    pub ended : behind_leaf role tumblers specs room fields 0 behind

  -- places of which the first is not 0
  pub record TakesSome (more : ℕ) (bytes : List ℕ) : Type 0 where
    pub places : TakesPlaces more bytes
    pub some : 0 < places.first

  -- a dot, then places
  pub record TakesDot (more : ℕ) (bytes : List ℕ) : Type 0 where
    pub after : List ℕ
    pub dot : bytes ≡ 46 ∷ after
    pub places : TakesPlaces more after

  abbrev IfPlace : List ℕ → Type 0
  IfPlace bytes = (n more : ℕ) → 0 < n → n < 4294967296 → Takes (Place n more) bytes → TakesSome more (decimal n ++ bytes)

  abbrev IfNext : List ℕ → Type 0
  IfNext bytes = (more : ℕ) → Takes (NextPlace more) bytes → TakesPlaces more bytes

  abbrev IfZero : List ℕ → Type 0
  IfZero bytes = (more : ℕ) → Takes (ZeroPlace more) bytes → TakesDot more bytes

  one_more : (more n b : ℕ) (bytes : List ℕ) → 0 < n → n < 4294967296 → b ≡ 46 → 0 < more → TakesPlaces (more - 1) bytes → TakesSome more (decimal n ++ b ∷ bytes)
  one_more more n b bytes some small e room t = record {
    places = record {
      first = n;
      others = t.first ∷ t.others;
      behind = t.behind;
      few = omega (arith, t.few);
      small = small;
      smalls = All-cons (λ p. p < 4294967296) t.first t.others t.small t.smalls;
      last = t.last;
      spelled = more_places n b bytes t.first t.others t.behind e t.spelled;
      ended = t.ended;
    };
    some = some;
  }

  place_goes : (b : ℕ) (bytes : List ℕ) → IfPlace bytes → IfNext bytes → IfPlace (b ∷ bytes)
  place_goes b bytes if_place if_next n more some small h =
      let f = step_taken role tumblers specs room fields (Place n more) b bytes h in
      elim (cases_Bool (is_ascii_digit b)) [
        | inl digit ↦ elim (cases_lt 4294967295 (n * 10 + (b - 48))) [
          | inl over ↦ absurd (rw (digit, lt-ltb _ _ over) at f)
          | inr within ↦
              let on : Takes (Place (n * 10 + (b - 48)) more) bytes = rw (digit, le-ltb _ _ within) at f in
              let e : decimal (n * 10 + (b - 48)) ++ bytes ≡ decimal n ++ b ∷ bytes = ap (λ (ds : List ℕ). ds ++ bytes) (sym (next_digit n b some digit (omega arith))) ∙ append_assoc (decimal n) (b ∷ []) bytes in
              subst (TakesSome more) e (if_place (n * 10 + (b - 48)) more (omega arith) (omega arith) on)
        ]
        | inr other ↦ elim (cases_Bool (b == 46)) [
          | inl dot ↦ elim (cases_Bool (more == 0)) [
            | inl none ↦ absurd (rw (other, dot, none) at f)
            | inr room_left ↦
                let on : Takes (NextPlace (more - 1)) bytes = rw (other, dot, room_left) at f in
                let left = eqb-false _ _ room_left in
                one_more more n b bytes some small (eqb-true _ _ dot) (omega arith) (if_next (more - 1) on)
          ]
          | inr no_dot ↦ elim (cases_Bool (b == 126)) [
            | inl tilde ↦ record {
              places = record {
                first = n;
                others = [];
                behind = bytes;
                few = omega arith;
                small = small;
                smalls = All-nil (λ p. p < 4294967296);
                last = some;
                spelled = ended_here n b bytes (eqb-true _ _ tilde);
                ended = rw (other, no_dot, tilde) at f;
              };
              some = some;
            }
            | inr neither ↦ absurd (rw (other, no_dot, neither) at f)
          ]
        ]
      ]

  next_goes : (b : ℕ) (bytes : List ℕ) → IfPlace bytes → IfZero bytes → IfNext (b ∷ bytes)
  next_goes b bytes if_place if_zero more h =
      let f = step_taken role tumblers specs room fields (NextPlace more) b bytes h in
      elim (cases_Bool (b == 48)) [
        | inl is_zero ↦ elim (cases_Bool (more == 0)) [
          | inl none ↦ absurd (rw (is_zero, none) at f)
          | inr room_left ↦
              let on : Takes (ZeroPlace (more - 1)) bytes = rw (is_zero, room_left) at f in
              let left = eqb-false _ _ room_left in
              let d = if_zero (more - 1) on in
              let t = d.places in
              record {
                first = 0;
                others = t.first ∷ t.others;
                behind = t.behind;
                few = omega (arith, t.few);
                small = omega arith;
                smalls = All-cons (λ p. p < 4294967296) t.first t.others t.small t.smalls;
                last = t.last;
                spelled = zero_then b bytes d.after t.first t.others t.behind (eqb-true _ _ is_zero) d.dot t.spelled;
                ended = t.ended;
              }
        ]
        | inr other ↦ elim (cases_Bool (is_ascii_digit b)) [
          | inl digit ↦
              let range = is_digit b digit in
              let not_zero = eqb-false _ _ other in
              let on : Takes (Place (b - 48) more) bytes = rw (other, digit) at f in
              let t = if_place (b - 48) more (omega (arith, range.0)) (omega (arith, range.1)) on in
              subst (TakesPlaces more) (ap (λ (ds : List ℕ). ds ++ bytes) (one_digit_is b range.0 range.1)) t.places
          | inr none ↦ absurd (rw (other, none) at f)
        ]
      ]

  zero_goes : (b : ℕ) (bytes : List ℕ) → IfNext bytes → IfZero (b ∷ bytes)
  zero_goes b bytes if_next more h =
      let f = step_taken role tumblers specs room fields (ZeroPlace more) b bytes h in
      elim (cases_Bool (b == 46)) [
        | inl dot ↦
            let on : Takes (NextPlace more) bytes = rw dot at f in
            record { after = bytes; dot = ap (λ (c : ℕ). c ∷ bytes) (eqb-true _ _ dot); places = if_next more on }
        | inr none ↦ absurd (rw none at f)
      ]

  places_go : (bytes : List ℕ) → IfPlace bytes × IfNext bytes × IfZero bytes
  places_go [] = (
    (λ n more some small h. absurd (takes_some field_step (at_leaf role tumblers specs room fields (Place n more)) h)),
    (λ more h. absurd (takes_some field_step (at_leaf role tumblers specs room fields (NextPlace more)) h)),
    (λ more h. absurd (takes_some field_step (at_leaf role tumblers specs room fields (ZeroPlace more)) h)),
  )
  places_go (b ∷ bytes) =
      let on = places_go bytes in
      (place_goes b bytes on.0 on.1, next_goes b bytes on.0 on.2, zero_goes b bytes on.1)

  first_takes : (more : ℕ) (bytes : List ℕ) → Takes (FirstPlace more) bytes → TakesSome more bytes
  first_takes more [] h = absurd (takes_some field_step (at_leaf role tumblers specs room fields (FirstPlace more)) h)
  first_takes more (b ∷ bytes) h =
      let f = step_taken role tumblers specs room fields (FirstPlace more) b bytes h in
      elim (cases_Bool (b == 48)) [
        | inl is_zero ↦ absurd (rw is_zero at f)
        | inr other ↦ elim (cases_Bool (is_ascii_digit b)) [
          | inl digit ↦
              let range = is_digit b digit in
              let not_zero = eqb-false _ _ other in
              let on : Takes (Place (b - 48) more) bytes = rw (other, digit) at f in
              subst (TakesSome more) (ap (λ (ds : List ℕ). ds ++ bytes) (one_digit_is b range.0 range.1)) ((places_go bytes).0 (b - 48) more (omega (arith, range.0)) (omega (arith, range.1)) on)
          | inr none ↦ absurd (rw (other, none) at f)
        ]
      ]

  -- ---- the count of zeros

  -- a count and a dot, then places of which the first is not 0
  pub record TakesZeros (bytes : List ℕ) : Type 0 where
    pub count : ℕ
    pub after : List ℕ
    pub bound : count ≤ 23
    pub spelled : bytes ≡ decimal count ++ 46 ∷ after
    pub places : TakesSome (23 - count) after

  zeros_take : (n : ℕ) (bytes : List ℕ) → 0 < n → n ≤ 23 → Takes (Zeros n) bytes → TakesZeros (decimal n ++ bytes)
  zeros_take n [] some small h = absurd (takes_some field_step (at_leaf role tumblers specs room fields (Zeros n)) h)
  zeros_take n (b ∷ bytes) some small h =
      let f = step_taken role tumblers specs room fields (Zeros n) b bytes h in
      elim (cases_Bool (is_ascii_digit b)) [
        | inl digit ↦ elim (cases_lt 23 (n * 10 + (b - 48))) [
          | inl over ↦ absurd (rw (digit, lt-ltb _ _ over) at f)
          | inr within ↦
              let on : Takes (Zeros (n * 10 + (b - 48))) bytes = rw (digit, le-ltb _ _ within) at f in
              let e : decimal (n * 10 + (b - 48)) ++ bytes ≡ decimal n ++ b ∷ bytes = ap (λ (ds : List ℕ). ds ++ bytes) (sym (next_digit n b some digit (omega arith))) ∙ append_assoc (decimal n) (b ∷ []) bytes in
              subst TakesZeros e (zeros_take (n * 10 + (b - 48)) bytes (omega arith) within on)
        ]
        | inr other ↦ elim (cases_Bool (b == 46)) [
          | inl dot ↦
              let on : Takes (FirstPlace (23 - n)) bytes = rw (other, dot) at f in
              record { count = n; after = bytes; bound = small; spelled = ap (λ (c : ℕ). decimal n ++ c ∷ bytes) (eqb-true _ _ dot); places = first_takes (23 - n) bytes on }
          | inr none ↦ absurd (rw (other, none) at f)
        ]
      ]

  -- a tumbler, in front of what comes behind
  pub record TakesTumbler (bytes : List ℕ) : Type 0 where
    pub places : List ℕ
    pub behind : List ℕ
    pub is : IsTumbler places
    pub spelled : bytes ≡ spell_tumbler places ++ behind
    pub ended : behind_leaf role tumblers specs room fields 0 behind

  with_zeros : (bytes : List ℕ) → TakesZeros bytes → TakesTumbler bytes
  with_zeros bytes z =
      let t = z.places.places in
      let written = t.first ∷ t.others in
      let places = replicate z.count 0 ++ written in
      let w : Written bytes places (126 ∷ t.behind) = record {
        zeros = z.count;
        written = written;
        spelled = joined z.count bytes z.after t.first t.others t.behind z.spelled t.spelled;
        is = refl;
        full = starts_full t.first t.others z.places.some;
        few = omega (arith, t.few, z.bound);
        small = All-cons (λ p. p < 4294967296) t.first t.others t.small t.smalls;
      } in
      let j = tumbler_joined bytes places (126 ∷ t.behind) t.behind w refl (ends_well_from places (ends_well_behind (replicate z.count 0) t.first t.others t.last)) in
      record { places = places; behind = t.behind; is = j.1; spelled = j.0; ended = t.ended }

  no_zeros_take : (bytes : List ℕ) → Takes NoZeros bytes → TakesTumbler (48 ∷ bytes)
  no_zeros_take [] h = absurd (takes_some field_step (at_leaf role tumblers specs room fields NoZeros) h)
  no_zeros_take (b ∷ bytes) h =
      let f = step_taken role tumblers specs room fields NoZeros b bytes h in
      elim (cases_Bool (b == 126)) [
        | inl tilde ↦ record {
          places = [];
          behind = bytes;
          is = record { few = omega arith; small = All-nil (λ p. p < 4294967296); ends = λ e. refl };
          spelled = zero_tumbler b bytes (eqb-true _ _ tilde);
          ended = rw tilde at f;
        }
        | inr other ↦ elim (cases_Bool (b == 46)) [
          | inl dot ↦
              let on : Takes (FirstPlace 23) bytes = rw (other, dot) at f in
              with_zeros (48 ∷ b ∷ bytes) (record { count = 0; after = bytes; bound = omega arith; spelled = no_zeros_then b bytes (eqb-true _ _ dot); places = first_takes 23 bytes on })
          | inr none ↦ absurd (rw (other, none) at f)
        ]
      ]

  pub tumbler_takes : (bytes : List ℕ) → Takes ZeroCount bytes → TakesTumbler bytes
  tumbler_takes [] h = absurd (takes_some field_step (at_leaf role tumblers specs room fields ZeroCount) h)
  tumbler_takes (b ∷ bytes) h =
      let f = step_taken role tumblers specs room fields ZeroCount b bytes h in
      elim (cases_Bool (b == 48)) [
        | inl is_zero ↦
            let on : Takes NoZeros bytes = rw is_zero at f in
            subst TakesTumbler (ap (λ (c : ℕ). c ∷ bytes) (sym (eqb-true _ _ is_zero))) (no_zeros_take bytes on)
        | inr other ↦ elim (cases_Bool (is_ascii_digit b)) [
          | inl digit ↦
              let range = is_digit b digit in
              let not_zero = eqb-false _ _ other in
              let on : Takes (Zeros (b - 48)) bytes = rw (other, digit) at f in
              with_zeros (b ∷ bytes) (subst TakesZeros (ap (λ (ds : List ℕ). ds ++ bytes) (one_digit_is b range.0 range.1)) (zeros_take (b - 48) bytes (omega (arith, range.0)) (omega (arith, range.1)) on))
          | inr none ↦ absurd (rw (other, none) at f)
        ]
      ]
