-- A field that is read is the field that is written so, and what is written so is read again.
use Rattle.std.proofs.Common.{◌≡◌, ℕ, zero, suc, ◌<◌, ◌≤◌, ◌⊎◌, Bool, true, false, cond, List, [], ◌∷◌, ◌++◌, length, take, drop, All, get_or, Option, Some, None, refl, sym, ap, subst, ◌∙◌, append_assoc, arith, inl, inr}
use Rattle.std.specs.Prelude.{nat_lt}
use Rattle.std.specs.List.{flat_map}
use Rattle.std.specs.Int.{w32, w64, from_be_bytes}
use Rattle.std.proofs.lemmas.Bool.{cases_lt, le-ltb, ltb-false}
use Rattle.std.proofs.lemmas.Bool.Decides.{nat_tests}
use Rattle.std.proofs.lemmas.Grind.{common_steps}
use Rattle.std.proofs.lemmas.Nat.{be_bytes_4, be_bytes_8, from_be_bytes-to_be_bytes_4, from_be_bytes-to_be_bytes_8}
use Rattle.std.proofs.lemmas.Option.{some_pair_parts, cond_some}
use Rattle.std.proofs.lemmas.List.{take_at, drop_at, take-append-drop, length-append, length-take, get_or_past}
use Rattle.std.proofs.lemmas.List.Elements.{All-nil, All-cons, All-head, All-drop, All-take}
use Rattle.tumbler.specs.Places.{EndsWell, IsTumbler}
use Rattle.febe_data.specs.Validity.{IsText, IsList}
use Rattle.febe_fields.specs.Reading.{◌>>=◌, ends_well, many_at}
use Rattle.febe_fields.proofs.FieldLaws.{bind_some, cond_none, ends_well_from}
use Rattle.febe_fields.proofs.ListLaws.{ReadsAgain, many_again}
use Rattle.entry_codec.specs.Format.{u32_bytes, u64_bytes, tumbler_bytes, list_bytes, length_bytes, text_bytes}
use Rattle.entry_codec.specs.Bodies.{IsU32, IsU64}
use Rattle.entry_codec.specs.Reading.{u8_at, u32_at, u64_at, places_at, tumbler_at, length_at, text_at, list_at}
use Rattle.entry_codec.specs.declared.format.LogFormat.{LogFormat}
use Rattle.entry_codec.specs.declared.format.LogFormat.TheVariants.{Old, New}

-- ---- bytes

abbrev pub AreBytes : List ℕ → Type 0
AreBytes bytes = All (λ b. b < 256) bytes

-- what stands behind some bytes are bytes
pub rest_are : (bytes front rest : List ℕ) → bytes ≡ front ++ rest → AreBytes bytes → AreBytes rest
rest_are bytes front rest e are = subst AreBytes (drop_at front rest (length front) refl) (All-drop (λ b. b < 256) (length front) (front ++ rest) (subst AreBytes e are))

each_byte_by : (bytes : List ℕ) (i : ℕ) → (i < length bytes) ⊎ (length bytes ≤ i) → AreBytes bytes → get_or bytes i 0 < 256
each_byte_by bytes i (inl lt) are = are i 0 lt
each_byte_by bytes i (inr past) are = rw (get_or_past bytes i 0 past) (omega arith)

pub each_byte : (bytes : List ℕ) → AreBytes bytes → (i : ℕ) → get_or bytes i 0 < 256
each_byte bytes are i = each_byte_by bytes i (cases_lt i (length bytes)) are

-- bytes, each of which fits one byte
pub are_bytes : (bytes : List ℕ) → ((i : ℕ) → get_or bytes i 0 < 256) → AreBytes bytes
are_bytes bytes each i d lt = subst (λ (b : ℕ). b < 256) (same_default bytes i lt) (each i)
  where
    same_default : (xs : List ℕ) (i : ℕ) → i < length xs → get_or xs i 0 ≡ get_or xs i d
    same_default [] i lt = absurd (omega arith)
    same_default (x ∷ xs) zero lt = refl
    same_default (x ∷ xs) (suc i) lt = same_default xs i (omega arith)

-- ---- one field behind the other

-- what is read is right, and is what is written so
abbrev pub ReadsRight : {X : Type 0} → (X → Type 0) → (List ℕ → Option (X × List ℕ)) → (X → List ℕ) → Type 0
ReadsRight {X} IsWellFormed read spell = (bytes rest : List ℕ) (x : X) → AreBytes bytes → read bytes ≡ Some (x, rest) → (bytes ≡ spell x ++ rest) × IsWellFormed x

-- a field that was read, and what goes on behind it
pub record Field {X Y : Type 0} (IsWellFormed : X → Type 0) (spell : X → List ℕ) (bytes : List ℕ) (on : X × List ℕ → Option Y) (y : Y) : Type 0 where
  pub value : X
  pub rest : List ℕ
  pub goes : on (value, rest) ≡ Some y
  pub split : bytes ≡ spell value ++ rest
  pub right : IsWellFormed value
  pub are : AreBytes rest

pub field : {X Y : Type 0} (IsWellFormed : X → Type 0) (read : List ℕ → Option (X × List ℕ)) (spell : X → List ℕ) → ReadsRight IsWellFormed read spell
    → (bytes : List ℕ) → AreBytes bytes → (on : X × List ℕ → Option Y) (y : Y) → (read bytes >>= on) ≡ Some y → Field IsWellFormed spell bytes on y
field IsWellFormed read spell right bytes are on y e =
    let s = bind_some (read bytes) on y e in
    let t = right bytes s.0.1 s.0.0 are s.1 in
    record { value = s.0.0; rest = s.0.1; goes = s.2; split = t.0; right = t.1; are = rest_are bytes (spell s.0.0) s.0.1 t.0 are }

-- where a test did not fail, what comes then
pub not_none : {A : Type 0} (b : Bool) (r : Option A) (y : A) → cond b None r ≡ Some y → (b ≡ false) × (r ≡ Some y)
not_none true r y e = absurd cc
not_none false r y e = (refl, e)

-- ---- numbers

pub u8_right : ReadsRight (λ n. n < 256) u8_at (λ n. n ∷ [])
unfolding u8_at
u8_right [] rest n are e = absurd cc
u8_right (b ∷ bytes) rest n are e =
    let p = some_pair_parts b n bytes rest e in
    rw (← p.0, ← p.1) (refl, All-head (λ b. b < 256) b bytes are)

small_4 : (bs : List ℕ) → ((i : ℕ) → get_or bs i 0 < 256) → from_be_bytes w32 bs < 4294967296
small_4 bs each = omega (arith, each 0, each 1, each 2, each 3)

small_8 : (bs : List ℕ) → ((i : ℕ) → get_or bs i 0 < 256) → from_be_bytes w64 bs < 18446744073709551616
small_8 bs each = omega (arith, each 0, each 1, each 2, each 3, each 4, each 5, each 6, each 7)

pub u32_right : ReadsRight IsU32 u32_at u32_bytes
unfolding u32_at
u32_right bytes rest n are e =
    let four : List ℕ = take 4 bytes in
    let g = cond_none (nat_lt (length bytes) 4) (from_be_bytes w32 four, drop 4 bytes) (n, rest) e in
    let value : from_be_bytes w32 four ≡ n = ap (λ (p : ℕ × List ℕ). p.0) g.1 in
    let behind : drop 4 bytes ≡ rest = ap (λ (p : ℕ × List ℕ). p.1) g.1 in
    let long : 4 ≤ length bytes = ltb-false _ _ g.0 in
    let each : (i : ℕ) → get_or four i 0 < 256 = each_byte four (All-take (λ b. b < 256) 4 bytes are) in
    let back : u32_bytes n ≡ four = be_bytes_4 four n (omega (arith, length-take 4 bytes, long)) each (sym value) in
    (sym (take-append-drop 4 bytes) ∙ ap (λ (ds : List ℕ). four ++ ds) behind ∙ ap (λ (ds : List ℕ). ds ++ rest) (sym back), subst IsU32 value (small_4 four each))

pub u64_right : ReadsRight IsU64 u64_at u64_bytes
unfolding u64_at
u64_right bytes rest n are e =
    let eight : List ℕ = take 8 bytes in
    let g = cond_none (nat_lt (length bytes) 8) (from_be_bytes w64 eight, drop 8 bytes) (n, rest) e in
    let value : from_be_bytes w64 eight ≡ n = ap (λ (p : ℕ × List ℕ). p.0) g.1 in
    let behind : drop 8 bytes ≡ rest = ap (λ (p : ℕ × List ℕ). p.1) g.1 in
    let long : 8 ≤ length bytes = ltb-false _ _ g.0 in
    let each : (i : ℕ) → get_or eight i 0 < 256 = each_byte eight (All-take (λ b. b < 256) 8 bytes are) in
    let back : u64_bytes n ≡ eight = be_bytes_8 eight n (omega (arith, length-take 8 bytes, long)) each (sym value) in
    (sym (take-append-drop 8 bytes) ∙ ap (λ (ds : List ℕ). eight ++ ds) behind ∙ ap (λ (ds : List ℕ). ds ++ rest) (sym back), subst IsU64 value (small_8 eight each))

pub u8_again : (n : ℕ) (rest : List ℕ) → u8_at (n ∷ rest) ≡ Some (n, rest)
unfolding u8_at
u8_again n rest = refl

four_again : (front rest : List ℕ) → length front ≡ 4 → u32_at (front ++ rest) ≡ Some (from_be_bytes w32 front, rest)
unfolding u32_at
four_again front rest four =
    let long : nat_lt (length (front ++ rest)) 4 ≡ false = le-ltb _ _ (omega (arith, length-append front rest)) in
    rw (long, take_at front rest 4 four, drop_at front rest 4 four) refl

eight_again : (front rest : List ℕ) → length front ≡ 8 → u64_at (front ++ rest) ≡ Some (from_be_bytes w64 front, rest)
unfolding u64_at
eight_again front rest eight =
    let long : nat_lt (length (front ++ rest)) 8 ≡ false = le-ltb _ _ (omega (arith, length-append front rest)) in
    rw (long, take_at front rest 8 eight, drop_at front rest 8 eight) refl

pub u32_again : ReadsAgain IsU32 u32_at u32_bytes
u32_again n rest small = four_again (u32_bytes n) rest refl ∙ ap (λ (m : ℕ). Some (m, rest)) (from_be_bytes-to_be_bytes_4 n small)

pub u64_again : ReadsAgain IsU64 u64_at u64_bytes
u64_again n rest small = eight_again (u64_bytes n) rest refl ∙ ap (λ (m : ℕ). Some (m, rest)) (from_be_bytes-to_be_bytes_8 n small)

-- ---- lists

-- so many items that were read one behind the other
pub record Many {X : Type 0} (IsWellFormed : X → Type 0) (spell : X → List ℕ) (bytes rest : List ℕ) (count : ℕ) (xs : List X) : Type 0 where
  pub split : bytes ≡ flat_map spell xs ++ rest
  pub right : All IsWellFormed xs
  pub counted : length xs ≡ count

pub many_right : {X : Type 0} (IsWellFormed : X → Type 0) (read : List ℕ → Option (X × List ℕ)) (spell : X → List ℕ) → ReadsRight IsWellFormed read spell
    → (count : ℕ) (bytes rest : List ℕ) (xs : List X) → AreBytes bytes → many_at read count bytes ≡ Some (xs, rest) → Many IsWellFormed spell bytes rest count xs
unfolding many_at
many_right {X} IsWellFormed read spell right zero bytes rest xs are e =
    let none : List X = [] in
    let p = some_pair_parts none xs bytes rest e in
    subst (λ (ys : List X). Many IsWellFormed spell bytes rest 0 ys) p.0 (record { split = p.1; right = All-nil IsWellFormed; counted = refl })
many_right {X} IsWellFormed read spell right (suc n) bytes rest xs are e =
    let first = field IsWellFormed read spell right bytes are (λ first. many_at read n first.1 >>= λ others. Some (first.0 ∷ others.0, others.1)) (xs, rest) e in
    let others = bind_some (many_at read n first.rest) (λ others. Some (first.value ∷ others.0, others.1)) (xs, rest) first.goes in
    let p = some_pair_parts (first.value ∷ others.0.0) xs others.0.1 rest others.2 in
    let ih = many_right IsWellFormed read spell right n first.rest others.0.1 others.0.0 first.are others.1 in
    let whole : bytes ≡ flat_map spell (first.value ∷ others.0.0) ++ rest =
    first.split ∙ ap (λ (ds : List ℕ). spell first.value ++ ds) (ih.split ∙ ap (λ (ds : List ℕ). flat_map spell others.0.0 ++ ds) p.1) ∙ sym (append_assoc (spell first.value) (flat_map spell others.0.0) rest) in
    subst (λ (ys : List X). Many IsWellFormed spell bytes rest (suc n) ys) p.0 (record { split = whole; right = All-cons IsWellFormed first.value others.0.0 first.right ih.right; counted = ap suc ih.counted })

pub list_right : {X : Type 0} (IsWellFormed : X → Type 0) (read : List ℕ → Option (X × List ℕ)) (spell : X → List ℕ) → ReadsRight IsWellFormed read spell
    → ReadsRight (IsList IsWellFormed) (list_at read) (list_bytes spell)
unfolding list_at
list_right IsWellFormed read spell right bytes rest xs are e =
    let count = field IsU32 u32_at u32_bytes u32_right bytes are (λ count. cond (nat_lt 65536 count.0) None (many_at read count.0 count.1)) (xs, rest) e in
    let g = not_none (nat_lt 65536 count.value) (many_at read count.value count.rest) (xs, rest) count.goes in
    let many = many_right IsWellFormed read spell right count.value count.rest rest xs count.are g.1 in
    let few : count.value ≤ 65536 = ltb-false _ _ g.0 in (
      count.split ∙ ap (λ (n : ℕ). u32_bytes n ++ count.rest) (sym many.counted) ∙ ap (λ (ds : List ℕ). u32_bytes (length xs) ++ ds) many.split ∙ sym (append_assoc (u32_bytes (length xs)) (flat_map spell xs) rest),
      record { few = omega (arith, many.counted); each = many.right },
    )

pub list_again : {X : Type 0} (IsWellFormed : X → Type 0) (read : List ℕ → Option (X × List ℕ)) (spell : X → List ℕ) → ReadsAgain IsWellFormed read spell
    → ReadsAgain (IsList IsWellFormed) (list_at read) (list_bytes spell)
unfolding list_at
list_again IsWellFormed read spell again xs rest h =
    ap (list_at read) (append_assoc (u32_bytes (length xs)) (flat_map spell xs) rest)
    ∙ rw (u32_again (length xs) (flat_map spell xs ++ rest) (omega (arith, h.few)), le-ltb _ _ h.few) (many_again IsWellFormed read spell again xs rest h.each)

-- ---- tumblers

ends_well_is : (places : List ℕ) → ends_well places ≡ true → EndsWell places
ends_well_is places e last = grind (arith, nat_tests)

places_right : (bytes rest places : List ℕ) → AreBytes bytes → places_at bytes ≡ Some (places, rest) → (bytes ≡ tumbler_bytes places ++ rest) × (length places ≤ 24) × All IsU32 places
unfolding places_at
places_right bytes rest places are e =
    let count = field (λ n. n < 256) u8_at (λ n. n ∷ []) u8_right bytes are (λ count. cond (nat_lt 24 count.0) None (many_at u32_at count.0 count.1)) (places, rest) e in
    let g = not_none (nat_lt 24 count.value) (many_at u32_at count.value count.rest) (places, rest) count.goes in
    let many = many_right IsU32 u32_at u32_bytes u32_right count.value count.rest rest places count.are g.1 in
    let few : count.value ≤ 24 = ltb-false _ _ g.0 in
    (count.split ∙ ap (λ (n : ℕ). n ∷ count.rest) (sym many.counted) ∙ ap (λ (ds : List ℕ). length places ∷ ds) many.split, omega (arith, many.counted), many.right)

pub tumbler_right : ReadsRight IsTumbler tumbler_at tumbler_bytes
unfolding tumbler_at
tumbler_right bytes rest places are e =
    let a = bind_some (places_at bytes) (λ places. cond (ends_well places.0) (Some (places.0, places.1)) None) (places, rest) e in
    let g = cond_some (ends_well a.0.0) (a.0.0, a.0.1) (places, rest) a.2 in
    let t = places_right bytes a.0.1 a.0.0 are a.1 in
    subst (λ (p : List ℕ × List ℕ). (bytes ≡ tumbler_bytes p.0 ++ p.1) × IsTumbler p.0) g.1 (t.0, record { few = t.1; small = t.2; ends = ends_well_is a.0.0 g.0 })

pub tumbler_again : ReadsAgain IsTumbler tumbler_at tumbler_bytes
unfolding tumbler_at places_at
tumbler_again places rest h =
    rw (u8_again (length places) (flat_map u32_bytes places ++ rest), le-ltb _ _ h.few, many_again IsU32 u32_at u32_bytes u32_again places rest h.small, ends_well_from places h.ends) refl

-- ---- lengths and texts

-- a number that the bytes of a length have room for
abbrev pub IsLength : LogFormat → ℕ → Type 0
IsLength Old n = IsU32 n
IsLength New n = IsU64 n

-- what four bytes have room for
pub is_length : (format : LogFormat) (n : ℕ) → IsU32 n → IsLength format n
is_length Old n small = small
is_length New n small = omega (arith, small)

pub length_right : (format : LogFormat) → ReadsRight (IsLength format) (length_at format) (length_bytes format)
unfolding length_at
length_right Old bytes rest n are e = u32_right bytes rest n are e
length_right New bytes rest n are e = u64_right bytes rest n are e

pub length_again : (format : LogFormat) → ReadsAgain (IsLength format) (length_at format) (length_bytes format)
unfolding length_at
length_again Old n rest small = u32_again n rest small
length_again New n rest small = u64_again n rest small

pub text_right : (format : LogFormat) → ReadsRight IsText (text_at format) (text_bytes format)
unfolding text_at
text_right format bytes rest text are e =
    let len = field (IsLength format) (length_at format) (length_bytes format) (length_right format) bytes are (λ len. cond (nat_lt 16777216 len.0) None (cond (nat_lt (length len.1) len.0) None (Some (take len.0 len.1, drop len.0 len.1)))) (text, rest) e in
    let g = not_none (nat_lt 16777216 len.value) (cond (nat_lt (length len.rest) len.value) None (Some (take len.value len.rest, drop len.value len.rest))) (text, rest) len.goes in
    let h = cond_none (nat_lt (length len.rest) len.value) (take len.value len.rest, drop len.value len.rest) (text, rest) g.1 in
    let text_is : take len.value len.rest ≡ text = ap (λ (p : List ℕ × List ℕ). p.0) h.1 in
    let rest_is : drop len.value len.rest ≡ rest = ap (λ (p : List ℕ × List ℕ). p.1) h.1 in
    let short : len.value ≤ 16777216 = ltb-false _ _ g.0 in
    let long : len.value ≤ length len.rest = ltb-false _ _ h.0 in
    let counted : length text ≡ len.value = ap length (sym text_is) ∙ grind (arith, common_steps, long) in
    let parts : len.rest ≡ text ++ rest = sym (take-append-drop len.value len.rest) ∙ ap (λ (ds : List ℕ). ds ++ drop len.value len.rest) text_is ∙ ap (λ (ds : List ℕ). text ++ ds) rest_is in (
      len.split ∙ ap (λ (n : ℕ). length_bytes format n ++ len.rest) (sym counted) ∙ ap (λ (ds : List ℕ). length_bytes format (length text) ++ ds) parts ∙ sym (append_assoc (length_bytes format (length text)) text rest),
      record { short = omega (arith, counted, short); bytes = subst AreBytes text_is (All-take (λ b. b < 256) len.value len.rest len.are) },
    )

pub text_again : (format : LogFormat) → ReadsAgain IsText (text_at format) (text_bytes format)
unfolding text_at
text_again format text rest h =
    let long : nat_lt (length (text ++ rest)) (length text) ≡ false = le-ltb _ _ (omega (arith, length-append text rest)) in
    ap (text_at format) (append_assoc (length_bytes format (length text)) text rest)
    ∙ rw (length_again format (length text) (text ++ rest) (is_length format (length text) (omega (arith, h.short))), le-ltb _ _ h.short, long, take_at text rest (length text) refl, drop_at text rest (length text) refl) refl
