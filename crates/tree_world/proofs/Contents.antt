-- The bytes of runs, from contents that stand in the order of their addresses.
use Rattle.std.proofs.Common.{◌≡◌, ◌∙◌, ◌⊎◌, inl, inr, ℕ, zero, suc, ◌+◌, ◌&&◌, ◌||◌, ◌++◌, Bool, true, false, not, List, [], ◌∷◌, Option, Some, None, map, cond, refl, sym, ap, subst, arith, true≢false}
use Rattle.std.specs.Prelude.{◌==◌, filter, fold, IsPermutation, if◌then◌else◌}
use Rattle.std.specs.List.{list_any, find, filter_map, cons_option, AllByRecursion}
use Rattle.std.specs.Option.{option_map, option_to_list}
use Rattle.std.proofs.lemmas.Bool.Decides.{nat_tests}
use Rattle.std.proofs.lemmas.List.{map-append}
use Rattle.std.proofs.lemmas.List.Sorted.{list_any-IsPermutation}
use Rattle.tumbler.specs.Address.{IsDocument}
use Rattle.tumbler.specs.Places.{IsBefore, IsUpTo, comes_before}
use Rattle.tumbler.proofs.Before.{before_if_true, true_if_before, up_to_if_false, false_if_up_to}
use Rattle.tumbler.proofs.Order.{before_upto, upto_before, upto_upto, upto_if_before, never_before_itself}
use Rattle.granfilade.specs.Content.{ByteAt}
use Rattle.poom.specs.Pieces.{address_in, addresses_from}
use Rattle.world_rules.specs.declared.rows.ByteRow.{ByteRow}
use Rattle.world_rules.specs.World.{is_same, byte_at}
use Rattle.tree_world.specs.Standing.{byte_row}
use Rattle.tree_world.specs.inside.Seen.{byte_found}
use Rattle.tree_world.proofs.Within.{lies_from, same_is, bytes_up_to, run_has}
use Rattle.tree_world.proofs.Ordered.{IsBehind, Ascend, AreMade}

abbrev pick : (start end : List ℕ) → List ByteAt → List ByteAt
pick start end xs = filter (λ (at : ByteAt). lies_from start end at.address) xs

module _ (start middle end : List ℕ) (low : IsUpTo start middle) (high : IsUpTo middle end) where
  past_middle : (xs : List ByteAt) → AllByRecursion (λ (y : ByteAt). IsUpTo middle y.address) xs → (pick start middle xs ≡ []) × (pick start end xs ≡ pick middle end xs)
  past_middle [] past = (refl, refl)
  past_middle (x ∷ xs) past =
      let rest = past_middle xs past.1 in
      let not_middle : comes_before x.address middle ≡ false = false_if_up_to x.address middle past.0 in
      let not_start : comes_before x.address start ≡ false = false_if_up_to x.address start (upto_upto start middle x.address low past.0) in (
        none (comes_before x.address start) (comes_before x.address middle) not_middle (pick start middle xs) rest.0,
        alike (comes_before x.address start) (comes_before x.address middle) (comes_before x.address end) not_start not_middle (pick start end xs) (pick middle end xs) rest.1,
      )
    where
      none : (a b : Bool) → b ≡ false → (ys : List ByteAt) → ys ≡ [] → cond (not a && b) (x ∷ ys) ys ≡ []
      none true false e ys h = h
      none false false e ys h = h
      none a true e ys h = absurd (true≢false e)

      alike : (a b c : Bool) → a ≡ false → b ≡ false → (ys zs : List ByteAt) → ys ≡ zs → cond (not a && c) (x ∷ ys) ys ≡ cond (not b && c) (x ∷ zs) zs
      alike false false c e f ys zs h = ap (λ (us : List ByteAt). cond c (x ∷ us) us) h
      alike true b c e f ys zs h = absurd (true≢false e)
      alike false true c e f ys zs h = absurd (true≢false f)

  pub split : (xs : List ByteAt) → Ascend xs → pick start end xs ≡ pick start middle xs ++ pick middle end xs
  split [] up = refl
  split (x ∷ xs) up = step (comes_before x.address middle) refl (split xs up.1)
    where
      behind : IsUpTo middle x.address → (ys : List ByteAt) → AllByRecursion (IsBehind x) ys → AllByRecursion (λ (y : ByteAt). IsUpTo middle y.address) ys
      behind le [] all = tt
      behind le (y ∷ ys) all = (upto_if_before middle y.address (upto_before middle x.address y.address le all.0), behind le ys all.1)

      front : (a b c : Bool) → b ≡ true → c ≡ true → (us vs ws : List ByteAt) → us ≡ vs ++ ws → cond (not a && c) (x ∷ us) us ≡ cond (not a && b) (x ∷ vs) vs ++ cond (not b && c) (x ∷ ws) ws
      front true true true e f us vs ws h = h
      front false true true e f us vs ws h = ap (λ (ys : List ByteAt). x ∷ ys) h
      front a false c e f us vs ws h = absurd (true≢false (sym e))
      front a true false e f us vs ws h = absurd (true≢false (sym f))

      step : (b : Bool) → comes_before x.address middle ≡ b → pick start end xs ≡ pick start middle xs ++ pick middle end xs → pick start end (x ∷ xs) ≡ pick start middle (x ∷ xs) ++ pick middle end (x ∷ xs)
      step true less rest =
          front (comes_before x.address start) (comes_before x.address middle) (comes_before x.address end) less
          (true_if_before x.address end (before_upto x.address middle end (before_if_true x.address middle less) high))
          (pick start end xs) (pick start middle xs) (pick middle end xs) rest
      step false ge rest =
          let le = up_to_if_false x.address middle ge in
          let all = past_middle (x ∷ xs) (le, behind le xs up.0) in
          all.1 ∙ ap (λ (ys : List ByteAt). ys ++ pick middle end (x ∷ xs)) (sym all.0)

-- ---- one address

-- nothing behind a byte has its address
none_behind : (a : List ℕ) (x : ByteAt) → x.address ≡ a → (ys : List ByteAt) → AllByRecursion (IsBehind x) ys → filter (λ (at : ByteAt). is_same at.address a) ys ≡ []
none_behind a x is [] all = refl
none_behind a x is (y ∷ ys) all = step (is_same y.address a) refl (none_behind a x is ys all.1)
  where
    step : (b : Bool) → is_same y.address a ≡ b → filter (λ (at : ByteAt). is_same at.address a) ys ≡ [] → cond b (y ∷ filter (λ (at : ByteAt). is_same at.address a) ys) (filter (λ (at : ByteAt). is_same at.address a) ys) ≡ []
    step true e rest = absurd (never_before_itself x.address (subst (IsBefore x.address) (same_is y.address a e ∙ sym is) all.0))
    step false e rest = rest

one_byte : (a : List ℕ) (xs : List ByteAt) → Ascend xs → map (λ (at : ByteAt). at.byte) (filter (λ (at : ByteAt). is_same at.address a) xs) ≡ option_to_list (byte_found xs a)
one_byte a [] up = refl
one_byte a (x ∷ xs) up = step (is_same x.address a) refl (one_byte a xs up.1)
  where
    step : (b : Bool) → is_same x.address a ≡ b → map (λ (at : ByteAt). at.byte) (filter (λ (at : ByteAt). is_same at.address a) xs) ≡ option_to_list (byte_found xs a)
        → map (λ (at : ByteAt). at.byte) (cond b (x ∷ filter (λ (at : ByteAt). is_same at.address a) xs) (filter (λ (at : ByteAt). is_same at.address a) xs))
        ≡ option_to_list (option_map (λ (at : ByteAt). at.byte) (cond b (Some x) (find (λ (at : ByteAt). is_same at.address a) xs)))
    step true e rest = ap (λ (ys : List ByteAt). x.byte ∷ map (λ (at : ByteAt). at.byte) ys) (none_behind a x (same_is x.address a e) xs up.0)
    step false e rest = rest

-- ---- the bytes of a run

one_picked : (document : List ℕ) (n : ℕ) (xs : List ByteAt) → IsDocument document → AreMade xs → pick (address_in 1 document n) (address_in 1 document (n + 1)) xs ≡ filter (λ (at : ByteAt). is_same at.address (address_in 1 document n)) xs
one_picked document n [] d made = refl
one_picked document n (x ∷ xs) d made =
    (λ i. cond (test i) (x ∷ one_picked document n xs d made.1 i) (one_picked document n xs d made.1 i))
  where
    or_none : (b : Bool) → (b || false) ≡ b
    or_none true = refl
    or_none false = refl

    test : lies_from (address_in 1 document n) (address_in 1 document (n + 1)) x.address ≡ is_same x.address (address_in 1 document n)
    test = run_has document n 1 x.address d made.0 ∙ or_none (is_same x.address (address_in 1 document n))

none_picked : (a : List ℕ) (xs : List ByteAt) → pick a a xs ≡ []
none_picked a [] = refl
none_picked a (x ∷ xs) = step (comes_before x.address a) (none_picked a xs)
  where
    step : (b : Bool) → pick a a xs ≡ [] → cond (not b && b) (x ∷ pick a a xs) (pick a a xs) ≡ []
    step true rest = rest
    step false rest = rest

pub run_bytes : (document : List ℕ) (first count : ℕ) (xs : List ByteAt) → IsDocument document → AreMade xs → Ascend xs
    → map (λ (at : ByteAt). at.byte) (filter (λ (at : ByteAt). lies_from (address_in 1 document first) (address_in 1 document (first + count)) at.address) xs) ≡ filter_map (byte_found xs) (addresses_from 1 document first count)
run_bytes document first zero xs d made up =
    let same : first + 0 ≡ first = omega arith in
    ap (λ (n : ℕ). map (λ (at : ByteAt). at.byte) (pick (address_in 1 document first) (address_in 1 document n) xs)) same
    ∙ ap (map (λ (at : ByteAt). at.byte)) (none_picked (address_in 1 document first) xs)
run_bytes document first (suc count) xs d made up =
    let next : first + suc count ≡ first + 1 + count = omega arith in
    ap (λ (n : ℕ). map (λ (at : ByteAt). at.byte) (pick (address_in 1 document first) (address_in 1 document n) xs)) next
    ∙ ap (map (λ (at : ByteAt). at.byte)) (split (address_in 1 document first) (address_in 1 document (first + 1)) (address_in 1 document (first + 1 + count)) (bytes_up_to document first (first + 1) (omega arith)) (bytes_up_to document (first + 1) (first + 1 + count) (omega arith)) xs up)
    ∙ map-append (λ (at : ByteAt). at.byte) (pick (address_in 1 document first) (address_in 1 document (first + 1)) xs) (pick (address_in 1 document (first + 1)) (address_in 1 document (first + 1 + count)) xs)
    ∙ (λ i. here i ++ run_bytes document (first + 1) count xs d made up i)
    ∙ joined (byte_found xs (address_in 1 document first)) (filter_map (byte_found xs) (addresses_from 1 document (first + 1) count))
  where
    here : map (λ (at : ByteAt). at.byte) (pick (address_in 1 document first) (address_in 1 document (first + 1)) xs) ≡ option_to_list (byte_found xs (address_in 1 document first))
    here = ap (map (λ (at : ByteAt). at.byte)) (one_picked document first xs d made) ∙ one_byte (address_in 1 document first) xs up

    joined : (found : Option ℕ) (rest : List ℕ) → option_to_list found ++ rest ≡ cons_option found rest
    joined None rest = refl
    joined (Some byte) rest = refl

-- ---- bytes in whatever order

abbrev is_at : List ℕ → ByteRow → Bool
is_at a row = is_same row.address a

abbrev has_byte : List ℕ → ℕ → ByteRow → Bool
has_byte a byte row = is_same row.address a && row.byte == byte

abbrev last_of : List ℕ → Option ℕ → List ByteRow → Option ℕ
last_of a found rows = fold (λ found (b : ByteRow). if is_same b.address a then Some b.byte else found) found rows

itself : (n : ℕ) → (n == n) ≡ true
itself n = grind (arith, nat_tests)

some_is : (m n : ℕ) → Some m ≡ Some n → m ≡ n
some_is m n e = ap value e
  where
    value : Option ℕ → ℕ
    value (Some k) = k
    value None = 0

none_some : (n : ℕ) → Some n ≡ None → ⊥
none_some n e = true≢false (ap there e)
  where
    there : Option ℕ → Bool
    there (Some k) = true
    there None = false

found_there : (a : List ℕ) (byte : ℕ) (found : Option ℕ) (rows : List ByteRow) → last_of a found rows ≡ Some byte → (found ≡ Some byte) ⊎ (list_any (has_byte a byte) rows ≡ true)
found_there a byte found [] e = inl e
found_there a byte found (row ∷ rows) e = step (is_same row.address a) refl (λ f. found_there a byte f rows) e
  where
    later : (p q : Bool) → q ≡ true → (p || q) ≡ true
    later true q h = refl
    later false q h = h

    step : (b : Bool) → is_same row.address a ≡ b → ((f : Option ℕ) → last_of a f rows ≡ Some byte → (f ≡ Some byte) ⊎ (list_any (has_byte a byte) rows ≡ true)) → last_of a (cond b (Some row.byte) found) rows ≡ Some byte
        → (found ≡ Some byte) ⊎ (((is_same row.address a && row.byte == byte) || list_any (has_byte a byte) rows) ≡ true)
    step true is on h = elim (on (Some row.byte) h) [
      | inl one ↦ inr (rw (is, some_is row.byte byte one, itself byte) refl)
      | inr rest ↦ inr (later (is_same row.address a && row.byte == byte) (list_any (has_byte a byte) rows) rest)
    ]
    step false is on h = elim (on found h) [
      | inl one ↦ inl one
      | inr rest ↦ inr (later (is_same row.address a && row.byte == byte) (list_any (has_byte a byte) rows) rest)
    ]

none_there : (a : List ℕ) (found : Option ℕ) (rows : List ByteRow) → last_of a found rows ≡ None → (found ≡ None) × (list_any (is_at a) rows ≡ false)
none_there a found [] e = (e, refl)
none_there a found (row ∷ rows) e = step (is_same row.address a) refl (λ f. none_there a f rows) e
  where
    step : (b : Bool) → is_same row.address a ≡ b → ((f : Option ℕ) → last_of a f rows ≡ None → (f ≡ None) × (list_any (is_at a) rows ≡ false)) → last_of a (cond b (Some row.byte) found) rows ≡ None
        → (found ≡ None) × ((b || list_any (is_at a) rows) ≡ false)
    step true is on h = absurd (none_some row.byte (on (Some row.byte) h).0)
    step false is on h = on found h

-- what is found in order
none_found : (a : List ℕ) (xs : List ByteAt) → list_any (is_at a) (map byte_row xs) ≡ false → byte_found xs a ≡ None
none_found a [] e = refl
none_found a (x ∷ xs) e = step (is_same x.address a) (none_found a xs) e
  where
    step : (b : Bool) → (list_any (is_at a) (map byte_row xs) ≡ false → byte_found xs a ≡ None) → (b || list_any (is_at a) (map byte_row xs)) ≡ false
        → option_map (λ (at : ByteAt). at.byte) (cond b (Some x) (find (λ (at : ByteAt). is_same at.address a) xs)) ≡ None
    step true on h = absurd (true≢false h)
    step false on h = on h

not_behind : (a : List ℕ) (byte : ℕ) (x : ByteAt) → x.address ≡ a → (ys : List ByteAt) → AllByRecursion (IsBehind x) ys → list_any (has_byte a byte) (map byte_row ys) ≡ false
not_behind a byte x is [] all = refl
not_behind a byte x is (y ∷ ys) all = step (is_same y.address a) refl (not_behind a byte x is ys all.1)
  where
    step : (b : Bool) → is_same y.address a ≡ b → list_any (has_byte a byte) (map byte_row ys) ≡ false → ((b && y.byte == byte) || list_any (has_byte a byte) (map byte_row ys)) ≡ false
    step true e rest = absurd (never_before_itself x.address (subst (IsBefore x.address) (same_is y.address a e ∙ sym is) all.0))
    step false e rest = rest

byte_is_found : (a : List ℕ) (byte : ℕ) (xs : List ByteAt) → Ascend xs → list_any (has_byte a byte) (map byte_row xs) ≡ true → byte_found xs a ≡ Some byte
byte_is_found a byte [] up e = absurd (true≢false (sym e))
byte_is_found a byte (x ∷ xs) up e = step (is_same x.address a) refl (byte_is_found a byte xs up.1) e
  where
    number_is : (m n : ℕ) → (m == n) ≡ true → m ≡ n
    number_is m n f = grind (arith, nat_tests, f)

    here_or_later : (p : Bool) → (p || list_any (has_byte a byte) (map byte_row xs)) ≡ true → list_any (has_byte a byte) (map byte_row xs) ≡ false → p ≡ true
    here_or_later true h never = refl
    here_or_later false h never = absurd (true≢false (sym h ∙ never))

    step : (b : Bool) → is_same x.address a ≡ b → (list_any (has_byte a byte) (map byte_row xs) ≡ true → byte_found xs a ≡ Some byte) → ((b && x.byte == byte) || list_any (has_byte a byte) (map byte_row xs)) ≡ true
        → option_map (λ (at : ByteAt). at.byte) (cond b (Some x) (find (λ (at : ByteAt). is_same at.address a) xs)) ≡ Some byte
    step true is on h = ap Some (number_is x.byte byte (here_or_later (x.byte == byte) h (not_behind a byte x (same_is x.address a is) xs up.0)))
    step false is on h = on h

pub same_byte : (a : List ℕ) (xs : List ByteAt) (rows : List ByteRow) → Ascend xs → IsPermutation (map byte_row xs) rows → byte_found xs a ≡ byte_at rows a
same_byte a xs rows up moved = step (byte_at rows a) refl
  where
    step : (found : Option ℕ) → byte_at rows a ≡ found → byte_found xs a ≡ byte_at rows a
    step None e = none_found a xs (list_any-IsPermutation (is_at a) (map byte_row xs) rows moved ∙ (none_there a None rows e).1) ∙ sym e
    step (Some byte) e = elim (found_there a byte None rows e) [
      | inl none ↦ absurd (none_some byte (sym none))
      | inr there ↦ byte_is_found a byte xs up (list_any-IsPermutation (has_byte a byte) (map byte_row xs) rows moved ∙ there) ∙ sym e
    ]
