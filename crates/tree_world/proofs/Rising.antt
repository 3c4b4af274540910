-- Positions as the fewest intervals.
use Rattle.std.proofs.Common.{◌≡◌, ◌∙◌, ◌⊎◌, inl, inr, ℕ, zero, suc, ◌+◌, ◌-◌, ◌<◌, ◌≤◌, ◌==◌, ◌&&◌, ◌||◌, Bool, true, false, List, [], ◌∷◌, ◌++◌, map, cond, refl, sym, ap, subst, true≢false, arith, All}
use Rattle.std.proofs.lemmas.Bool.Decides.{nat_tests}
use Rattle.std.proofs.lemmas.List.Elements.{All-head, All-tail}
use Rattle.std.proofs.lemmas.List.Folds.{list_any-append}
use Rattle.std.specs.Prelude.{nat_le, nat_lt}
use Rattle.std.specs.List.{list_any, flat_map}
use Rattle.tumbler.specs.declared.span.Span.{Span}
use Rattle.world_rules.specs.Picking.{stretches_on, stretches, interval, intervals}
use Rattle.poom_compare.specs.declared.positions.Interval.{Interval}
use Rattle.poom_compare.specs.Placed.{is_in_some, IsInterval, AreApart}

abbrev pub positions_from : ℕ → ℕ → List ℕ
positions_from n zero = []
positions_from n (suc count) = n ∷ positions_from (n + 1) count

-- ---- numbers that rise

-- none is below a bound, and each is below the ones behind it
abbrev pub Rise : ℕ → List ℕ → Type 0
Rise low [] = Unit {0}
Rise low (n ∷ ns) = (low ≤ n) × Rise (n + 1) ns

abbrev pub has : List ℕ → ℕ → Bool
has numbers n = list_any (λ m. m == n) numbers

below_none : (low n : ℕ) (numbers : List ℕ) → Rise low numbers → n < low → has numbers n ≡ false
below_none low n [] rise less = refl
below_none low n (m ∷ numbers) rise less = (λ i. other m n rise.0 less i || below_none (m + 1) n numbers rise.1 (above m n rise.0 less) i)
  where
    other : (m n : ℕ) → low ≤ m → n < low → (m == n) ≡ false
    other m n le lt = grind (arith, nat_tests)

    above : (m n : ℕ) → low ≤ m → n < low → n < m + 1
    above m n le lt = omega arith

pub wider : (low less : ℕ) (numbers : List ℕ) → less ≤ low → Rise low numbers → Rise less numbers
wider low less [] le rise = tt
wider low less (n ∷ numbers) le rise = (below_too n rise.0, rise.1)
  where
    below_too : (n : ℕ) → low ≤ n → less ≤ n
    below_too n h = omega arith

own : (n : ℕ) (numbers : List ℕ) → has (n ∷ numbers) n ≡ true
own n numbers = ap (λ (b : Bool). b || has numbers n) (alike n)
  where
    alike : (n : ℕ) → (n == n) ≡ true
    alike n = grind (arith, nat_tests)

trichotomy : (x y : ℕ) → (x ≡ y) ⊎ ((x < y) ⊎ (y < x))
trichotomy x y = grind arith

-- numbers that rise are settled by which numbers there are
pub same_numbers : (low : ℕ) (xs ys : List ℕ) → Rise low xs → Rise low ys → ((n : ℕ) → has xs n ≡ has ys n) → xs ≡ ys
same_numbers low [] [] rise rise' same = refl
same_numbers low [] (y ∷ ys) rise rise' same = absurd (true≢false (sym (own y ys) ∙ sym (same y)))
same_numbers low (x ∷ xs) [] rise rise' same = absurd (true≢false (sym (own x xs) ∙ same x))
same_numbers low (x ∷ xs) (y ∷ ys) rise rise' same = elim (trichotomy x y) [
  | inl e ↦ alike e (λ up down rest. same_numbers (x + 1) xs ys up down rest)
  | inr differ ↦ elim differ [
    | inl less ↦ absurd (true≢false (sym (own x xs) ∙ same x ∙ (λ i. not_first y x less i || below_none (y + 1) x ys rise'.1 (next x y less) i)))
    | inr more ↦ absurd (true≢false (sym (own y ys) ∙ sym (same y) ∙ (λ i. not_first x y more i || below_none (x + 1) y xs rise.1 (next y x more) i)))
  ]
]
  where
    not_first : (m n : ℕ) → n < m → (m == n) ≡ false
    not_first m n h = grind (arith, nat_tests)

    next : (n m : ℕ) → n < m → n < m + 1
    next n m h = omega arith

    up_to : (n m : ℕ) → (n ≤ m) ⊎ (m < n)
    up_to n m = grind arith

    not_own : (n m : ℕ) → m < n → (m == n) ≡ false
    not_own n m h = grind (arith, nat_tests)

    alike : x ≡ y → (Rise (x + 1) xs → Rise (x + 1) ys → ((n : ℕ) → has xs n ≡ has ys n) → xs ≡ ys) → x ∷ xs ≡ y ∷ ys
    alike e rec =
        let down : Rise (x + 1) ys = subst (λ (n : ℕ). Rise (n + 1) ys) (sym e) rise'.1 in
        let rest : (n : ℕ) → has xs n ≡ has ys n = λ n. elim (up_to n x) [
          | inl le ↦ below_none (x + 1) n xs rise.1 (omega arith) ∙ sym (below_none (x + 1) n ys down (omega arith))
          | inr above ↦
              (λ i. sym (not_own n x above) i || has xs n) ∙ same n ∙ (λ i. (ap (λ (m : ℕ). m == n) (sym e) ∙ not_own n x above) i || has ys n)
        ] in
        (λ i. e i ∷ rec rise.1 down rest i)

-- ---- intervals one after another

-- none begins below a bound, none is empty, and between two there is a position
abbrev pub AreSpread : ℕ → List Interval → Type 0
AreSpread low [] = Unit {0}
AreSpread low (i ∷ intervals) = (low ≤ i.from) × (i.from < i.to) × AreSpread (i.to + 1) intervals

spread_on : (long low : ℕ) (intervals : List Interval) → All (IsInterval long) intervals → AreApart intervals → All (λ (i : Interval). low ≤ i.from) intervals → AreSpread low intervals
spread_on long low [] each apart above = tt
spread_on long low (i ∷ intervals) each apart above =
    let is = All-head (IsInterval long) i intervals each in (
      All-head (λ (j : Interval). low ≤ j.from) i intervals above,
      is.some,
      spread_on long (i.to + 1) intervals (All-tail (IsInterval long) i intervals each) (λ a b d lt within. apart (suc a) (suc b) d (omega arith) (omega arith))
          (λ k d lt. next i.to _ (apart 0 (suc k) d (omega arith) (omega arith))),
    )
  where
    next : (a b : ℕ) → a < b → a + 1 ≤ b
    next a b h = omega arith

pub spread : (long : ℕ) (intervals : List Interval) → All (IsInterval long) intervals → AreApart intervals → AreSpread 1 intervals
spread long intervals each apart = spread_on long 1 intervals each apart (λ k d lt. (each k d lt).from_one)

abbrev pub positions_of : Interval → List ℕ
positions_of i = positions_from i.from (i.to - i.from)

abbrev pub all_positions : List Interval → List ℕ
all_positions intervals = flat_map positions_of intervals

rise_more : (n count end : ℕ) (rest : List ℕ) → n + count ≤ end → Rise end rest → Rise n (positions_from n count ++ rest)
rise_more n zero end rest le rise = wider end n rest (omega (arith, le)) rise
rise_more n (suc count) end rest le rise = (omega arith, rise_more (n + 1) count end rest (omega (arith, le)) rise)

pub positions_rise : (low : ℕ) (intervals : List Interval) → AreSpread low intervals → Rise low (all_positions intervals)
positions_rise low [] spread = tt
positions_rise low (i ∷ intervals) spread =
    let rest = positions_rise (i.to + 1) intervals spread.2 in
    wider i.from low (all_positions (i ∷ intervals)) spread.0 (rise_more i.from (i.to - i.from) (i.to + 1) (all_positions intervals) (ends i.from i.to spread.1) rest)
  where
    ends : (a b : ℕ) → a < b → a + (b - a) ≤ b + 1
    ends a b h = omega arith

has_from : (n count m : ℕ) → has (positions_from n count) m ≡ (nat_le n m && nat_lt m (n + count))
has_from n zero m = none n m
  where
    none : (n m : ℕ) → false ≡ (nat_le n m && nat_lt m (n + 0))
    none n m = grind (arith, nat_tests)
has_from n (suc count) m = ap (λ (b : Bool). (n == m) || b) (has_from (n + 1) count m) ∙ one_more n count m
  where
    one_more : (n count m : ℕ) → ((n == m) || (nat_le (n + 1) m && nat_lt m ((n + 1) + count))) ≡ (nat_le n m && nat_lt m (n + suc count))
    one_more n count m = grind (arith, nat_tests)

pub all_had : (intervals : List Interval) (low n : ℕ) → AreSpread low intervals → has (all_positions intervals) n ≡ is_in_some intervals n
all_had [] low n spread = refl
all_had (i ∷ intervals) low n spread =
    list_any-append (λ m. m == n) (positions_of i) (all_positions intervals)
    ∙ (λ k. (has_from i.from (i.to - i.from) n ∙ ends i.from i.to spread.1) k || all_had intervals (i.to + 1) n spread.2 k)
  where
    ends : (a b : ℕ) → a < b → (nat_le a n && nat_lt n (a + (b - a))) ≡ (nat_le a n && nat_lt n b)
    ends a b h = let same : a + (b - a) ≡ b = omega arith in ap (λ (e : ℕ). nat_le a n && nat_lt n e) same

-- ---- their spans

abbrev pub span_of : Interval → Span
span_of i = record { start = 1 ∷ i.from ∷ []; width = 0 ∷ (i.to - i.from) ∷ [] }

abbrev pub follows : ℕ → ℕ → Bool
follows a b = b == a + 1

next_is : (n : ℕ) → follows n (n + 1) ≡ true
next_is n = grind (arith, nat_tests)

run_on : (first last count k : ℕ) (rest : List ℕ) → stretches_on follows first last count (positions_from (last + 1) k ++ rest) ≡ stretches_on follows first (last + k) (count + k) rest
run_on first last count zero rest = let same : last ≡ last + 0 = omega arith in let same' : count ≡ count + 0 = omega arith in (λ i. stretches_on follows first (same i) (same' i) rest)
run_on first last count (suc k) rest =
    let same : (last + 1) + k ≡ last + suc k = omega arith in
    let same' : (count + 1) + k ≡ count + suc k = omega arith in
    ap (λ (b : Bool). cond b (stretches_on follows first (last + 1) (count + 1) (positions_from (last + 1 + 1) k ++ rest)) (record { first = first; count = count } ∷ stretches_on follows (last + 1) (last + 1) 1 (positions_from (last + 1 + 1) k ++ rest))) (next_is last)
    ∙ run_on first (last + 1) (count + 1) k rest ∙ (λ i. stretches_on follows first (same i) (same' i) rest)

breaks : (first last count low : ℕ) (rest : List ℕ) → Rise low rest → last + 2 ≤ low → stretches_on follows first last count rest ≡ record { first = first; count = count } ∷ stretches follows rest
breaks first last count low [] rise le = refl
breaks first last count low (n ∷ rest) rise le = ap (λ (b : Bool). cond b (stretches_on follows first n (count + 1) rest) (record { first = first; count = count } ∷ stretches_on follows n n 1 rest)) (not_next n rise.0 le)
  where
    not_next : (n : ℕ) → low ≤ n → last + 2 ≤ low → follows last n ≡ false
    not_next n h l = grind (arith, nat_tests)

one_interval : (n k low : ℕ) (rest : List ℕ) → Rise low rest → n + k + 2 ≤ low → intervals (positions_from n (suc k) ++ rest) ≡ record { start = 1 ∷ n ∷ []; width = 0 ∷ suc k ∷ [] } ∷ intervals rest
one_interval n k low rest rise le =
    let counted : 1 + k ≡ suc k = omega arith in
    ap (map interval) (run_on n n 1 k rest ∙ breaks n (n + k) (1 + k) low rest rise le)
    ∙ (λ i. record { start = 1 ∷ n ∷ []; width = 0 ∷ counted i ∷ [] } ∷ intervals rest)

front_interval : (n count low : ℕ) (rest : List ℕ) → Rise low rest → 0 < count → n + count + 1 ≤ low → intervals (positions_from n count ++ rest) ≡ record { start = 1 ∷ n ∷ []; width = 0 ∷ count ∷ [] } ∷ intervals rest
front_interval n zero low rest rise some le = absurd (omega (arith, some))
front_interval n (suc k) low rest rise some le = one_interval n k low rest rise (omega (arith, le))

pub spans_are : (low : ℕ) (list : List Interval) → AreSpread low list → intervals (all_positions list) ≡ map span_of list
spans_are low [] spread = refl
spans_are low (i ∷ list) spread =
    front_interval i.from (i.to - i.from) (i.to + 1) (all_positions list) (positions_rise (i.to + 1) list spread.2) (filled i.from i.to spread.1) (ends i.from i.to spread.1)
    ∙ ap (λ (rest : List Span). span_of i ∷ rest) (spans_are (i.to + 1) list spread.2)
  where
    filled : (a b : ℕ) → a < b → 0 < b - a
    filled a b h = omega arith

    ends : (a b : ℕ) → a < b → a + (b - a) + 1 ≤ b + 1
    ends a b h = omega arith

-- intervals that come one after another, with positions between them, are the fewest of the positions that they have
pub fewest : (long : ℕ) (list : List Interval) (positions : List ℕ) → All (IsInterval long) list → AreApart list → Rise 1 positions → ((n : ℕ) → is_in_some list n ≡ has positions n) → map span_of list ≡ intervals positions
fewest long list positions each apart rise same =
    let s = spread long list each apart in
    sym (spans_are 1 list s) ∙ ap intervals (same_numbers 1 (all_positions list) positions (positions_rise 1 list s) rise (λ n. all_had list 1 n s ∙ same n))
