-- Addresses that differ in the last place alone, beside a place.
use Rattle.std.proofs.Common.{◌≡◌, ◌≢◌, ℕ, ◌+◌, ◌-◌, ◌<◌, ◌≤◌, Bool, true, false, not, List, [], ◌∷◌, ◌++◌, length, take, drop, get_or, refl, arith, ap, sym, subst, ◌∙◌, inl, inr}
use Rattle.std.specs.Prelude.{◌⊎◌, nat_eq, nat_lt}
use Rattle.std.specs.Cmp.Lexicographic.{pointwise, bytes_decides}
use Rattle.std.proofs.lemmas.Bool.{both_ways, not-true, not-false}
use Rattle.std.proofs.lemmas.Bool.Decides.{nat_tests}
use Rattle.std.proofs.lemmas.List.{take_more, take_all, drop_more, length-take-le, length-drop}
use Rattle.tumbler.specs.Places.{place, comes_before, IsBefore, IsUpTo}
use Rattle.tumbler.proofs.Order.{before_by_first, before_by_rest, before_cases, upto_by_rest, upto_if_before, upto_itself, upto_upto, upto_or_before}
use Rattle.tumbler.proofs.Before.{before_if_true, true_if_before, up_to_if_false, false_if_up_to, never_before_none}
use Rattle.poom.specs.Positions.{so_far_on}

-- ---- the last place

pub last_up_to : (front : List ℕ) (m k : ℕ) → m ≤ k → IsUpTo (front ++ m ∷ []) (front ++ k ∷ [])
last_up_to [] m k h = grind (arith, nat_tests)
last_up_to (f ∷ front) m k h = upto_by_rest f (front ++ m ∷ []) (front ++ k ∷ []) (last_up_to front m k h)

pub last_earlier : (front : List ℕ) (m k : ℕ) → m < k → IsBefore (front ++ m ∷ []) (front ++ k ∷ [])
last_earlier [] m k h = before_by_first m k [] [] h
last_earlier (f ∷ front) m k h = before_by_rest f (front ++ m ∷ []) (front ++ k ∷ []) (last_earlier front m k h)

-- ---- beside a place

past_too : (front : List ℕ) (m k : ℕ) (s : List ℕ) → m ≤ k → comes_before (front ++ m ∷ []) s ≡ false → comes_before (front ++ k ∷ []) s ≡ false
past_too front m k s h e = false_if_up_to (front ++ k ∷ []) s (upto_upto s (front ++ m ∷ []) (front ++ k ∷ []) (up_to_if_false (front ++ m ∷ []) s e) (last_up_to front m k h))

-- the place does not begin with the front
abbrev IsAside : List ℕ → List ℕ → Type 0
IsAside front s = (length s ≤ length front) ⊎ (take (length front) s ≢ front)

aside_behind : (f y : ℕ) (front s : List ℕ) → f ≡ y → IsAside (f ∷ front) (y ∷ s) → IsAside front s
aside_behind f y front s e (inl short) = inl (omega arith)
aside_behind f y front s e (inr differs) = inr (λ same. differs (ap (λ (z : ℕ). z ∷ take (length front) s) (sym e) ∙ ap (λ (t : List ℕ). f ∷ t) same))

before_too : (front : List ℕ) (m k : ℕ) (s : List ℕ) → IsAside front s → IsBefore (front ++ m ∷ []) s → IsBefore (front ++ k ∷ []) s
before_too [] m k [] aside b = absurd (never_before_none (m ∷ []) b)
before_too [] m k (y ∷ s) (inl short) b = absurd (omega arith)
before_too [] m k (y ∷ s) (inr differs) b = absurd (differs refl)
before_too (f ∷ front) m k [] aside b = absurd (never_before_none (f ∷ (front ++ m ∷ [])) b)
before_too (f ∷ front) m k (y ∷ s) aside b = elim (before_cases f y (front ++ m ∷ []) s b) [
  | inl less ↦ before_by_first f y (front ++ k ∷ []) s less
  | inr same ↦ subst (λ (z : ℕ). IsBefore (f ∷ (front ++ k ∷ [])) (z ∷ s)) same.0 (before_by_rest f (front ++ k ∷ []) s (before_too front m k s (aside_behind f y front s same.0 aside) same.1))
]

same_first : (f : ℕ) (a b : List ℕ) → comes_before (f ∷ a) (f ∷ b) ≡ comes_before a b
same_first f a b = elim (upto_or_before b a) [
  | inl le ↦ false_if_up_to (f ∷ a) (f ∷ b) (upto_by_rest f b a le) ∙ sym (false_if_up_to a b le)
  | inr lt ↦ true_if_before (f ∷ a) (f ∷ b) (before_by_rest f a b lt) ∙ sym (true_if_before a b lt)
]

-- the place begins with the front: what is behind it decides
by_number : (front : List ℕ) (x : ℕ) (s : List ℕ) → take (length front) s ≡ front → comes_before (front ++ x ∷ []) s ≡ comes_before (x ∷ []) (drop (length front) s)
by_number [] x s e = refl
by_number (f ∷ front) x [] e = cc
by_number (f ∷ front) x (y ∷ s) e =
    let first : y ≡ f = ap (λ (l : List ℕ). get_or l 0 y) e in
    let rest : take (length front) s ≡ front = ap (drop 1) e in
    subst (λ (z : ℕ). comes_before (f ∷ (front ++ x ∷ [])) (z ∷ s) ≡ comes_before (x ∷ []) (drop (length front) s)) (sym first) (same_first f (front ++ x ∷ []) s ∙ by_number front x s rest)

number_before : (x y : ℕ) (r : List ℕ) → x < y → comes_before (x ∷ []) (y ∷ r) ≡ true
number_before x y r h = true_if_before (x ∷ []) (y ∷ r) (before_by_first x y [] r h)

number_past : (x y : ℕ) (r : List ℕ) → y < x → comes_before (x ∷ []) (y ∷ r) ≡ false
number_past x y r h = false_if_up_to (x ∷ []) (y ∷ r) (upto_if_before (y ∷ r) (x ∷ []) (before_by_first y x r [] h))

same_number : (x y : ℕ) (r : List ℕ) → x ≡ y → length r ≡ 0 → comes_before (x ∷ []) (y ∷ r) ≡ false
same_number x y [] e h = subst (λ (z : ℕ). comes_before (x ∷ []) (z ∷ []) ≡ false) e (false_if_up_to (x ∷ []) (x ∷ []) (upto_itself (x ∷ [])))
same_number x y (z ∷ r) e h = absurd (omega arith)

number_longer : (x y : ℕ) (r : List ℕ) → x ≡ y → 1 ≤ length r → comes_before (x ∷ []) (y ∷ r) ≡ true
number_longer x y [] e h = absurd (omega arith)
number_longer x y (z ∷ r) e h = true_if_before (x ∷ []) (y ∷ z ∷ r) (subst (λ (w : ℕ). IsBefore (x ∷ []) (w ∷ z ∷ r)) e (before_by_rest x [] (z ∷ r) refl))

-- ---- an address and the ones that follow it

abbrev front_of : List ℕ → List ℕ
front_of a = take (length a - 1) a

abbrev last_of : List ℕ → ℕ
last_of a = place a (length a - 1)

ends_with : (a : List ℕ) → 1 ≤ length a → a ≡ front_of a ++ last_of a ∷ []
ends_with a h =
    let within : length a - 1 < length a = omega arith in
    let whole : (length a - 1) + 1 ≡ length a = omega arith in
    sym (take_all (length a) a (omega arith)) ∙ (ap (λ (k : ℕ). take k a) (sym whole) ∙ take_more a (length a - 1) 0 within)

front-long : (a : List ℕ) → length (front_of a) ≡ length a - 1
front-long a = length-take-le (length a - 1) a (omega arith)

lt_true : (k n : ℕ) → k < n → nat_lt k n ≡ true
lt_true k n h = grind (arith, nat_tests)

lt_false : (k n : ℕ) → n ≤ k → nat_lt k n ≡ false
lt_false k n h = grind (arith, nat_tests)

-- the first one does not come before the place: none does
pub none_before_it : (a s : List ℕ) (count k : ℕ) → 1 ≤ length a → comes_before a s ≡ false → k < count → comes_before (so_far_on a k) s ≡ nat_lt k 0
none_before_it a s count k some e l =
    past_too (front_of a) (last_of a) (last_of a + k) s (omega arith) (ap (λ (b : List ℕ). comes_before b s) (sym (ends_with a some)) ∙ e) ∙ sym (lt_false k 0 (omega arith))

all_of_them : (a s : List ℕ) (count k : ℕ) → 1 ≤ length a → comes_before a s ≡ true → IsAside (front_of a) s → k < count → comes_before (so_far_on a k) s ≡ nat_lt k count
all_of_them a s count k some e aside l =
    let first : IsBefore (front_of a ++ last_of a ∷ []) s = subst (λ (b : List ℕ). IsBefore b s) (ends_with a some) (before_if_true a s e) in
    true_if_before (so_far_on a k) s (before_too (front_of a) (last_of a) (last_of a + k) s aside first) ∙ sym (lt_true k count l)

-- the first one comes before a place that is too short
pub all_before_short : (a s : List ℕ) (count n k : ℕ) → 1 ≤ length a → comes_before a s ≡ true → n ≡ length a - 1 → length s ≤ n → k < count → comes_before (so_far_on a k) s ≡ nat_lt k count
all_before_short a s count n k some e at short l = let long = front-long a in all_of_them a s count k some e (inl (omega arith)) l

-- or has another front
pub all_before_other : (a s : List ℕ) (count n k : ℕ) → 1 ≤ length a → comes_before a s ≡ true → n ≡ length a - 1 → take n s ≢ take n a → k < count → comes_before (so_far_on a k) s ≡ nat_lt k count
all_before_other a s count n k some e at differs l =
    let long = front-long a in
    let here : length (front_of a) ≡ n = omega arith in
    all_of_them a s count k some e (inr (λ same. differs (ap (λ (j : ℕ). take j s) (sym here) ∙ (same ∙ ap (λ (j : ℕ). take j a) (sym at))))) l

-- the place has the same front
record IsBeside (a s : List ℕ) (n : ℕ) : Type 0 where
  some : 1 ≤ length a
  at : n ≡ length a - 1
  within : n < length s
  same : take n s ≡ take n a

beside_number : (a s : List ℕ) (n x : ℕ) → IsBeside a s n → comes_before (front_of a ++ x ∷ []) s ≡ comes_before (x ∷ []) (place s n ∷ drop (n + 1) s)
beside_number a s n x b =
    let long = front-long a in
    let at = b.at in
    let here : length (front_of a) ≡ n = omega arith in
    let front : take (length (front_of a)) s ≡ front_of a = ap (λ (j : ℕ). take j s) here ∙ (b.same ∙ ap (λ (j : ℕ). take j a) at) in
    by_number (front_of a) x s front ∙ ap (comes_before (x ∷ [])) (ap (λ (j : ℕ). drop j s) here ∙ drop_more s n 0 b.within)

beside_first : (a s : List ℕ) (n : ℕ) → IsBeside a s n → comes_before a s ≡ comes_before (last_of a ∷ []) (place s n ∷ drop (n + 1) s)
beside_first a s n b = ap (λ (p : List ℕ). comes_before p s) (ends_with a b.some) ∙ beside_number a s n (last_of a) b

pub reaches_number : (a s : List ℕ) (n : ℕ) → 1 ≤ length a → comes_before a s ≡ true → n ≡ length a - 1 → n < length s → take n s ≡ take n a → place a n ≤ place s n
reaches_number a s n some e at within same =
    let b : IsBeside a s n = record { some = some; at = at; within = within; same = same } in
    let split : (place s n < last_of a) ⊎ (last_of a ≤ place s n) = grind arith in
    let here : place a n ≡ last_of a = ap (place a) at in
    elim split [
      | inl less ↦ absurd (let no = number_past (last_of a) (place s n) (drop (n + 1) s) less in let yes = sym (beside_first a s n b) ∙ e in cc)
      | inr le ↦ omega arith
    ]

-- more of them come before it than there are
pub all_before_far : (a s : List ℕ) (count n k : ℕ) → 1 ≤ length a → comes_before a s ≡ true → n ≡ length a - 1 → n < length s → take n s ≡ take n a → count ≤ place s n - place a n → k < count
    → comes_before (so_far_on a k) s ≡ nat_lt k count
all_before_far a s count n k some e at within same far l =
    let b : IsBeside a s n = record { some = some; at = at; within = within; same = same } in
    let here : place a n ≡ last_of a = ap (place a) at in
    beside_number a s n (last_of a + k) b ∙ (number_before (last_of a + k) (place s n) (drop (n + 1) s) (omega arith) ∙ sym (lt_true k count l))

-- as many as the number tells
pub some_before : (a s : List ℕ) (count n k : ℕ) → 1 ≤ length a → comes_before a s ≡ true → n ≡ length a - 1 → n < length s → take n s ≡ take n a → length s ≡ n + 1 → k < count
    → comes_before (so_far_on a k) s ≡ nat_lt k (place s n - place a n)
some_before a s count n k some e at within same ends l =
    let b : IsBeside a s n = record { some = some; at = at; within = within; same = same } in
    let le = reaches_number a s n some e at within same in
    let here : place a n ≡ last_of a = ap (place a) at in
    let none : length (drop (n + 1) s) ≡ 0 = omega (arith, length-drop (n + 1) s) in
    let split : (last_of a + k < place s n) ⊎ ((last_of a + k ≡ place s n) ⊎ (place s n < last_of a + k)) = grind arith in
    beside_number a s n (last_of a + k) b
    ∙ elim split [
      | inl less ↦ number_before (last_of a + k) (place s n) (drop (n + 1) s) less ∙ sym (lt_true k (place s n - place a n) (omega arith))
      | inr more ↦ elim more [
        | inl equal ↦ same_number (last_of a + k) (place s n) (drop (n + 1) s) equal none ∙ sym (lt_false k (place s n - place a n) (omega arith))
        | inr past ↦ number_past (last_of a + k) (place s n) (drop (n + 1) s) past ∙ sym (lt_false k (place s n - place a n) (omega arith))
      ]
    ]

-- and one more, where the place goes on behind it
pub one_more_before : (a s : List ℕ) (count n k : ℕ) → 1 ≤ length a → comes_before a s ≡ true → n ≡ length a - 1 → n < length s → take n s ≡ take n a → length s ≢ n + 1 → k < count
    → comes_before (so_far_on a k) s ≡ nat_lt k ((place s n - place a n) + 1)
one_more_before a s count n k some e at within same ends l =
    let b : IsBeside a s n = record { some = some; at = at; within = within; same = same } in
    let le = reaches_number a s n some e at within same in
    let here : place a n ≡ last_of a = ap (place a) at in
    let more : 1 ≤ length (drop (n + 1) s) = omega (arith, length-drop (n + 1) s) in
    let split : (last_of a + k < place s n) ⊎ ((last_of a + k ≡ place s n) ⊎ (place s n < last_of a + k)) = grind arith in
    beside_number a s n (last_of a + k) b
    ∙ elim split [
      | inl less ↦ number_before (last_of a + k) (place s n) (drop (n + 1) s) less ∙ sym (lt_true k ((place s n - place a n) + 1) (omega arith))
      | inr not_less ↦ elim not_less [
        | inl equal ↦ number_longer (last_of a + k) (place s n) (drop (n + 1) s) equal more ∙ sym (lt_true k ((place s n - place a n) + 1) (omega arith))
        | inr past ↦ number_past (last_of a + k) (place s n) (drop (n + 1) s) past ∙ sym (lt_false k ((place s n - place a n) + 1) (omega arith))
      ]
    ]

-- ---- what the code read

bridge : (a s own places : List ℕ) (k : ℕ) (b : Bool) → own ≡ a → places ≡ s → comes_before (so_far_on own k) places ≡ b → comes_before (so_far_on a k) s ≡ b
bridge a s own places k b oe pe e = ap (λ (x : List ℕ). comes_before (so_far_on x k) s) (sym oe) ∙ (ap (comes_before (so_far_on own k)) (sym pe) ∙ e)

record IsRead (a s own places : List ℕ) : Type 0 where
  some : 1 ≤ length own
  before : comes_before own places ≡ true

read : (a s own places : List ℕ) → own ≡ a → places ≡ s → 1 ≤ length a → true ≡ comes_before a s → IsRead a s own places
read a s own places oe pe some e = let long = ap length oe in record { some = omega arith; before = ap (λ (x : List ℕ). comes_before x places) oe ∙ (ap (comes_before a) pe ∙ sym e) }

fronts_differ : (n : ℕ) (own places f g : List ℕ) → f ≡ take n places → g ≡ take n own → true ≡ not (pointwise nat_eq f g) → take n places ≢ take n own
fronts_differ n own places f g fe ge t = λ same. both_ways (pointwise nat_eq f g) (not-true (pointwise nat_eq f g) (sym t)) ((bytes_decides f g).1 (fe ∙ (same ∙ sym ge)))

fronts_same : (n : ℕ) (own places f g : List ℕ) → f ≡ take n places → g ≡ take n own → false ≡ not (pointwise nat_eq f g) → take n places ≡ take n own
fronts_same n own places f g fe ge t = sym fe ∙ ((bytes_decides f g).0 (not-false (pointwise nat_eq f g) (sym t)) ∙ ge)

pub read_short : (a s own places : List ℕ) (count k : ℕ) → own ≡ a → places ≡ s → 1 ≤ length a → true ≡ comes_before a s → length places ≤ length own - 1 → k < count → comes_before (so_far_on a k) s ≡ nat_lt k count
read_short a s own places count k oe pe some e short l =
    let r = read a s own places oe pe some e in bridge a s own places k (nat_lt k count) oe pe (all_before_short own places count (length own - 1) k r.some r.before refl short l)

pub read_other : (a s own places f g : List ℕ) (count k : ℕ) → own ≡ a → places ≡ s → 1 ≤ length a → true ≡ comes_before a s → f ≡ take (length own - 1) places → g ≡ take (length own - 1) own → true ≡ not (pointwise nat_eq f g) → k < count
    → comes_before (so_far_on a k) s ≡ nat_lt k count
read_other a s own places f g count k oe pe some e fe ge t l =
    let r = read a s own places oe pe some e in
    bridge a s own places k (nat_lt k count) oe pe (all_before_other own places count (length own - 1) k r.some r.before refl (fronts_differ (length own - 1) own places f g fe ge t) l)

pub read_reaches : (a s own places f g : List ℕ) → own ≡ a → places ≡ s → 1 ≤ length a → true ≡ comes_before a s → length own - 1 < length places → f ≡ take (length own - 1) places → g ≡ take (length own - 1) own → false ≡ not (pointwise nat_eq f g)
    → place own (length own - 1) ≤ place places (length own - 1)
read_reaches a s own places f g oe pe some e within fe ge t =
    let r = read a s own places oe pe some e in reaches_number own places (length own - 1) r.some r.before refl within (fronts_same (length own - 1) own places f g fe ge t)

pub read_far : (a s own places f g : List ℕ) (count k : ℕ) → own ≡ a → places ≡ s → 1 ≤ length a → true ≡ comes_before a s → length own - 1 < length places → f ≡ take (length own - 1) places → g ≡ take (length own - 1) own → false ≡ not (pointwise nat_eq f g)
    → count ≤ place places (length own - 1) - place own (length own - 1) → k < count → comes_before (so_far_on a k) s ≡ nat_lt k count
read_far a s own places f g count k oe pe some e within fe ge t far l =
    let r = read a s own places oe pe some e in
    bridge a s own places k (nat_lt k count) oe pe (all_before_far own places count (length own - 1) k r.some r.before refl within (fronts_same (length own - 1) own places f g fe ge t) far l)

pub read_there : (a s own places f g : List ℕ) (count k : ℕ) → own ≡ a → places ≡ s → 1 ≤ length a → true ≡ comes_before a s → length own - 1 < length places → f ≡ take (length own - 1) places → g ≡ take (length own - 1) own → false ≡ not (pointwise nat_eq f g)
    → length places ≡ (length own - 1) + 1 → k < count → comes_before (so_far_on a k) s ≡ nat_lt k (place places (length own - 1) - place own (length own - 1))
read_there a s own places f g count k oe pe some e within fe ge t ends l =
    let r = read a s own places oe pe some e in
    bridge a s own places k (nat_lt k (place places (length own - 1) - place own (length own - 1))) oe pe (some_before own places count (length own - 1) k r.some r.before refl within (fronts_same (length own - 1) own places f g fe ge t) ends l)

pub read_behind : (a s own places f g : List ℕ) (count k : ℕ) → own ≡ a → places ≡ s → 1 ≤ length a → true ≡ comes_before a s → length own - 1 < length places → f ≡ take (length own - 1) places → g ≡ take (length own - 1) own → false ≡ not (pointwise nat_eq f g)
    → length places ≢ (length own - 1) + 1 → k < count → comes_before (so_far_on a k) s ≡ nat_lt k ((place places (length own - 1) - place own (length own - 1)) + 1)
read_behind a s own places f g count k oe pe some e within fe ge t more l =
    let r = read a s own places oe pe some e in
    bridge a s own places k (nat_lt k ((place places (length own - 1) - place own (length own - 1)) + 1)) oe pe (one_more_before own places count (length own - 1) k r.some r.before refl within (fronts_same (length own - 1) own places f g fe ge t) more l)

pub ruleset counting = (none_before_it, read_short, read_far)
