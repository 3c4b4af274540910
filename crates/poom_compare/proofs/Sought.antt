-- Segments that are sought by how they begin.
use Rattle.std.proofs.Common.{◌≡◌, ℕ, zero, suc, ◌+◌, ◌*◌, ◌<◌, ◌≤◌, ◌∙◌, ◌&&◌, ◌++◌, ◌∷◌, [], Bool, List, length, take, map, not, true, false, ap, sym, refl, subst, cond, arith, All, get_or, append-nil, append_assoc, inl, inr}
use Rattle.std.specs.Prelude.{filter, nat_lt, nat_le, ◌⊎◌}
use Rattle.std.specs.List.Sorted.{IsNonDecreasingBy, IsPartitionPoint}
use Rattle.std.proofs.lemmas.Bool.{true≢false}
use Rattle.std.proofs.lemmas.Bool.Decides.{nat_tests}
use Rattle.std.proofs.lemmas.List.{take_all, map-append}
use Rattle.std.proofs.lemmas.List.Elements.{filter_more}
use Rattle.world_rules.specs.declared.pairs.Pair.{Pair}
use Rattle.poom_compare.specs.declared.segment.Segment.{Segment}
use Rattle.poom_compare.specs.declared.segment.Side.{Side}
use Rattle.poom_compare.specs.declared.segment.Side.TheVariants.{Left, Right}
use Rattle.poom_compare.specs.Segments.{IsSegment, IsSplit, begin_key, is_same_byte, number_before, least_of, pair_of, is_start_in, starts_in}

lt_yes : (a b : ℕ) → nat_lt a b ≡ true → a < b
lt_yes a b e = grind (arith, nat_tests)

lt_no : (a b : ℕ) → nat_lt a b ≡ false → b ≤ a
lt_no a b e = grind (arith, nat_tests)

le_yes : (a b : ℕ) → nat_le a b ≡ true → a < b + 1
le_yes a b e = grind (arith, nat_tests)

le_no : (a b : ℕ) → nat_le a b ≡ false → b + 1 ≤ a
le_no a b e = grind (arith, nat_tests)

pub split_below : (list : List Segment) (key place : ℕ) → place ≤ length list → IsPartitionPoint (λ y. nat_lt (begin_key y) key ≡ true) (λ y. nat_lt (begin_key y) key ≡ false) list place → IsSplit key list place
split_below list key place within point = record {
  within = within;
  front = λ k d lt. lt_yes (begin_key (get_or list k d)) key (point.0 k d (omega arith) lt);
  back = λ k d from lt. lt_no (begin_key (get_or list k d)) key (point.1 k d from lt);
}

pub split_upto : (list : List Segment) (key place : ℕ) → place ≤ length list → IsPartitionPoint (λ y. nat_le (begin_key y) key ≡ true) (λ y. nat_le (begin_key y) key ≡ false) list place → IsSplit (key + 1) list place
split_upto list key place within point = record {
  within = within;
  front = λ k d lt. le_yes (begin_key (get_or list k d)) key (point.0 k d (omega arith) lt);
  back = λ k d from lt. le_no (begin_key (get_or list k d)) key (point.1 k d from lt);
}

-- ---- which begin a diagonal

test_is : (side : Side) (outer inner : Segment) (a b c : Bool) → nat_le (least_of side outer) inner.first ≡ a → nat_lt inner.first (outer.first + outer.length) ≡ b → is_same_byte (number_before outer inner.first) inner.before ≡ c → is_start_in side outer inner ≡ (a && (b && not c))
test_is side outer inner a b c e f g = λ i. e i && (f i && not (g i))

le_if : (a b : ℕ) → a ≤ b → nat_le a b ≡ true
le_if a b l = grind (arith, nat_tests)

lt_if : (a b : ℕ) → a < b → nat_lt a b ≡ true
lt_if a b l = grind (arith, nat_tests)

le_not : (a b : ℕ) → b < a → nat_le a b ≡ false
le_not a b l = grind (arith, nat_tests)

lt_not : (a b : ℕ) → b ≤ a → nat_lt a b ≡ false
lt_not a b l = grind (arith, nat_tests)

not_true : (t : Bool) → not t ≡ true → t ≡ false
not_true true e = absurd (true≢false (sym e))
not_true false e = refl

not_false : (t : Bool) → not t ≡ false → t ≡ true
not_false true e = refl
not_false false e = absurd (true≢false e)

first_test : (a b c : Bool) → a ≡ false → (a && (b && not c)) ≡ false
first_test a b c e = ap (λ (t : Bool). t && (b && not c)) e

and_false : (a : Bool) → (a && false) ≡ false
and_false true = refl
and_false false = refl

second_test : (a b c : Bool) → b ≡ false → (a && (b && not c)) ≡ false
second_test a b c e = ap (λ (t : Bool). a && (t && not c)) e ∙ and_false a

third_test : (a b c : Bool) → c ≡ true → (a && (b && not c)) ≡ false
third_test a b c e = ap (λ (t : Bool). a && (b && not t)) e ∙ (ap (λ (t : Bool). a && t) (and_false b) ∙ and_false a)

starts_if : (side : Side) (outer inner : Segment) → least_of side outer ≤ inner.first → inner.first < outer.first + outer.length → not (is_same_byte (number_before outer inner.first) inner.before) ≡ true → is_start_in side outer inner ≡ true
starts_if side outer inner l m e =
    test_is side outer inner true true false (le_if (least_of side outer) inner.first l) (lt_if inner.first (outer.first + outer.length) m) (not_true (is_same_byte (number_before outer inner.first) inner.before) e)

none_low : (side : Side) (outer inner : Segment) → inner.first < least_of side outer → is_start_in side outer inner ≡ false
none_low side outer inner l =
    first_test (nat_le (least_of side outer) inner.first) (nat_lt inner.first (outer.first + outer.length)) (is_same_byte (number_before outer inner.first) inner.before) (le_not (least_of side outer) inner.first l)

none_high : (side : Side) (outer inner : Segment) → outer.first + outer.length ≤ inner.first → is_start_in side outer inner ≡ false
none_high side outer inner l =
    second_test (nat_le (least_of side outer) inner.first) (nat_lt inner.first (outer.first + outer.length)) (is_same_byte (number_before outer inner.first) inner.before) (lt_not inner.first (outer.first + outer.length) l)

none_joined : (side : Side) (outer inner : Segment) → is_same_byte (number_before outer inner.first) inner.before ≡ true → is_start_in side outer inner ≡ false
none_joined side outer inner e = third_test (nat_le (least_of side outer) inner.first) (nat_lt inner.first (outer.first + outer.length)) (is_same_byte (number_before outer inner.first) inner.before) e

-- ---- keys

low_key : (first before number : ℕ) → first * 18446744073709551616 + before < number * 18446744073709551616 → first < number
low_key first before number l = omega arith

from_key : (first before number : ℕ) → before < 4611686018427387904 → number * 18446744073709551616 ≤ first * 18446744073709551616 + before → number ≤ first
from_key first before number b l = omega arith

high_key : (first before other other_before end : ℕ) → other_before < 4611686018427387904 → end ≤ first → first * 18446744073709551616 + before ≤ other * 18446744073709551616 + other_before → end ≤ other
high_key first before other other_before end b l m = omega arith

same_key : (first before other other_before : ℕ) → before < 4611686018427387904 → other_before < 4611686018427387904 → first * 18446744073709551616 + before ≤ other * 18446744073709551616 + other_before
    → other * 18446744073709551616 + other_before < first * 18446744073709551616 + before + 1 → (other ≡ first) × (other_before ≡ before)
same_key first before other other_before b c l m = (omega arith, omega arith)

-- ---- what a search passes over

passed_over : {X : Type 0} (p : X → Bool) (xs : List X) (k n : ℕ) → k ≤ n → n ≤ length xs → ((j : ℕ) (d : X) → k ≤ j → j < n → p (get_or xs j d) ≡ false) → filter p (take n xs) ≡ filter p (take k xs)
passed_over p xs k zero le within none = let is : 0 ≡ k = omega arith in ap (λ (m : ℕ). filter p (take m xs)) is
passed_over {X = X} p [] k (suc n) le within none = absurd (omega arith)
passed_over {X = X} p (x ∷ xs) zero (suc n) le within none = step (p x) (none 0 x (omega arith) (omega arith)) (passed_over p xs 0 n (omega arith) (omega arith) (λ j d l m. none (suc j) d (omega arith) (omega arith)))
  where
    step : (b : Bool) → b ≡ false → filter p (take n xs) ≡ [] → cond b (x ∷ filter p (take n xs)) (filter p (take n xs)) ≡ []
    step true e rest = absurd (true≢false e)
    step false e rest = rest
passed_over {X = X} p (x ∷ xs) (suc k) (suc n) le within none =
    ap (λ (ys : List X). cond (p x) (x ∷ ys) ys) (passed_over p xs k n (omega arith) (omega arith) (λ j d l m. none (suc j) d (omega arith) (omega arith)))

pub any_default : (xs : List Segment) (n : ℕ) (a b : Segment) → n < length xs → get_or xs n a ≡ get_or xs n b
any_default [] n a b lt = absurd (omega arith)
any_default (z ∷ zs) zero a b lt = refl
any_default (z ∷ zs) (suc n) a b lt = any_default zs n a b (omega arith)

-- what is behind a segment and does not begin like it is further on
pub further : (list : List Segment) (k n : ℕ) (inner : Segment) → k < length list → inner ≡ get_or list k inner → IsSplit (begin_key inner + 1) list n → k < n
further list k n inner lt is split = go (later n k)
  where
    later : (a b : ℕ) → (b < a) ⊎ (a ≤ b)
    later a b = grind arith

    go : (k < n) ⊎ (n ≤ k) → k < n
    go (inl less) = less
    go (inr le) =
        let key : begin_key inner + 1 ≤ begin_key inner = subst (λ (s : Segment). begin_key inner + 1 ≤ begin_key s) (sym is) (split.back k inner le lt) in
        absurd (omega arith)

-- the search up to some place
abbrev pub Sought : Side → Segment → List Segment → ℕ → List Pair → List Pair → Type 0
Sought side outer inners k old now = now ≡ old ++ map (pair_of side outer) (filter (is_start_in side outer) (take k inners))

pub sought_none : (side : Side) (outer : Segment) (inners : List Segment) (from : ℕ) (found : List Pair) → IsSplit (least_of side outer * 18446744073709551616) inners from → Sought side outer inners from found found
sought_none side outer inners from found split =
    sym (append-nil found)
    ∙ ap (λ (ss : List Segment). found ++ map (pair_of side outer) ss)
    (sym (passed_over (is_start_in side outer) inners 0 from (omega arith) split.within
    (λ j d _ lt. none_low side outer (get_or inners j d) (low_key (get_or inners j d).first (get_or inners j d).before (least_of side outer) (split.front j d lt)))))

pub sought_more : (side : Side) (outer : Segment) (inners : List Segment) (k n : ℕ) (inner : Segment) (old now new : List Pair) (pair : Pair) → Sought side outer inners k old now → k < length inners → inner ≡ get_or inners k inner
    → is_start_in side outer inner ≡ true → pair ≡ pair_of side outer inner → new ≡ now ++ pair ∷ [] → n ≡ k + 1 → Sought side outer inners n old new
sought_more side outer inners k n inner old now new pair sought lt is starts made pushed next =
    pushed
    ∙ (ap (λ (ps : List Pair). ps ++ pair ∷ []) sought
    ∙ (append_assoc old (map (pair_of side outer) (filter (is_start_in side outer) (take k inners))) (pair ∷ [])
    ∙ ap (λ (ps : List Pair). old ++ ps)
    (ap (λ (p : Pair). map (pair_of side outer) (filter (is_start_in side outer) (take k inners)) ++ p ∷ []) (made ∙ ap (pair_of side outer) is)
    ∙ (sym (map-append (pair_of side outer) (filter (is_start_in side outer) (take k inners)) (get_or inners k inner ∷ []))
    ∙ ap (map (pair_of side outer))
    (sym (ap (λ (m : ℕ). filter (is_start_in side outer) (take m inners)) next
    ∙ (filter_more (is_start_in side outer) inners k inner lt
    ∙ ap (λ (b : Bool). filter (is_start_in side outer) (take k inners) ++ cond b (get_or inners k inner ∷ []) []) (ap (is_start_in side outer) (sym is) ∙ starts))))))))

pub sought_begins : (side : Side) (outer : Segment) (inners : List Segment) (from k : ℕ) (inner : Segment) → All IsSegment inners → IsSplit (least_of side outer * 18446744073709551616) inners from → from ≤ k → k < length inners
    → inner ≡ get_or inners k inner → inner.first < outer.first + outer.length → not (is_same_byte (number_before outer inner.first) inner.before) ≡ true → is_start_in side outer inner ≡ true
sought_begins side outer inners from k inner right split le lt is below begins =
    let right' : IsSegment inner = subst IsSegment (sym is) (right k inner lt) in
    let key : least_of side outer * 18446744073709551616 ≤ begin_key inner = subst (λ (s : Segment). least_of side outer * 18446744073709551616 ≤ begin_key s) (sym is) (split.back k inner le lt) in
    starts_if side outer inner (from_key inner.first inner.before (least_of side outer) right'.before_fits key) below begins

pub sought_past : (side : Side) (outer : Segment) (inners : List Segment) (k n : ℕ) (inner : Segment) (old now : List Pair) → Sought side outer inners k old now → All IsSegment inners → IsNonDecreasingBy begin_key inners → k < length inners
    → inner ≡ get_or inners k inner → not (is_same_byte (number_before outer inner.first) inner.before) ≡ false → IsSplit (begin_key inner + 1) inners n → Sought side outer inners n old now
sought_past side outer inners k n inner old now sought right up lt is joined split =
    sought
    ∙ ap (λ (ss : List Segment). old ++ map (pair_of side outer) ss) (sym (passed_over (is_start_in side outer) inners k n (omega (arith, further inners k n inner lt is split)) split.within none))
  where
    none : (j : ℕ) (d : Segment) → k ≤ j → j < n → is_start_in side outer (get_or inners j d) ≡ false
    none j d le less =
        let within = split.within in
        let low : begin_key inner ≤ begin_key (get_or inners j d) = subst (λ (s : Segment). begin_key s ≤ begin_key (get_or inners j d)) (sym is) (same_place (up k j inner le (omega arith))) in
        let key = same_key inner.first inner.before (get_or inners j d).first (get_or inners j d).before (subst IsSegment (sym is) (right k inner lt)).before_fits (right j d (omega arith)).before_fits low (split.front j d less) in
        none_joined side outer (get_or inners j d)
        ((λ i. is_same_byte (number_before outer (key.0 i)) (key.1 i)) ∙ not_false (is_same_byte (number_before outer inner.first) inner.before) joined)
      where
        same_place : begin_key (get_or inners k inner) ≤ begin_key (get_or inners j inner) → begin_key (get_or inners k inner) ≤ begin_key (get_or inners j d)
        same_place l = let within = split.within in subst (λ (s : Segment). begin_key (get_or inners k inner) ≤ begin_key s) (any_default inners j inner d (omega arith)) l

pub sought_high : (side : Side) (outer : Segment) (inners : List Segment) (k : ℕ) (inner : Segment) (old now : List Pair) → Sought side outer inners k old now → All IsSegment inners → IsNonDecreasingBy begin_key inners → k < length inners
    → inner ≡ get_or inners k inner → outer.first + outer.length ≤ inner.first → now ≡ old ++ starts_in side inners outer
sought_high side outer inners k inner old now sought right up lt is high =
    sought
    ∙ ap (λ (ss : List Segment). old ++ map (pair_of side outer) ss)
    (sym (passed_over (is_start_in side outer) inners k (length inners) (omega arith) (omega arith)
    (λ j d le less.
    let from : begin_key (get_or inners k d) ≤ begin_key (get_or inners j d) = up k j d le less in
    let at : inner ≡ get_or inners k d = is ∙ any_default inners k inner d lt in
    let low : begin_key inner ≤ begin_key (get_or inners j d) = subst (λ (s : Segment). begin_key s ≤ begin_key (get_or inners j d)) (sym at) from in
    none_high side outer (get_or inners j d) (high_key inner.first inner.before (get_or inners j d).first (get_or inners j d).before (outer.first + outer.length) (right j d less).before_fits high low)))
    ∙ ap (filter (is_start_in side outer)) (take_all (length inners) inners (omega arith)))

pub sought_all : (side : Side) (outer : Segment) (inners : List Segment) (k : ℕ) (old now : List Pair) → Sought side outer inners k old now → length inners ≤ k → now ≡ old ++ starts_in side inners outer
sought_all side outer inners k old now sought le = sought ∙ ap (λ (ss : List Segment). old ++ map (pair_of side outer) (filter (is_start_in side outer) ss)) (take_all k inners le)

pub least_from : (side : Side) (outer : Segment) → outer.first ≤ least_of side outer
least_from Left outer = omega arith
least_from Right outer = omega arith

pub outer_from : (side : Side) (outer : Segment) (inners : List Segment) (from k : ℕ) (inner : Segment) → All IsSegment inners → IsSplit (least_of side outer * 18446744073709551616) inners from → from ≤ k → k < length inners → inner ≡ get_or inners k inner → outer.first ≤ inner.first
outer_from side outer inners from k inner right split le lt is =
    let right' : IsSegment inner = subst IsSegment (sym is) (right k inner lt) in
    let key : least_of side outer * 18446744073709551616 ≤ begin_key inner = subst (λ (s : Segment). least_of side outer * 18446744073709551616 ≤ begin_key s) (sym is) (split.back k inner le lt) in
    let least = from_key inner.first inner.before (least_of side outer) right'.before_fits key in
    let low = least_from side outer in
    omega arith
