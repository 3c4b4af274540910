-- How the addresses of content bytes lie in the spans of runs.
use Rattle.std.proofs.Common.{◌≡◌, ◌∙◌, ◌⊎◌, inl, inr, ℕ, zero, suc, ◌+◌, ◌-◌, ◌<◌, ◌&&◌, Bool, true, false, not, List, [], ◌∷◌, ◌++◌, length, take, max, min, cond, refl, sym, ap, subst, arith, append_assoc, All}
use Rattle.std.proofs.lemmas.Bool.Decides.{nat_tests}
use Rattle.std.proofs.lemmas.List.Elements.{All-head, All-tail}
use Rattle.std.specs.Prelude.{nat_le, nat_lt, replicate, slice_index}
use Rattle.std.specs.Cmp.Lexicographic.{slice_cmp, nat_list_cmp_total, bytes_decides}
use Rattle.std.specs.Ordering.{nat_cmp, is_lt, ordering_reverse}
use Rattle.tumbler.specs.Places.{comes_before, place, sum, width_at, IsBefore}
use Rattle.tumbler.specs.Address.{IsDocument}
use Rattle.tumbler.proofs.Order.{before_by_first, before_by_rest, never_before_itself}
use Rattle.tumbler.proofs.DifferenceSteps.{slice_cmp-same}
use Rattle.febe_data.specs.declared.run.Run.{Run}
use Rattle.enfilade_core.specs.Axes.{later}
use Rattle.enfilade_search.specs.Meeting.{touches}
use Rattle.poom.specs.Picked.{is_picked}
use Rattle.links.specs.LinkLists.{IsRun, run_span}
use Rattle.links.specs.Finding.{spans_meet}
use Rattle.world_rules.specs.World.{is_same, content_address}
use Rattle.world_rules.specs.Picking.{content_of, number_of, is_in_run}
use Rattle.world_rules.specs.Meeting.{shares_byte}

-- ---- fronts with as many zeros

-- how many places are 0
abbrev zeros : List ℕ → ℕ
zeros [] = 0
zeros (zero ∷ xs) = suc (zeros xs)
zeros (suc x ∷ xs) = zeros xs

zeros_tail : (x : ℕ) (a b : List ℕ) → zeros (x ∷ a) ≡ zeros (x ∷ b) → zeros a ≡ zeros b
zeros_tail zero a b e = omega (arith, e)
zeros_tail (suc x) a b e = e

-- whatever stands behind a 0, the one front comes before the other
abbrev ComesBefore : List ℕ → List ℕ → Type 0
ComesBefore a b = (s t : List ℕ) → IsBefore (a ++ 0 ∷ s) (b ++ 0 ∷ t)

abbrev OneWay : List ℕ → List ℕ → Type 0
OneWay a b = (a ≡ b) ⊎ (ComesBefore a b ⊎ ComesBefore b a)

trichotomy : (x y : ℕ) → (x ≡ y) ⊎ ((x < y) ⊎ (y < x))
trichotomy x y = grind arith

no_zero_fewer : (n : ℕ) → 0 ≡ suc n → ⊥
no_zero_fewer n e = omega (arith, e)

pub one_way : (a b : List ℕ) → zeros a ≡ zeros b → OneWay a b
one_way [] [] e = inl refl
one_way [] (zero ∷ b) e = absurd (no_zero_fewer (zeros b) e)
one_way [] (suc y ∷ b) e = inr (inl (λ s t. before_by_first 0 (suc y) s (b ++ 0 ∷ t) (omega arith)))
one_way (zero ∷ a) [] e = absurd (no_zero_fewer (zeros a) (sym e))
one_way (suc x ∷ a) [] e = inr (inr (λ s t. before_by_first 0 (suc x) s (a ++ 0 ∷ t) (omega arith)))
one_way (x ∷ a) (y ∷ b) e = elim (trichotomy x y) [
  | inl same ↦ further same (λ tail. one_way a b tail)
  | inr differ ↦ elim differ [
    | inl less ↦ inr (inl (λ s t. before_by_first x y (a ++ 0 ∷ s) (b ++ 0 ∷ t) less))
    | inr more ↦ inr (inr (λ s t. before_by_first y x (b ++ 0 ∷ s) (a ++ 0 ∷ t) more))
  ]
]
  where
    longer : OneWay a b → OneWay (x ∷ a) (x ∷ b)
    longer (inl same) = inl (ap (λ (l : List ℕ). x ∷ l) same)
    longer (inr (inl before)) = inr (inl (λ s t. before_by_rest x (a ++ 0 ∷ s) (b ++ 0 ∷ t) (before s t)))
    longer (inr (inr before)) = inr (inr (λ s t. before_by_rest x (b ++ 0 ∷ s) (a ++ 0 ∷ t) (before s t)))

    further : x ≡ y → (zeros a ≡ zeros b → OneWay a b) → OneWay (x ∷ a) (y ∷ b)
    further same rec = subst (λ (z : ℕ). OneWay (x ∷ a) (z ∷ b)) same (longer (rec (zeros_tail x a b (e ∙ ap (λ (z : ℕ). zeros (z ∷ b)) (sym same)))))

-- ---- tests of order

before_yes : (a b : List ℕ) → IsBefore a b → comes_before a b ≡ true
before_yes a b e = ap is_lt e

before_no : (a b : List ℕ) → IsBefore a b → comes_before b a ≡ false
before_no a b e = ap is_lt (nat_list_cmp_total.antisymm b a ∙ ap ordering_reverse e)

apart_fronts : (a b : List ℕ) → ComesBefore a b → (is_same a b ≡ false) × (is_same b a ≡ false)
apart_fronts a b before = (differs (is_same a b) refl, differs_back (is_same b a) refl)
  where
    same_never : a ≡ b → ⊥
    same_never same = never_before_itself (a ++ 0 ∷ []) (subst (λ (l : List ℕ). IsBefore (a ++ 0 ∷ []) (l ++ 0 ∷ [])) (sym same) (before [] []))

    differs : (r : Bool) → is_same a b ≡ r → r ≡ false
    differs true e = absurd (same_never ((bytes_decides a b).0 e))
    differs false e = refl

    differs_back : (r : Bool) → is_same b a ≡ r → r ≡ false
    differs_back true e = absurd (same_never (sym ((bytes_decides b a).0 e)))
    differs_back false e = refl

pub alike : (a : List ℕ) → is_same a a ≡ true
alike a = (bytes_decides a a).1 refl

-- ---- numbers of one front

behind_front : (a s t : List ℕ) → slice_cmp nat_cmp (a ++ s) (a ++ t) ≡ slice_cmp nat_cmp s t
behind_front [] s t = refl
behind_front (x ∷ a) s t = slice_cmp-same x x (a ++ s) (a ++ t) refl ∙ behind_front a s t

last_number : (n m : ℕ) → comes_before (0 ∷ 1 ∷ n ∷ []) (0 ∷ 1 ∷ m ∷ []) ≡ nat_lt n m
last_number n m = grind (arith, nat_tests)

number_before : (a : List ℕ) (n m : ℕ) → comes_before (content_address a n) (content_address a m) ≡ nat_lt n m
number_before a n m = ap is_lt (behind_front a (0 ∷ 1 ∷ n ∷ []) (0 ∷ 1 ∷ m ∷ [])) ∙ last_number n m

-- ---- where a run ends

widened : (a : List ℕ) (n k : ℕ) → sum (a ++ n ∷ []) (replicate (length a) 0 ++ suc k ∷ []) ≡ a ++ (n + suc k) ∷ []
widened [] n k = refl
widened (x ∷ a) n k = ap (λ (l : List ℕ). x ∷ l) (widened a n k)

long_address : (a : List ℕ) (n : ℕ) → length (a ++ n ∷ []) ≡ suc (length a)
long_address [] n = refl
long_address (x ∷ a) n = ap suc (long_address a n)

address_front : (document : List ℕ) (n : ℕ) → content_address document n ≡ (document ++ 0 ∷ 1 ∷ []) ++ n ∷ []
address_front document n = sym (append_assoc document (0 ∷ 1 ∷ []) (n ∷ []))

abbrev end_after : List ℕ → ℕ → List ℕ
end_after address length_of = sum address (width_at (length address) length_of)

pub run_end : (document : List ℕ) (n k : ℕ) → 0 < k → end_after (content_address document n) k ≡ content_address document (n + k)
run_end document n zero some = absurd (omega arith)
run_end document n (suc k) some =
    ap (λ (a : List ℕ). end_after a (suc k)) (address_front document n)
    ∙ ap (λ (l : ℕ). sum ((document ++ 0 ∷ 1 ∷ []) ++ n ∷ []) (width_at l (suc k))) (long_address (document ++ 0 ∷ 1 ∷ []) n)
    ∙ widened (document ++ 0 ∷ 1 ∷ []) n k
    ∙ sym (address_front document (n + suc k))

-- ---- parts of an address

long_number : (document : List ℕ) (n : ℕ) → length (content_address document n) ≡ length document + 3
long_number [] n = refl
long_number (x ∷ document) n = let one : suc (length document + 3) ≡ suc (length document) + 3 = omega arith in ap suc (long_number document n) ∙ one

front_taken : (a s : List ℕ) → take (length a) (a ++ s) ≡ a
front_taken [] s = refl
front_taken (x ∷ a) s = ap (λ (l : List ℕ). x ∷ l) (front_taken a s)

last_place : (a : List ℕ) (n : ℕ) → slice_index (a ++ n ∷ []) (length a) ≡ n
last_place [] n = refl
last_place (x ∷ a) n = last_place a n

less_three : (n : ℕ) → (n + 3) - 3 ≡ n
less_three n = omega arith

pub content_is : (document : List ℕ) (n : ℕ) → content_of (content_address document n) ≡ document
content_is document n = ap (λ (l : ℕ). take (l - 3) (content_address document n)) (long_number document n) ∙ ap (λ (l : ℕ). take l (content_address document n)) (less_three (length document)) ∙ front_taken document (0 ∷ 1 ∷ n ∷ [])

pub last_is : (a : List ℕ) (n : ℕ) → number_of (a ++ n ∷ []) ≡ n
last_is a n = ap (λ (l : ℕ). slice_index (a ++ n ∷ []) (l - 1)) (long_address a n) ∙ ap (slice_index (a ++ n ∷ [])) (less_one (length a)) ∙ last_place a n
  where
    less_one : (k : ℕ) → suc k - 1 ≡ k
    less_one k = omega arith

pub number_is : (document : List ℕ) (n : ℕ) → number_of (content_address document n) ≡ n
number_is document n = ap number_of (address_front document n) ∙ last_is (document ++ 0 ∷ 1 ∷ []) n

-- the last place of a run's width is how many bytes the run has
pub width_number : (document : List ℕ) (n k : ℕ) → 0 < k → number_of (width_at (length (content_address document n)) k) ≡ k
width_number document n zero some = absurd (omega arith)
width_number document n (suc k) some =
    let a = document ++ 0 ∷ 1 ∷ [] in
    ap (λ (l : ℕ). number_of (width_at l (suc k))) (ap length (address_front document n) ∙ long_address a n) ∙ last_is (replicate (length a) 0) (suc k)

-- ---- an address and a run

abbrev in_run : List ℕ → List ℕ → ℕ → ℕ → Bool
in_run address content first count = is_same (content_of address) content && nat_le first (number_of address) && nat_lt (number_of address) (first + count)

abbrev picked : List ℕ → List ℕ → List ℕ → Bool
picked start end address = not (comes_before address start) && comes_before address end

numbers_between : (m n k : ℕ) → (not (nat_lt m n) && nat_lt m (n + k)) ≡ (nat_le n m && nat_lt m (n + k))
numbers_between m n k = grind (arith, nat_tests)

-- the address of a byte is in the span of a run exactly if the byte is one of the run's
pub picked_if_in_run : (document content : List ℕ) (m n k : ℕ) → zeros document ≡ zeros content → 0 < k
    → picked (content_address content n) (end_after (content_address content n) k) (content_address document m) ≡ in_run (content_address document m) content n k
picked_if_in_run document content m n k alike_zeros some =
    ap (λ (end : List ℕ). picked (content_address content n) end (content_address document m)) (run_end content n k some)
    ∙ by_order (one_way document content alike_zeros)
    ∙ (λ i. is_same (sym (content_is document m) i) content && nat_le n (sym (number_is document m) i) && nat_lt (sym (number_is document m) i) (n + k))
  where
    by_order : OneWay document content → picked (content_address content n) (content_address content (n + k)) (content_address document m) ≡ (is_same document content && nat_le n m && nat_lt m (n + k))
    by_order (inl same) =
        subst (λ (d : List ℕ). picked (content_address content n) (content_address content (n + k)) (content_address d m) ≡ (is_same d content && nat_le n m && nat_lt m (n + k))) (sym same)
        ((λ i. not (number_before content m n i) && number_before content m (n + k) i) ∙ numbers_between m n k ∙ (λ i. sym (alike content) i && nat_le n m && nat_lt m (n + k)))
    by_order (inr (inl before)) =
        (λ i. not (before_yes (content_address document m) (content_address content n) (before (1 ∷ m ∷ []) (1 ∷ n ∷ [])) i) && comes_before (content_address document m) (content_address content (n + k)))
        ∙ (λ i. sym ((apart_fronts document content before).0) i && nat_le n m && nat_lt m (n + k))
    by_order (inr (inr before)) =
        (λ i. not (before_no (content_address content n) (content_address document m) (before (1 ∷ n ∷ []) (1 ∷ m ∷ [])) i) && before_no (content_address content (n + k)) (content_address document m) (before (1 ∷ (n + k) ∷ []) (1 ∷ m ∷ [])) i)
        ∙ (λ i. sym ((apart_fronts content document before).1) i && nat_le n m && nat_lt m (n + k))

-- ---- a link's address and a run

behind_bytes : (n m : ℕ) → comes_before (0 ∷ 2 ∷ n ∷ []) (0 ∷ 1 ∷ m ∷ []) ≡ false
behind_bytes n m = grind (arith, nat_tests)

no_more : (b c : Bool) → c ≡ false → (b && c) ≡ false
no_more true c e = e
no_more false c e = refl

-- the address of a link is in no span of a run
pub link_not_picked : (document content : List ℕ) (m n k : ℕ) → zeros document ≡ zeros content → 0 < k → picked (content_address content n) (end_after (content_address content n) k) (document ++ 0 ∷ 2 ∷ m ∷ []) ≡ false
link_not_picked document content m n k alike_zeros some = ap (λ (end : List ℕ). picked (content_address content n) end (document ++ 0 ∷ 2 ∷ m ∷ [])) (run_end content n k some) ∙ by_order (one_way document content alike_zeros)
  where
    by_order : OneWay document content → picked (content_address content n) (content_address content (n + k)) (document ++ 0 ∷ 2 ∷ m ∷ []) ≡ false
    by_order (inl same) =
        subst (λ (d : List ℕ). picked (content_address content n) (content_address content (n + k)) (d ++ 0 ∷ 2 ∷ m ∷ []) ≡ false) (sym same)
        (no_more (not (comes_before (content ++ 0 ∷ 2 ∷ m ∷ []) (content_address content n))) (comes_before (content ++ 0 ∷ 2 ∷ m ∷ []) (content_address content (n + k))) (ap is_lt (behind_front content (0 ∷ 2 ∷ m ∷ []) (0 ∷ 1 ∷ (n + k) ∷ [])) ∙ behind_bytes m (n + k)))
    by_order (inr (inl before)) = λ i. not (before_yes (document ++ 0 ∷ 2 ∷ m ∷ []) (content_address content n) (before (2 ∷ m ∷ []) (1 ∷ n ∷ [])) i) && comes_before (document ++ 0 ∷ 2 ∷ m ∷ []) (content_address content (n + k))
    by_order (inr (inr before)) =
        no_more (not (comes_before (document ++ 0 ∷ 2 ∷ m ∷ []) (content_address content n))) (comes_before (document ++ 0 ∷ 2 ∷ m ∷ []) (content_address content (n + k)))
        (before_no (content_address content (n + k)) (document ++ 0 ∷ 2 ∷ m ∷ []) (before (1 ∷ (n + k) ∷ []) (2 ∷ m ∷ [])))

-- ---- two runs

filled : (a : List ℕ) (k : ℕ) → (from to place : List ℕ) → touches from to place (replicate (length a) 0 ++ suc k ∷ []) ≡ (comes_before (later from place) to && comes_before (later from place) (sum place (replicate (length a) 0 ++ suc k ∷ [])))
filled [] k from to place = refl
filled (x ∷ a) k from to place = refl

wide_touches : (content : List ℕ) (n k : ℕ) (from to : List ℕ) → 0 < k
    → touches from to (content_address content n) (width_at (length (content_address content n)) k)
    ≡ (comes_before (later from (content_address content n)) to && comes_before (later from (content_address content n)) (end_after (content_address content n) k))
wide_touches content n zero from to some = absurd (omega arith)
wide_touches content n (suc k) from to some =
    let a = content ++ 0 ∷ 1 ∷ [] in
    let long : length (content_address content n) ≡ suc (length a) = ap length (address_front content n) ∙ long_address a n in
    subst (λ (l : ℕ). touches from to (content_address content n) (width_at l (suc k))
    ≡ (comes_before (later from (content_address content n)) to && comes_before (later from (content_address content n)) (sum (content_address content n) (width_at l (suc k)))))
    (sym long) (filled a k from to (content_address content n))

abbrev shares : List ℕ → ℕ → ℕ → List ℕ → ℕ → ℕ → Bool
shares document n k content m l = is_same document content && nat_lt (max n m) (min (n + k) (m + l))

and_false : (b : Bool) → (b && false) ≡ false
and_false true = refl
and_false false = refl

later_yes : (a b : List ℕ) → comes_before a b ≡ true → later a b ≡ b
later_yes a b e = ap (λ (r : Bool). cond r b a) e

later_no : (a b : List ℕ) → comes_before a b ≡ false → later a b ≡ a
later_no a b e = ap (λ (r : Bool). cond r b a) e

later_number : (a : List ℕ) (n m : ℕ) → later (content_address a n) (content_address a m) ≡ content_address a (max n m)
later_number a n m = go (nat_lt n m) refl
  where
    greater : nat_lt n m ≡ true → m ≡ max n m
    greater e = grind (arith, nat_tests, e)

    not_greater : nat_lt n m ≡ false → n ≡ max n m
    not_greater e = grind (arith, nat_tests, e)

    go : (r : Bool) → nat_lt n m ≡ r → later (content_address a n) (content_address a m) ≡ content_address a (max n m)
    go true e = later_yes (content_address a n) (content_address a m) (number_before a n m ∙ e) ∙ ap (content_address a) (greater e)
    go false e = later_no (content_address a n) (content_address a m) (number_before a n m ∙ e) ∙ ap (content_address a) (not_greater e)

both_ends : (x p q : ℕ) → (nat_lt x p && nat_lt x q) ≡ nat_lt x (min p q)
both_ends x p q = grind (arith, nat_tests)

abbrev meeting : List ℕ → (n k m l : ℕ) → List ℕ → Bool
meeting content n k m l d = comes_before (later (content_address d n) (content_address content m)) (content_address d (n + k)) && comes_before (later (content_address d n) (content_address content m)) (content_address content (m + l))

-- the spans of two runs have a place in common exactly if the runs have a byte in common
pub met_if_shared : (document content : List ℕ) (n k m l : ℕ) → zeros document ≡ zeros content → 0 < k → 0 < l
    → touches (content_address document n) (end_after (content_address document n) k) (content_address content m) (width_at (length (content_address content m)) l) ≡ shares document n k content m l
met_if_shared document content n k m l alike_zeros some some' =
    wide_touches content m l (content_address document n) (end_after (content_address document n) k) some'
    ∙ (λ i. comes_before (later (content_address document n) (content_address content m)) (run_end document n k some i) && comes_before (later (content_address document n) (content_address content m)) (run_end content m l some' i))
    ∙ by_order (one_way document content alike_zeros)
  where
    by_order : OneWay document content → meeting content n k m l document ≡ shares document n k content m l
    by_order (inl same) =
        subst (λ (d : List ℕ). meeting content n k m l d ≡ shares d n k content m l) (sym same)
        ((λ i. comes_before (later_number content n m i) (content_address content (n + k)) && comes_before (later_number content n m i) (content_address content (m + l)))
        ∙ (λ i. number_before content (max n m) (n + k) i && number_before content (max n m) (m + l) i)
        ∙ both_ends (max n m) (n + k) (m + l)
        ∙ (λ i. sym (alike content) i && nat_lt (max n m) (min (n + k) (m + l))))
    by_order (inr (inl before)) =
        (λ i. comes_before (later_yes (content_address document n) (content_address content m) (before_yes (content_address document n) (content_address content m) (before (1 ∷ n ∷ []) (1 ∷ m ∷ []))) i) (content_address document (n + k))
        && comes_before (later_yes (content_address document n) (content_address content m) (before_yes (content_address document n) (content_address content m) (before (1 ∷ n ∷ []) (1 ∷ m ∷ []))) i) (content_address content (m + l)))
        ∙ (λ i. before_no (content_address document (n + k)) (content_address content m) (before (1 ∷ (n + k) ∷ []) (1 ∷ m ∷ [])) i && comes_before (content_address content m) (content_address content (m + l)))
        ∙ (λ i. sym ((apart_fronts document content before).0) i && nat_lt (max n m) (min (n + k) (m + l)))
    by_order (inr (inr before)) =
        (λ i. comes_before (later_no (content_address document n) (content_address content m) (before_no (content_address content m) (content_address document n) (before (1 ∷ m ∷ []) (1 ∷ n ∷ []))) i) (content_address document (n + k))
        && comes_before (later_no (content_address document n) (content_address content m) (before_no (content_address content m) (content_address document n) (before (1 ∷ m ∷ []) (1 ∷ n ∷ []))) i) (content_address content (m + l)))
        ∙ (λ i. comes_before (content_address document n) (content_address document (n + k)) && before_no (content_address content (m + l)) (content_address document n) (before (1 ∷ (m + l) ∷ []) (1 ∷ n ∷ [])) i)
        ∙ and_false (comes_before (content_address document n) (content_address document (n + k)))
        ∙ (λ i. sym ((apart_fronts content document before).1) i && nat_lt (max n m) (min (n + k) (m + l)))

-- ---- documents

zeros-append : (a b : List ℕ) → zeros (a ++ b) ≡ zeros a + zeros b
zeros-append [] b = let none : zeros b ≡ 0 + zeros b = omega arith in none
zeros-append (zero ∷ a) b = let one : suc (zeros a + zeros b) ≡ suc (zeros a) + zeros b = omega arith in ap suc (zeros-append a b) ∙ one
zeros-append (suc x ∷ a) b = zeros-append a b

full_field : (field : List ℕ) → All (λ (p : ℕ). 0 < p) field → zeros field ≡ 0
full_field [] full = refl
full_field (zero ∷ field) full = absurd (let some : 0 < 0 = All-head (λ (p : ℕ). 0 < p) 0 field full in omega (arith, some))
full_field (suc x ∷ field) full = full_field field (All-tail (λ (p : ℕ). 0 < p) (suc x) field full)

-- an account has one 0, and a document two
pub two_zeros : (document : List ℕ) → IsDocument document → zeros document ≡ 2
two_zeros document is =
    let account = is.1.account_address in
    let of_account : zeros is.0 ≡ zeros account.node + suc (zeros account.user) = ap zeros account.parts ∙ zeros-append account.node (0 ∷ account.user) in
    let of_document : zeros document ≡ zeros is.0 + suc (zeros is.1.field) = ap zeros is.1.parts ∙ zeros-append is.0 (0 ∷ is.1.field) in
    let node = full_field account.node account.node_field.full in
    let user = full_field account.user account.user_field.full in
    let field = full_field is.1.field is.1.document_field.full in
    omega (arith, of_account, of_document, node, user, field)

both_documents : (document content : List ℕ) → IsDocument document → IsDocument content → zeros document ≡ zeros content
both_documents document content is is' = two_zeros document is ∙ sym (two_zeros content is')

pub runs_met : (run other : Run) → IsRun run → IsRun other → spans_meet (run_span run) (run_span other) ≡ shares_byte run other
runs_met run other is is' = met_if_shared run.content other.content run.first run.length other.first other.length (both_documents run.content other.content is.content is'.content) is.some is'.some

pub byte_met : (document : List ℕ) (n : ℕ) (run : Run) → IsDocument document → IsRun run → is_picked (run_span run) (content_address document n) ≡ is_in_run (content_address document n) run
byte_met document n run is is' = picked_if_in_run document run.content n run.first run.length (both_documents document run.content is is'.content) is'.some

pub link_unmet : (document : List ℕ) (n : ℕ) (run : Run) → IsDocument document → IsRun run → is_picked (run_span run) (document ++ 0 ∷ 2 ∷ n ∷ []) ≡ false
link_unmet document n run is is' = link_not_picked document run.content n run.first run.length (both_documents document run.content is is'.content) is'.some
