-- Which addresses of bytes and links are in the span of a run.
use Rattle.std.proofs.Common.{◌≡◌, ◌∙◌, ◌⊎◌, inl, inr, ℕ, zero, suc, ◌+◌, ◌<◌, ◌≤◌, ◌&&◌, ◌||◌, ◌++◌, Bool, true, false, not, List, [], ◌∷◌, refl, sym, ap, subst, arith, append_assoc, true≢false}
use Rattle.std.specs.List.{list_any}
use Rattle.std.specs.Prelude.{◌==◌}
use Rattle.std.proofs.lemmas.Bool.Decides.{nat_tests}
use Rattle.tumbler.specs.Address.{IsDocument}
use Rattle.tumbler.specs.Places.{IsBefore, IsUpTo, comes_before}
use Rattle.tumbler.proofs.Addresses.{one_cut}
use Rattle.tumbler.proofs.Before.{before_if_true, true_if_before, up_to_if_false, false_if_up_to}
use Rattle.tumbler.proofs.DocumentFields.{fields}
use Rattle.tumbler.proofs.Order.{before_by_first, before_by_rest, upto_cases, upto_itself, upto_if_before}
use Rattle.poom.specs.Pieces.{address_in, addresses_from}
use Rattle.world_rules.specs.World.{is_same}

-- ---- addresses of one document

-- what begins as an address of one document is an address of that document
pub same_made : (document other tail rest : List ℕ) → IsDocument document → IsDocument other → document ++ 0 ∷ tail ≡ other ++ 0 ∷ rest → (document ≡ other) × (tail ≡ rest)
same_made document other tail rest h g e =
    let f = fields document h in
    let k = fields other g in
    let nodes = one_cut f.node k.node (f.user ++ (0 ∷ (f.field ++ (0 ∷ tail)))) (k.user ++ (0 ∷ (k.field ++ (0 ∷ rest)))) f.node_full k.node_full (sym (f.with_tail (0 ∷ tail)) ∙ e ∙ k.with_tail (0 ∷ rest)) in
    let users = one_cut f.user k.user (f.field ++ (0 ∷ tail)) (k.field ++ (0 ∷ rest)) f.user_full k.user_full nodes.1 in
    let last = one_cut f.field k.field tail rest f.field_full k.field_full users.1 in
    (f.whole ∙ ap (λ p. p ++ (0 ∷ (f.user ++ (0 ∷ f.field)))) nodes.0 ∙ ap (λ p. k.node ++ (0 ∷ (p ++ (0 ∷ f.field)))) users.0 ∙ ap (λ p. k.node ++ (0 ∷ (k.user ++ (0 ∷ p)))) last.0 ∙ sym k.whole, last.1)

-- ---- order

between : (front a b s : List ℕ) → IsUpTo (front ++ a) s → IsUpTo s (front ++ b) → (rest : List ℕ) × (s ≡ front ++ rest)
between [] a b s le ge = (s, refl)
between (x ∷ front) a b [] le ge = absurd (le refl)
between (x ∷ front) a b (y ∷ s) le ge = elim (upto_cases x y (front ++ a) s le) [
  | inl lt ↦ elim (upto_cases y x s (front ++ b) ge) [
    | inl gt ↦ absurd (omega (arith, lt, gt))
    | inr same ↦ absurd (omega (arith, lt, same.0))
  ]
  | inr one ↦ elim (upto_cases y x s (front ++ b) ge) [
    | inl gt ↦ absurd (omega (arith, gt, one.0))
    | inr two ↦ let more = between front a b s one.1 two.1 in (more.0, ap (λ z. z ∷ s) (sym one.0) ∙ ap (λ zs. x ∷ zs) more.1)
  ]
]

front_before : (front : List ℕ) (m n : ℕ) → m < n → IsBefore (front ++ m ∷ []) (front ++ n ∷ [])
front_before [] m n lt = before_by_first m n [] [] lt
front_before (x ∷ front) m n lt = before_by_rest x (front ++ m ∷ []) (front ++ n ∷ []) (front_before front m n lt)

front_up_to : (front : List ℕ) (m n : ℕ) → m ≤ n → IsUpTo (front ++ m ∷ []) (front ++ n ∷ [])
front_up_to front m n le = elim three [
  | inl lt ↦ upto_if_before (front ++ m ∷ []) (front ++ n ∷ []) (front_before front m n lt)
  | inr same ↦ subst (λ (k : ℕ). IsUpTo (front ++ m ∷ []) (front ++ k ∷ [])) same (upto_itself (front ++ m ∷ []))
]
  where
    three : (m < n) ⊎ (m ≡ n)
    three = grind arith

abbrev pub part_of : List ℕ → List ℕ
part_of document = document ++ 0 ∷ 1 ∷ []

pub in_part : (document : List ℕ) (n : ℕ) → address_in 1 document n ≡ part_of document ++ n ∷ []
in_part document n = sym (append_assoc document (0 ∷ 1 ∷ []) (n ∷ []))

pub bytes_before : (document : List ℕ) (m n : ℕ) → m < n → IsBefore (address_in 1 document m) (address_in 1 document n)
bytes_before document m n lt = subst (λ (a : List ℕ). IsBefore a (address_in 1 document n)) (sym (in_part document m)) (subst (IsBefore (part_of document ++ m ∷ [])) (sym (in_part document n)) (front_before (part_of document) m n lt))

pub bytes_up_to : (document : List ℕ) (m n : ℕ) → m ≤ n → IsUpTo (address_in 1 document m) (address_in 1 document n)
bytes_up_to document m n le = subst (λ (a : List ℕ). IsUpTo a (address_in 1 document n)) (sym (in_part document m)) (subst (IsUpTo (part_of document ++ m ∷ [])) (sym (in_part document n)) (front_up_to (part_of document) m n le))

-- ---- in a span

abbrev pub lies_from : (start end address : List ℕ) → Bool
lies_from start end address = not (comes_before address start) && comes_before address end

both_yes : (a b : Bool) → a ≡ false → b ≡ true → (not a && b) ≡ true
both_yes false true e f = refl
both_yes true b e f = absurd (true≢false e)
both_yes false false e f = absurd (true≢false (sym f))

yes_both : (a b : Bool) → (not a && b) ≡ true → (a ≡ false) × (b ≡ true)
yes_both false true e = (refl, refl)
yes_both true b e = absurd (true≢false (sym e))
yes_both false false e = absurd (true≢false (sym e))

same_yes : (a : List ℕ) → is_same a a ≡ true
same_yes [] = refl
same_yes (x ∷ a) = yes x (same_yes a)
  where
    yes : (n : ℕ) → is_same a a ≡ true → ((n == n) && is_same a a) ≡ true
    yes n rest = grind (arith, nat_tests, rest)

pub same_is : (a b : List ℕ) → is_same a b ≡ true → a ≡ b
same_is [] [] e = refl
same_is [] (y ∷ b) e = absurd (true≢false (sym e))
same_is (x ∷ a) [] e = absurd (true≢false (sym e))
same_is (x ∷ a) (y ∷ b) e = λ i. head x y (and_one (x == y) (is_same a b) e) i ∷ same_is a b (and_two (x == y) (is_same a b) e) i
  where
    and_one : (p q : Bool) → (p && q) ≡ true → p ≡ true
    and_one true q f = refl
    and_one false q f = absurd (true≢false (sym f))

    and_two : (p q : Bool) → (p && q) ≡ true → q ≡ true
    and_two true q f = f
    and_two false q f = absurd (true≢false (sym f))

    head : (m n : ℕ) → (m == n) ≡ true → m ≡ n
    head m n f = grind (arith, nat_tests, f)

-- an address among those of a run
among_those : (document : List ℕ) (n first count : ℕ) → first ≤ n → n < first + count → list_any (is_same (address_in 1 document n)) (addresses_from 1 document first count) ≡ true
among_those document n first zero from to = absurd (omega (arith, from, to))
among_those document n first (suc count) from to = elim here_or_on [
  | inl here ↦ first_one (is_same (address_in 1 document n) (address_in 1 document first)) (list_any (is_same (address_in 1 document n)) (addresses_from 1 document (first + 1) count)) (subst (λ (m : ℕ). is_same (address_in 1 document n) (address_in 1 document m) ≡ true) (sym here) (same_yes (address_in 1 document n)))
  | inr on ↦ later_one (is_same (address_in 1 document n) (address_in 1 document first)) (list_any (is_same (address_in 1 document n)) (addresses_from 1 document (first + 1) count)) (among_those document n (first + 1) count (omega (arith, on)) (omega (arith, to)))
]
  where
    here_or_on : (first ≡ n) ⊎ (first < n)
    here_or_on = grind (arith, from)

    first_one : (p q : Bool) → p ≡ true → (p || q) ≡ true
    first_one true q e = refl
    first_one false q e = absurd (true≢false (sym e))

    later_one : (p q : Bool) → q ≡ true → (p || q) ≡ true
    later_one true q e = refl
    later_one false q e = e

-- all of those are in the span
those_lie : (document : List ℕ) (first count low high : ℕ) (a : List ℕ) → low ≤ first → first + count ≤ high → list_any (is_same a) (addresses_from 1 document first count) ≡ true → lies_from (address_in 1 document low) (address_in 1 document high) a ≡ true
those_lie document first zero low high a from to e = absurd (true≢false (sym e))
those_lie document first (suc count) low high a from to e = step (is_same a (address_in 1 document first)) refl (those_lie document (first + 1) count low high a (omega (arith, from)) (omega (arith, to))) e
  where
    step : (b : Bool) → is_same a (address_in 1 document first) ≡ b → (list_any (is_same a) (addresses_from 1 document (first + 1) count) ≡ true → lies_from (address_in 1 document low) (address_in 1 document high) a ≡ true)
        → (b || list_any (is_same a) (addresses_from 1 document (first + 1) count)) ≡ true → lies_from (address_in 1 document low) (address_in 1 document high) a ≡ true
    step true is later h =
        subst (λ (x : List ℕ). lies_from (address_in 1 document low) (address_in 1 document high) x ≡ true) (sym (same_is a (address_in 1 document first) is))
        (both_yes (comes_before (address_in 1 document first) (address_in 1 document low)) (comes_before (address_in 1 document first) (address_in 1 document high))
        (false_if_up_to (address_in 1 document first) (address_in 1 document low) (bytes_up_to document low first from))
        (true_if_before (address_in 1 document first) (address_in 1 document high) (bytes_before document first high (omega (arith, to)))))
    step false is later h = later h

-- an address of a byte or a link
pub record IsMade (address : List ℕ) : Type 0 where
  pub document : List ℕ
  pub part : ℕ
  pub number : ℕ
  pub is : address ≡ address_in part document number
  pub is_document : IsDocument document

-- of those addresses, no others are in the span
lying_is : (document : List ℕ) (first count : ℕ) (a : List ℕ) → IsDocument document → IsMade a → lies_from (address_in 1 document first) (address_in 1 document (first + count)) a ≡ true → list_any (is_same a) (addresses_from 1 document first count) ≡ true
lying_is document first count a d made e =
    let tests = yes_both (comes_before a (address_in 1 document first)) (comes_before a (address_in 1 document (first + count))) e in
    let le = up_to_if_false a (address_in 1 document first) tests.0 in
    let lt = before_if_true a (address_in 1 document (first + count)) tests.1 in
    let so = between (part_of document) (first ∷ []) ((first + count) ∷ []) a (subst (λ (x : List ℕ). IsUpTo x a) (in_part document first) le) (subst (IsUpTo a) (in_part document (first + count)) (upto_if_before a (address_in 1 document (first + count)) lt)) in
    let parts = same_made made.document document (made.part ∷ made.number ∷ []) (1 ∷ so.0) made.is_document d (sym made.is ∙ so.1 ∙ append_assoc document (0 ∷ 1 ∷ []) so.0) in
    let is : a ≡ address_in 1 document made.number = made.is ∙ (λ i. parts.0 i ++ 0 ∷ one_part made.part made.number so.0 parts.1 i ∷ made.number ∷ []) in
    subst (λ (x : List ℕ). list_any (is_same x) (addresses_from 1 document first count) ≡ true) (sym is)
    (among_those document made.number first count
    (not_less first made.number (subst (IsUpTo (address_in 1 document first)) is le))
    (not_up_to made.number (first + count) (subst (λ (x : List ℕ). IsBefore x (address_in 1 document (first + count))) is lt)))
  where
    one_part : (p n : ℕ) (rest : List ℕ) → p ∷ n ∷ [] ≡ 1 ∷ rest → p ≡ 1
    one_part p n rest f = ap first_of f
      where
        first_of : List ℕ → ℕ
        first_of [] = 0
        first_of (x ∷ xs) = x

    not_less : (m n : ℕ) → IsUpTo (address_in 1 document m) (address_in 1 document n) → m ≤ n
    not_less m n h = elim less_or_not [
      | inl le ↦ le
      | inr gt ↦ absurd (never_upto (bytes_before document n m gt) h)
    ]
      where
        less_or_not : (m ≤ n) ⊎ (n < m)
        less_or_not = grind arith

        never_upto : IsBefore (address_in 1 document n) (address_in 1 document m) → IsUpTo (address_in 1 document m) (address_in 1 document n) → ⊥
        never_upto less up = true≢false (sym (true_if_before (address_in 1 document n) (address_in 1 document m) less) ∙ false_if_up_to (address_in 1 document n) (address_in 1 document m) up)

    not_up_to : (m n : ℕ) → IsBefore (address_in 1 document m) (address_in 1 document n) → m < n
    not_up_to m n h = elim less_or_not [
      | inl lt ↦ lt
      | inr ge ↦ absurd (true≢false (sym (true_if_before (address_in 1 document m) (address_in 1 document n) h) ∙ false_if_up_to (address_in 1 document m) (address_in 1 document n) (bytes_up_to document n m ge)))
    ]
      where
        less_or_not : (m < n) ⊎ (n ≤ m)
        less_or_not = grind arith

iff_same : (a b : Bool) → (a ≡ true → b ≡ true) → (b ≡ true → a ≡ true) → a ≡ b
iff_same true b f g = sym (f refl)
iff_same false true f g = g refl
iff_same false false f g = refl

-- in the span of a run are the addresses of its bytes
pub run_has : (document : List ℕ) (first count : ℕ) (a : List ℕ) → IsDocument document → IsMade a → lies_from (address_in 1 document first) (address_in 1 document (first + count)) a ≡ list_any (is_same a) (addresses_from 1 document first count)
run_has document first count a d made =
    iff_same (lies_from (address_in 1 document first) (address_in 1 document (first + count)) a) (list_any (is_same a) (addresses_from 1 document first count)) (lying_is document first count a d made)
    (those_lie document first count first (first + count) a (omega arith) (omega arith))
