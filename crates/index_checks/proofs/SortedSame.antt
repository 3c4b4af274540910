-- Two lists in order that have the same elements, each as often, are the same list.
use Rattle.std.proofs.Common.{◌≡◌, ◌≢◌, ℕ, zero, suc, ◌+◌, ◌<◌, ◌≤◌, Bool, true, false, cond, List, [], ◌∷◌, length, get_or, refl, arith, ap, ◌∙◌, sym, subst}
use Rattle.std.specs.List.{All, sum_by}
use Rattle.std.specs.Cmp.{IsTotalOrder, IsStrictWeakOrder}
use Rattle.std.specs.Ordering.{is_lt, is_eq, ordering_reverse}
use Rattle.std.specs.List.Sorted.{IsPermutation, IsSortedBy}
use Rattle.std.specs.declared.cmp.Ordering.{Ordering}
use Rattle.std.specs.declared.cmp.Ordering.TheVariants.{Less, Equal, Greater}
use Rattle.std.proofs.lemmas.Cmp.{tied_itself}
use Rattle.std.proofs.lemmas.List.Elements.{All-head, All-tail, All-nil}
use Rattle.std.proofs.lemmas.List.Sums.{sum_by-cons}
use Rattle.std.proofs.lemmas.List.Sorted.{sorted_far, sum_by-IsPermutation}

-- each element is up to those behind it
abbrev pub Ascends : {X : Type 0} → (X → X → Ordering) → List X → Type 0
Ascends cmp [] = Unit {0}
Ascends cmp (x ∷ xs) = All (λ y. is_lt (cmp y x) ≡ false) xs × Ascends cmp xs

-- the elements of the one are those of the other, each as often
abbrev pub HaveSame : {X : Type 0} → List X → List X → Type 0
HaveSame {X} xs ys = (f : X → ℕ) → sum_by f xs ≡ sum_by f ys

abbrev one_if : Bool → ℕ
one_if b = cond b 1 0

abbrev counts : {X : Type 0} → (X → X → Ordering) → X → X → ℕ
counts cmp x z = one_if (is_eq (cmp x z))

counted_not : (r : Ordering) → (r ≡ Equal → ⊥) → one_if (is_eq r) ≡ 0
counted_not Less h = refl
counted_not Equal h = absurd (h refl)
counted_not Greater h = refl

-- what comes before the first of a list in order is not in it
none_counted : {X : Type 0} (cmp : X → X → Ordering) (o : IsTotalOrder cmp) (x y : X) (ys : List X) → cmp x y ≡ Less → All (λ z. is_lt (cmp z y) ≡ false) ys → sum_by (counts cmp x) ys ≡ 0
none_counted cmp o x y [] lt all = refl
none_counted {X} cmp o x y (z ∷ ys) lt all =
    let P : X → Type 0 = λ z. is_lt (cmp z y) ≡ false in
    let here : is_lt (cmp z y) ≡ false = All-head P z ys all in
    let not : cmp x z ≡ Equal → ⊥ = λ e. (let same : cmp x y ≡ cmp z y = o.congr x z y e in let is : cmp z y ≡ Less = sym same ∙ lt in let true_is : is_lt (cmp z y) ≡ true = ap is_lt is in cc) in
    let rest = none_counted cmp o x y ys lt (All-tail P z ys all) in
    omega (arith, sum_by-cons (counts cmp x) z ys, rest, counted_not (cmp x z) not)

first_counted : {X : Type 0} (cmp : X → X → Ordering) (o : IsTotalOrder cmp) (x : X) (xs : List X) → 0 < sum_by (counts cmp x) (x ∷ xs)
first_counted cmp o x xs =
    let one : counts cmp x x ≡ 1 = ap (λ (r : Ordering). one_if (is_eq r)) (tied_itself o x) in
    omega (arith, sum_by-cons (counts cmp x) x xs, one)

-- a list in order has nothing before its first one
never_before : {X : Type 0} (cmp : X → X → Ordering) (o : IsTotalOrder cmp) (x y : X) (xs ys : List X) → Ascends cmp (y ∷ ys) → HaveSame (x ∷ xs) (y ∷ ys) → cmp x y ≡ Less → ⊥
never_before cmp o x y xs ys up same lt =
    let rest = none_counted cmp o x y ys lt up.0 in
    let here : counts cmp x y ≡ 0 = ap (λ (r : Ordering). one_if (is_eq r)) lt in
    absurd (omega (arith, same (counts cmp x), first_counted cmp o x xs, sum_by-cons (counts cmp x) y ys, here, rest))

have_same_back : {X : Type 0} (xs ys : List X) → HaveSame xs ys → HaveSame ys xs
have_same_back xs ys same f = sym (same f)

first_same : {X : Type 0} (cmp : X → X → Ordering) (o : IsTotalOrder cmp) (exact : (x y : X) → cmp x y ≡ Equal → x ≡ y) (x y : X) (xs ys : List X) → Ascends cmp (x ∷ xs) → Ascends cmp (y ∷ ys) → HaveSame (x ∷ xs) (y ∷ ys) → x ≡ y
first_same cmp o exact x y xs ys up_x up_y same = by (cmp x y) refl
  where
    by : (r : Ordering) → r ≡ cmp x y → x ≡ y
    by Less is = absurd (never_before cmp o x y xs ys up_y same (sym is))
    by Equal is = exact x y (sym is)
    by Greater is = absurd (never_before cmp o y x ys xs up_x (have_same_back (x ∷ xs) (y ∷ ys) same) (o.antisymm y x ∙ ap ordering_reverse (sym is)))

rest_same : {X : Type 0} (x y : X) (xs ys : List X) → x ≡ y → HaveSame (x ∷ xs) (y ∷ ys) → HaveSame xs ys
rest_same x y xs ys is same f = omega (arith, same f, sum_by-cons f x xs, sum_by-cons f y ys, ap f is)

pub same_in_order : {X : Type 0} (cmp : X → X → Ordering) (o : IsTotalOrder cmp) (exact : (x y : X) → cmp x y ≡ Equal → x ≡ y) (xs ys : List X) → Ascends cmp xs → Ascends cmp ys → HaveSame xs ys → xs ≡ ys
same_in_order cmp o exact [] [] up_x up_y same = refl
same_in_order {X} cmp o exact [] (y ∷ ys) up_x up_y same = let one : X → ℕ = λ _. 1 in absurd (omega (arith, same one, sum_by-cons one y ys))
same_in_order {X} cmp o exact (x ∷ xs) [] up_x up_y same = let one : X → ℕ = λ _. 1 in absurd (omega (arith, same one, sum_by-cons one x xs))
same_in_order cmp o exact (x ∷ xs) (y ∷ ys) up_x up_y same =
    let head : x ≡ y = first_same cmp o exact x y xs ys up_x up_y same in
    let tail : xs ≡ ys = same_in_order cmp o exact xs ys up_x.1 up_y.1 (rest_same x y xs ys head same) in
    cc

-- ---- sorted lists are in order

in_order_from : {X : Type 0} (cmp : X → X → Ordering) (xs : List X) → ((i j : ℕ) (d : X) → i ≤ j → j < length xs → is_lt (cmp (get_or xs j d) (get_or xs i d)) ≡ false) → Ascends cmp xs
in_order_from cmp [] far = tt
in_order_from cmp (x ∷ xs) far = ((λ k d lt. far 0 (suc k) d (omega arith) (omega arith)), in_order_from cmp xs (λ i j d le lt. far (suc i) (suc j) d (omega arith) (omega arith)))

pub in_order_if_sorted : {X : Type 0} (cmp : X → X → Ordering) → IsStrictWeakOrder (λ a b. is_lt (cmp a b)) → (xs : List X) → IsSortedBy (λ a b. is_lt (cmp a b)) xs → Ascends cmp xs
in_order_if_sorted cmp weak xs sorted = in_order_from cmp xs (sorted_far (λ a b. is_lt (cmp a b)) weak xs sorted)

pub have_same_if_moved : {X : Type 0} (xs ys : List X) → IsPermutation xs ys → HaveSame xs ys
have_same_if_moved xs ys moved f = sym (sum_by-IsPermutation f xs ys moved)
