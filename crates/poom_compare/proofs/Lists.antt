-- Elements of lists, and lists that rise.
use Rattle.std.proofs.Common.{◌≡◌, ℕ, zero, suc, ◌<◌, ◌≤◌, ◌∙◌, ◌++◌, ◌∷◌, [], Bool, List, length, map, true, false, ap, sym, refl, subst, cond, arith, All, get_or, inl, inr}
use Rattle.std.specs.Prelude.{filter, Contains, ◌⊎◌}
use Rattle.std.specs.List.{AllPairs, flat_map}
use Rattle.std.specs.List.Sorted.{IsPermutation, IsNonDecreasingBy}
use Rattle.std.proofs.lemmas.Bool.{true≢false}
use Rattle.std.proofs.lemmas.List.Elements.{All-nil, All-head, All-tail, All-append, All-map, All-filter, filter_passes, Contains-append_left, Contains-append_right, Contains-get_or, Contains-push, All-contains}
use Rattle.std.proofs.lemmas.List.Kept.{AllPairs-cons}
use Rattle.std.proofs.lemmas.Map.Keys.{apart_from_distinct, IsDistinct-from_apart, IsDistinct-IsPermutation}
use Rattle.world_rules.proofs.Later.{none_later, after_first, without_first, pairs_append}

-- ---- elements

pub here : {X : Type 0} (x : X) (xs : List X) → Contains (x ∷ xs) x
here x xs = (0, omega arith, refl)

pub there : {X : Type 0} (y x : X) (xs : List X) → Contains xs x → Contains (y ∷ xs) x
there y x xs found = (suc found.0, omega (arith, found.1), found.2)

pub none_there : {X : Type 0} (x : X) → Contains [] x → ⊥
none_there x found = omega (arith, found.1)

pub first_or_rest : {X : Type 0} (y x : X) (xs : List X) → Contains (y ∷ xs) x → (y ≡ x) ⊎ Contains xs x
first_or_rest y x xs found = go found.0 found.1 found.2
  where
    go : (k : ℕ) → k < length (y ∷ xs) → get_or (y ∷ xs) k x ≡ x → (y ≡ x) ⊎ Contains xs x
    go zero within is = inl is
    go (suc k) within is = inr (k, omega arith, is)

pub contains_map : {X Y : Type 0} (f : X → Y) (xs : List X) (x : X) → Contains xs x → Contains (map f xs) (f x)
contains_map f [] x found = absurd (none_there x found)
contains_map f (y ∷ ys) x found = elim (first_or_rest y x ys found) [
  | inl is ↦ subst (λ z. Contains (map f (y ∷ ys)) (f z)) is (here (f y) (map f ys))
  | inr rest ↦ there (f y) (f x) (map f ys) (contains_map f ys x rest)
]

pub contains_filter : {X : Type 0} (p : X → Bool) (xs : List X) (x : X) → Contains xs x → p x ≡ true → Contains (filter p xs) x
contains_filter p [] x found passes = absurd (none_there x found)
contains_filter {X = X} p (y ∷ ys) x found passes = step (p y) refl (first_or_rest y x ys found) (λ rest. contains_filter p ys x rest passes)
  where
    step : (b : Bool) → p y ≡ b → (y ≡ x) ⊎ Contains ys x → (Contains ys x → Contains (filter p ys) x) → Contains (cond b (y ∷ filter p ys) (filter p ys)) x
    step true e (inl is) more = subst (λ (z : X). Contains (y ∷ filter p ys) z) is (here y (filter p ys))
    step true e (inr rest) more = there y x (filter p ys) (more rest)
    step false e (inl is) more = absurd (true≢false (sym passes ∙ ap p (sym is) ∙ e))
    step false e (inr rest) more = more rest

pub contains_flat : {X Y : Type 0} (f : X → List Y) (xs : List X) (x : X) (y : Y) → Contains xs x → Contains (f x) y → Contains (flat_map f xs) y
contains_flat f [] x y found inside = absurd (none_there x found)
contains_flat {X = X} f (z ∷ zs) x y found inside = elim (first_or_rest z x zs found) [
  | inl is ↦ Contains-append_left (f z) (flat_map f zs) y (subst (λ (w : X). Contains (f w) y) (sym is) inside)
  | inr rest ↦ Contains-append_right (f z) (flat_map f zs) y (contains_flat f zs x y rest inside)
]

pub all_flat : {X Y : Type 0} (P : Y → Type 0) (f : X → List Y) (xs : List X) → All (λ x. All P (f x)) xs → All P (flat_map f xs)
all_flat P f [] each = All-nil P
all_flat P f (x ∷ xs) each = All-append P (f x) (flat_map f xs) (each 0 x (omega arith)) (all_flat P f xs (λ k d within. each (suc k) d (omega arith)))

-- what holds of elements that pass
pub all_passed : {X : Type 0} (p : X → Bool) (P Q : X → Type 0) → ((x : X) → P x → p x ≡ true → Q x) → (xs : List X) → All P xs → All Q (filter p xs)
all_passed p P Q says xs each k d within = says (get_or (filter p xs) k d) (All-filter p P xs each k d within) (filter_passes p xs k d within)

-- ---- an element and each later one

pub pairs_map : {X Y : Type 0} (P : X → Type 0) (R : X → X → Type 0) (S : Y → Y → Type 0) (f : X → Y) → ((x y : X) → P x → P y → R x y → S (f x) (f y)) → (xs : List X) → All P xs → AllPairs R xs → AllPairs S (map f xs)
pairs_map P R S f keeps [] all each = none_later S
pairs_map P R S f keeps (x ∷ xs) all each =
    AllPairs-cons S (f x) (map f xs) (All-map (S (f x)) f xs (λ k d within. keeps x (get_or xs k d) (All-head P x xs all) (All-tail P x xs all k d within) (after_first R x xs each k d within)))
    (pairs_map P R S f keeps xs (All-tail P x xs all) (without_first R x xs each))

pub pairs_flat : {X Y : Type 0} (P : X → Type 0) (R : X → X → Type 0) (S : Y → Y → Type 0) (f : X → List Y)
    → ((x : X) → P x → AllPairs S (f x)) → ((x y : X) → P x → P y → R x y → All (λ a. All (S a) (f y)) (f x)) → (xs : List X) → All P xs → AllPairs R xs → AllPairs S (flat_map f xs)
pairs_flat P R S f one across [] all each = none_later S
pairs_flat P R S f one across (x ∷ xs) all each =
    pairs_append S (f x) (flat_map f xs) (one x (All-head P x xs all)) (pairs_flat P R S f one across xs (All-tail P x xs all) (without_first R x xs each))
    (λ k d within. all_flat (S (get_or (f x) k d)) f xs (λ j e inside. across x (get_or xs j e) (All-head P x xs all) (All-tail P x xs all j e inside) (after_first R x xs each j e inside) k d within))

-- elements that a symmetric test tells apart stay so in another order
pub apart_in_order : {X : Type 0} (test : X → X → Bool) → ((x y : X) → test x y ≡ test y x) → (xs ys : List X) → IsPermutation xs ys → AllPairs (λ x y. test x y ≡ false) xs → AllPairs (λ x y. test x y ≡ false) ys
apart_in_order test flips xs ys moved each i j d lt within =
    apart_from_distinct test ys i j d (IsDistinct-IsPermutation test flips xs ys moved (IsDistinct-from_apart test xs each)) lt within

-- ---- lists that rise

abbrev pub Rises : {X : Type 0} → (X → ℕ) → List X → Type 0
Rises key xs = AllPairs (λ x y. key x < key y) xs

-- two lists that rise and have the same elements are the same
pub same_list : {X : Type 0} (key : X → ℕ) (xs ys : List X) → Rises key xs → Rises key ys → ((x : X) → Contains xs x → Contains ys x) → ((x : X) → Contains ys x → Contains xs x) → xs ≡ ys
same_list key [] [] up up' to from = refl
same_list key [] (y ∷ ys) up up' to from = absurd (none_there y (from y (here y ys)))
same_list key (x ∷ xs) [] up up' to from = absurd (none_there x (to x (here x xs)))
same_list {X = X} key (x ∷ xs) (y ∷ ys) up up' to from =
    let same : x ≡ y = first (first_or_rest y x ys (to x (here x xs))) (first_or_rest x y xs (from y (here y ys))) in
    let rest : xs ≡ ys = same_list key xs ys (without_first (λ a b. key a < key b) x xs up) (without_first (λ a b. key a < key b) y ys up')
    (λ z found. later same z found (first_or_rest y z ys (to z (there x z xs found))))
    (λ z found. earlier same z found (first_or_rest x z xs (from z (there y z ys found)))) in
    λ i. same i ∷ rest i
  where
    below : (a : X) (more : List X) (b : X) → Rises key (a ∷ more) → Contains more b → key a < key b
    below a more b rises found = subst (λ (c : X). key a < key c) found.2 (after_first (λ a b. key a < key b) a more rises found.0 b found.1)

    first : (y ≡ x) ⊎ Contains ys x → (x ≡ y) ⊎ Contains xs y → x ≡ y
    first (inl is) other = sym is
    first (inr in_ys) (inl is) = is
    first (inr in_ys) (inr in_xs) =
        let a : key y < key x = below y ys x up' in_ys in
        let b : key x < key y = below x xs y up in_xs in
        absurd (omega arith)

    later : x ≡ y → (z : X) → Contains xs z → (y ≡ z) ⊎ Contains ys z → Contains ys z
    later same z found (inl is) =
        let a : key x < key z = below x xs z up found in
        let b : key x ≡ key z = ap key (same ∙ is) in
        absurd (omega arith)
    later same z found (inr rest) = rest

    earlier : x ≡ y → (z : X) → Contains ys z → (x ≡ z) ⊎ Contains xs z → Contains xs z
    earlier same z found (inl is) =
        let a : key y < key z = below y ys z up' found in
        let b : key y ≡ key z = ap key (sym same ∙ is) in
        absurd (omega arith)
    earlier same z found (inr rest) = rest

-- a list that does not fall and tells its elements apart rises, where the key does
pub rises_from_sorted : {X : Type 0} (key : X → ℕ) (P : X → Type 0) (test : X → X → Bool) → ((x y : X) → P x → P y → test x y ≡ false → (key x ≡ key y → ⊥)) → (xs : List X) → All P xs → IsNonDecreasingBy key xs
    → AllPairs (λ x y. test x y ≡ false) xs → Rises key xs
rises_from_sorted key P test differ xs all up each i j d lt within =
    let no : key (get_or xs i d) ≡ key (get_or xs j d) → ⊥ = differ (get_or xs i d) (get_or xs j d) (all i d (omega arith)) (all j d within) (each i j d lt within) in
    let le : key (get_or xs i d) ≤ key (get_or xs j d) = up i j d (omega arith) within in
    omega arith

-- within a list it does not matter what stands past its end
pub same_at : {X : Type 0} (xs : List X) (n : ℕ) (a b : X) → n < length xs → get_or xs n a ≡ get_or xs n b
same_at [] n a b lt = absurd (omega arith)
same_at (x ∷ xs) zero a b lt = refl
same_at (x ∷ xs) (suc n) a b lt = same_at xs n a b (omega arith)

-- ---- two lists in a row

pub pairs_front : {X : Type 0} (R : X → X → Type 0) (xs ys : List X) → AllPairs R (xs ++ ys) → AllPairs R xs
pairs_front R [] ys each = none_later R
pairs_front R (x ∷ xs) ys each =
    AllPairs-cons R x xs (λ k d lt. All-contains (R x) (xs ++ ys) (get_or xs k d) (after_first R x (xs ++ ys) each) (Contains-append_left xs ys (get_or xs k d) (Contains-get_or xs k d lt)))
    (pairs_front R xs ys (without_first R x (xs ++ ys) each))

pub pairs_across : {X : Type 0} (R : X → X → Type 0) (xs ys : List X) → AllPairs R (xs ++ ys) → (x y : X) → Contains xs x → Contains ys y → R x y
pairs_across R [] ys each x y in_xs in_ys = absurd (none_there x in_xs)
pairs_across R (z ∷ xs) ys each x y in_xs in_ys = elim (first_or_rest z x xs in_xs) [
  | inl is ↦ subst (λ w. R w y) is (All-contains (R z) (xs ++ ys) y (after_first R z (xs ++ ys) each) (Contains-append_right xs ys y in_ys))
  | inr rest ↦ pairs_across R xs ys (without_first R z (xs ++ ys) each) x y rest in_ys
]

pub all_front : {X : Type 0} (P : X → Type 0) (xs ys : List X) → All P (xs ++ ys) → All P xs
all_front P xs ys each k d lt = All-contains P (xs ++ ys) (get_or xs k d) each (Contains-append_left xs ys (get_or xs k d) (Contains-get_or xs k d lt))

pub all_last : {X : Type 0} (P : X → Type 0) (xs : List X) (x : X) → All P (xs ++ x ∷ []) → P x
all_last P xs x each = All-contains P (xs ++ x ∷ []) x each (Contains-push xs x)
