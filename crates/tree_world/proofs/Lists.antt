-- Lists whose elements stand in another order, and tests of them.
use Rattle.std.proofs.Common.{◌≡◌, ◌∙◌, ℕ, zero, suc, ◌+◌, ◌<◌, ◌≤◌, ◌&&◌, ◌||◌, Bool, true, false, List, [], ◌∷◌, ◌++◌, length, take, map, get_or, Option, Some, None, cond, refl, sym, ap, subst, true≢false, arith, All, IsPermutation}
use Rattle.std.specs.Prelude.{filter, is_none, not}
use Rattle.std.specs.List.{find, list_any}
use Rattle.std.proofs.lemmas.List.{take_all, map_more, map-append}
use Rattle.std.proofs.lemmas.List.Elements.{All-head, All-tail, All-cons, All-nil, All-more, All-push}
use Rattle.std.proofs.lemmas.List.Sorted.{list_any-IsPermutation, All-permutation}
use Rattle.world_rules.proofs.ListTests.{any_or}

-- ---- tests that agree

pub filter_alike : {X : Type 0} (p q : X → Bool) (xs : List X) → All (λ x. p x ≡ q x) xs → filter p xs ≡ filter q xs
filter_alike p q [] all = refl
filter_alike p q (x ∷ xs) all = (λ i. cond (All-head (λ y. p y ≡ q y) x xs all i) (x ∷ filter_alike p q xs (All-tail (λ y. p y ≡ q y) x xs all) i) (filter_alike p q xs (All-tail (λ y. p y ≡ q y) x xs all) i))

pub any_alike : {X : Type 0} (p q : X → Bool) (xs : List X) → All (λ x. p x ≡ q x) xs → list_any p xs ≡ list_any q xs
any_alike p q [] all = refl
any_alike p q (x ∷ xs) all = (λ i. All-head (λ y. p y ≡ q y) x xs all i || any_alike p q xs (All-tail (λ y. p y ≡ q y) x xs all) i)

pub none_any : {X : Type 0} (xs : List X) → list_any (λ x. false) xs ≡ false
none_any [] = refl
none_any (x ∷ xs) = none_any xs

-- pairs may be looked through from either side
pub any_across : {X Y : Type 0} (p : X → Y → Bool) (xs : List X) (ys : List Y) → list_any (λ x. list_any (p x) ys) xs ≡ list_any (λ y. list_any (λ x. p x y) xs) ys
any_across p [] ys = sym (none_any ys)
any_across p (x ∷ xs) ys = ap (λ (b : Bool). list_any (p x) ys || b) (any_across p xs ys) ∙ sym (any_or (p x) (λ y. list_any (λ z. p z y) xs) ys)

pub any_map : {X Y : Type 0} (p : Y → Bool) (f : X → Y) (xs : List X) → list_any p (map f xs) ≡ list_any (λ x. p (f x)) xs
any_map p f [] = refl
any_map p f (x ∷ xs) = ap (λ (b : Bool). p (f x) || b) (any_map p f xs)

pub any_filter : {X : Type 0} (p q : X → Bool) (xs : List X) → list_any p (filter q xs) ≡ list_any (λ x. q x && p x) xs
any_filter p q [] = refl
any_filter {X} p q (x ∷ xs) = step (q x) (any_filter p q xs)
  where
    step : (b : Bool) → list_any p (filter q xs) ≡ list_any (λ y. q y && p y) xs → list_any p (cond b (x ∷ filter q xs) (filter q xs)) ≡ ((b && p x) || list_any (λ y. q y && p y) xs)
    step true rest = ap (λ (c : Bool). p x || c) rest
    step false rest = rest

-- ---- what is found in another order

pub none_passes : {X : Type 0} (p : X → Bool) (xs : List X) → list_any p xs ≡ false → All (λ x. p x ≡ false) xs
none_passes p [] e = All-nil (λ x. p x ≡ false)
none_passes {X} p (x ∷ xs) e = step (p x) refl e (none_passes p xs)
  where
    step : (b : Bool) → p x ≡ b → (b || list_any p xs) ≡ false → (list_any p xs ≡ false → All (λ y. p y ≡ false) xs) → All (λ y. p y ≡ false) (x ∷ xs)
    step true is h rest = absurd (true≢false h)
    step false is h rest = All-cons (λ y. p y ≡ false) x xs is (rest h)

value_of : {X : Type 0} → X → Option X → X
value_of d (Some x) = x
value_of d None = d

is_there : {X : Type 0} → Option X → Bool
is_there (Some x) = true
is_there None = false

pub found_or_not : {X : Type 0} (p : X → Bool) (xs : List X) → not (is_none (find p xs)) ≡ list_any p xs
found_or_not p [] = refl
found_or_not {X} p (x ∷ xs) = step (p x) (found_or_not p xs)
  where
    step : (b : Bool) → not (is_none (find p xs)) ≡ list_any p xs → not (is_none (cond b (Some x) (find p xs))) ≡ (b || list_any p xs)
    step true rest = refl
    step false rest = rest

none_found : {X : Type 0} (p : X → Bool) (xs : List X) → list_any p xs ≡ false → find p xs ≡ None
none_found p [] e = refl
none_found {X} p (x ∷ xs) e = step (p x) e (none_found p xs)
  where
    step : (b : Bool) → (b || list_any p xs) ≡ false → (list_any p xs ≡ false → find p xs ≡ None) → cond b (Some x) (find p xs) ≡ None
    step true h rest = absurd (true≢false h)
    step false h rest = rest h

-- those that pass are this one
abbrev pub IsOnly : {X : Type 0} → (X → Bool) → X → X → Type 0
IsOnly p x y = p y ≡ true → y ≡ x

only_found : {X : Type 0} (p : X → Bool) (x : X) (xs : List X) → All (IsOnly p x) xs → list_any p xs ≡ true → find p xs ≡ Some x
only_found p x [] only e = absurd (true≢false (sym e))
only_found {X} p x (y ∷ xs) only e = step (p y) refl e (only_found p x xs (All-tail (IsOnly p x) y xs only))
  where
    step : (b : Bool) → p y ≡ b → (b || list_any p xs) ≡ true → (list_any p xs ≡ true → find p xs ≡ Some x) → cond b (Some y) (find p xs) ≡ Some x
    step true is h rest = ap Some (All-head (IsOnly p x) y xs only is)
    step false is h rest = rest h

pub same_found : {X : Type 0} (p : X → Bool) (xs ys : List X) → IsPermutation xs ys → ((x : X) → find p xs ≡ Some x → All (IsOnly p x) xs) → find p xs ≡ find p ys
same_found {X} p xs ys moved only = step (find p xs) refl
  where
    there : list_any p xs ≡ list_any p ys
    there = list_any-IsPermutation p xs ys moved

    step : (found : Option X) → find p xs ≡ found → found ≡ find p ys
    step None is = sym (none_found p ys (sym there ∙ sym (found_or_not p xs) ∙ ap (λ (o : Option X). not (is_none o)) is))
    step (Some x) is = sym (only_found p x ys (All-permutation (IsOnly p x) xs ys moved (only x is)) (sym there ∙ sym (found_or_not p xs) ∙ ap (λ (o : Option X). not (is_none o)) is))

-- ---- fronts of lists

-- a front that is shorter than it may be is the whole
pub whole_front : {X : Type 0} (n : ℕ) (xs : List X) → length (take n xs) < n → take n xs ≡ xs
whole_front {X} n [] short = none n
  where
    none : (k : ℕ) → take {A = X} k [] ≡ []
    none zero = refl
    none (suc k) = refl
whole_front zero (x ∷ xs) short = absurd (omega (arith, short))
whole_front (suc n) (x ∷ xs) short = ap (λ ys. x ∷ ys) (whole_front n xs (omega (arith, short)))

pub all_pass : {X : Type 0} (p : X → Bool) (xs : List X) → All (λ x. p x ≡ true) xs → filter p xs ≡ xs
all_pass p [] all = refl
all_pass {X} p (x ∷ xs) all = (λ i. cond (All-head (λ y. p y ≡ true) x xs all i) (x ∷ filter p xs) (filter p xs)) ∙ ap (λ (ys : List X). x ∷ ys) (all_pass p xs (All-tail (λ y. p y ≡ true) x xs all))

-- ---- one more

pub more_of_all : {X : Type 0} (P : X → Type 0) (xs : List X) (i : ℕ) (x : X) → i < length xs → x ≡ get_or xs i x → All P (take i xs) → P x → All P (take (i + 1) xs)
more_of_all P xs i x lt here before own = All-more P xs i x lt before (subst P here own)

pub all_of_all : {X : Type 0} (P : X → Type 0) (xs : List X) (i : ℕ) → length xs ≤ i → All P (take i xs) → All P xs
all_of_all P xs i past all = subst (All P) (take_all i xs past) all

pub pushed_right : {X : Type 0} (P : X → Type 0) (old new : List X) (x : X) → new ≡ old ++ x ∷ [] → All P old → P x → All P new
pushed_right P old new x is all own = subst (All P) (sym is) (All-push P old x all own)

pub mapped_more : {X Y : Type 0} (f : X → Y) (xs : List X) (i : ℕ) (x : X) (y : Y) (old new : List Y) → i < length xs → x ≡ get_or xs i x → old ≡ map f (take i xs) → new ≡ old ++ y ∷ [] → y ≡ f x → new ≡ map f (take (i + 1) xs)
mapped_more {Y = Y} f xs i x y old new lt here before pushed is = pushed ∙ (λ k. before k ++ (is ∙ ap f here) k ∷ []) ∙ sym (map_more f xs i x lt)

pub mapped_all : {X Y : Type 0} (f : X → Y) (xs : List X) (i : ℕ) (made : List Y) → length xs ≤ i → made ≡ map f (take i xs) → made ≡ map f xs
mapped_all f xs i made past is = is ∙ ap (map f) (take_all i xs past)

pub both_mapped_more : {X Y Z : Type 0} (g : Y → Z) (f : X → Z) (xs : List X) (i : ℕ) (x : X) (y : Y) (old new : List Y) → i < length xs → x ≡ get_or xs i x → map g old ≡ map f (take i xs) → new ≡ old ++ y ∷ [] → g y ≡ f x → map g new ≡ map f (take (i + 1) xs)
both_mapped_more g f xs i x y old new lt here before pushed is = ap (map g) pushed ∙ map-append g old (y ∷ []) ∙ (λ k. before k ++ (is ∙ ap f here) k ∷ []) ∙ sym (map_more f xs i x lt)

pub pushed_right_mapped : {X Y : Type 0} (P : Y → Type 0) (g : X → Y) (old new : List X) (x : X) → new ≡ old ++ x ∷ [] → All P (map g old) → P (g x) → All P (map g new)
pushed_right_mapped P g old new x is all own = subst (All P) (sym (ap (map g) is ∙ map-append g old (x ∷ []))) (All-push P (map g old) (g x) all own)
