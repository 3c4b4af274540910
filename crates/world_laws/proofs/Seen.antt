-- Lists of which a part is seen, and functions that agree on it.
use Rattle.std.proofs.Common.{◌≡◌, ℕ, ◌+◌, ◌∙◌, ◌&&◌, ◌||◌, Bool, true, false, cond, List, [], ◌∷◌, ◌++◌, length, map, drop, get_or, ap, sym, refl}
use Rattle.std.specs.Prelude.{filter, Option, Some, None}
use Rattle.std.specs.List.{list_any, find, flat_map, filter_map, cons_option, sum_by}
use Rattle.std.proofs.lemmas.Bool.{true≢false, or_parts}
use Rattle.std.proofs.lemmas.List.Sums.{sum_by-cons}

-- ---- two tests

-- what passes the second test after the first passes both
both_step : {X : Type 0} (p q : X → Bool) (x : X) (xs : List X) (a b : Bool) → p x ≡ a → q x ≡ b → filter q (filter p xs) ≡ filter (λ y. p y && q y) xs
    → filter q (filter p (x ∷ xs)) ≡ filter (λ y. p y && q y) (x ∷ xs)
both_step p q x xs true true e f rest = rw (e, f) (ap (λ ys. x ∷ ys) rest)
both_step p q x xs true false e f rest = rw (e, f) rest
both_step p q x xs false b e f rest = rw e rest

pub then_filter : {X : Type 0} (p q : X → Bool) (xs : List X) → filter q (filter p xs) ≡ filter (λ y. p y && q y) xs
then_filter p q [] = refl
then_filter p q (x ∷ xs) = both_step p q x xs (p x) (q x) refl refl (then_filter p q xs)

any_step : {X : Type 0} (p q : X → Bool) (x : X) (xs : List X) (a : Bool) → p x ≡ a → list_any q (filter p xs) ≡ list_any (λ y. p y && q y) xs
    → list_any q (filter p (x ∷ xs)) ≡ list_any (λ y. p y && q y) (x ∷ xs)
any_step p q x xs true e rest = rw e (ap (λ (b : Bool). q x || b) rest)
any_step p q x xs false e rest = rw e rest

pub then_any : {X : Type 0} (p q : X → Bool) (xs : List X) → list_any q (filter p xs) ≡ list_any (λ y. p y && q y) xs
then_any p q [] = refl
then_any p q (x ∷ xs) = any_step p q x xs (p x) refl (then_any p q xs)

find_step : {X : Type 0} (p q : X → Bool) (x : X) (xs : List X) (a b : Bool) → p x ≡ a → q x ≡ b → find q (filter p xs) ≡ find (λ y. p y && q y) xs
    → find q (filter p (x ∷ xs)) ≡ find (λ y. p y && q y) (x ∷ xs)
find_step p q x xs true true e f rest = rw (e, f) refl
find_step p q x xs true false e f rest = rw (e, f) rest
find_step p q x xs false b e f rest = rw e rest

pub then_find : {X : Type 0} (p q : X → Bool) (xs : List X) → find q (filter p xs) ≡ find (λ y. p y && q y) xs
then_find p q [] = refl
then_find p q (x ∷ xs) = find_step p q x xs (p x) (q x) refl refl (then_find p q xs)

-- ---- a test that the other one follows from

stay_step : {X : Type 0} (p q : X → Bool) (x : X) (xs : List X) (a b : Bool) → p x ≡ a → q x ≡ b → (q x ≡ true → p x ≡ true) → filter q (filter p xs) ≡ filter q xs
    → filter q (filter p (x ∷ xs)) ≡ filter q (x ∷ xs)
stay_step p q x xs true true e f goes rest = rw (e, f) (ap (λ ys. x ∷ ys) rest)
stay_step p q x xs true false e f goes rest = rw (e, f) rest
stay_step p q x xs false true e f goes rest = absurd (true≢false (sym (goes f) ∙ e))
stay_step p q x xs false false e f goes rest = rw (e, f) rest

pub filter_stay : {X : Type 0} (p q : X → Bool) → ((x : X) → q x ≡ true → p x ≡ true) → (xs : List X) → filter q (filter p xs) ≡ filter q xs
filter_stay p q goes [] = refl
filter_stay p q goes (x ∷ xs) = stay_step p q x xs (p x) (q x) refl refl (goes x) (filter_stay p q goes xs)

any_stay_step : {X : Type 0} (p q : X → Bool) (x : X) (xs : List X) (a b : Bool) → p x ≡ a → q x ≡ b → (q x ≡ true → p x ≡ true) → list_any q (filter p xs) ≡ list_any q xs
    → list_any q (filter p (x ∷ xs)) ≡ list_any q (x ∷ xs)
any_stay_step p q x xs true b e f goes rest = rw e (ap (λ (c : Bool). q x || c) rest)
any_stay_step p q x xs false true e f goes rest = absurd (true≢false (sym (goes f) ∙ e))
any_stay_step p q x xs false false e f goes rest = rw (e, f) rest

pub any_stay : {X : Type 0} (p q : X → Bool) → ((x : X) → q x ≡ true → p x ≡ true) → (xs : List X) → list_any q (filter p xs) ≡ list_any q xs
any_stay p q goes [] = refl
any_stay p q goes (x ∷ xs) = any_stay_step p q x xs (p x) (q x) refl refl (goes x) (any_stay p q goes xs)

-- ---- functions that agree on what passes

map_step : {X Y : Type 0} (f g : X → Y) (p : X → Bool) (x : X) (xs : List X) (a : Bool) → p x ≡ a → (p x ≡ true → f x ≡ g x) → map f (filter p xs) ≡ map g (filter p xs)
    → map f (filter p (x ∷ xs)) ≡ map g (filter p (x ∷ xs))
map_step f g p x xs true e agree rest = rw e (λ i. agree e i ∷ rest i)
map_step f g p x xs false e agree rest = rw e rest

pub map_passing : {X Y : Type 0} (f g : X → Y) (p : X → Bool) → ((x : X) → p x ≡ true → f x ≡ g x) → (xs : List X) → map f (filter p xs) ≡ map g (filter p xs)
map_passing f g p agree [] = refl
map_passing f g p agree (x ∷ xs) = map_step f g p x xs (p x) refl (agree x) (map_passing f g p agree xs)

filter_step : {X : Type 0} (f g p : X → Bool) (x : X) (xs : List X) (a : Bool) → p x ≡ a → (p x ≡ true → f x ≡ g x) → filter f (filter p xs) ≡ filter g (filter p xs)
    → filter f (filter p (x ∷ xs)) ≡ filter g (filter p (x ∷ xs))
filter_step f g p x xs true e agree rest = rw e (λ i. cond (agree e i) (x ∷ rest i) (rest i))
filter_step f g p x xs false e agree rest = rw e rest

pub filter_passing : {X : Type 0} (f g p : X → Bool) → ((x : X) → p x ≡ true → f x ≡ g x) → (xs : List X) → filter f (filter p xs) ≡ filter g (filter p xs)
filter_passing f g p agree [] = refl
filter_passing f g p agree (x ∷ xs) = filter_step f g p x xs (p x) refl (agree x) (filter_passing f g p agree xs)

-- ---- functions that agree where nothing is bad

pub map_good : {X Y : Type 0} (bad : X → Bool) (f g : X → Y) → ((x : X) → bad x ≡ false → f x ≡ g x) → (xs : List X) → list_any bad xs ≡ false → map f xs ≡ map g xs
map_good bad f g agree [] none = refl
map_good bad f g agree (x ∷ xs) none =
    let parts = or_parts (bad x) (list_any bad xs) none in
    λ i. agree x parts.0 i ∷ map_good bad f g agree xs parts.1 i

pub flat_good : {X Y : Type 0} (bad : X → Bool) (f g : X → List Y) → ((x : X) → bad x ≡ false → f x ≡ g x) → (xs : List X) → list_any bad xs ≡ false → flat_map f xs ≡ flat_map g xs
flat_good bad f g agree [] none = refl
flat_good bad f g agree (x ∷ xs) none =
    let parts = or_parts (bad x) (list_any bad xs) none in
    λ i. agree x parts.0 i ++ flat_good bad f g agree xs parts.1 i

pub any_good : {X : Type 0} (bad f g : X → Bool) → ((x : X) → bad x ≡ false → f x ≡ g x) → (xs : List X) → list_any bad xs ≡ false → list_any f xs ≡ list_any g xs
any_good bad f g agree [] none = refl
any_good bad f g agree (x ∷ xs) none =
    let parts = or_parts (bad x) (list_any bad xs) none in
    λ i. agree x parts.0 i || any_good bad f g agree xs parts.1 i

pub sum_good : {X : Type 0} (bad : X → Bool) (f g : X → ℕ) → ((x : X) → bad x ≡ false → f x ≡ g x) → (xs : List X) → list_any bad xs ≡ false → sum_by f xs ≡ sum_by g xs
sum_good bad f g agree [] none = refl
sum_good bad f g agree (x ∷ xs) none =
    let parts = or_parts (bad x) (list_any bad xs) none in
    sum_by-cons f x xs ∙ (λ i. agree x parts.0 i + sum_good bad f g agree xs parts.1 i) ∙ sym (sum_by-cons g x xs)

-- ---- what rows show

shown_step : {X Y : Type 0} (f g : X → Option Y) (test : X → Bool) (x : X) (xs : List X) (a : Bool) → test x ≡ a → f x ≡ g x → filter_map f (filter test xs) ≡ filter_map g (filter test xs)
    → filter_map f (filter test (x ∷ xs)) ≡ filter_map g (filter test (x ∷ xs))
shown_step f g test x xs true e here rest = rw e (λ i. cons_option (here i) (rest i))
shown_step f g test x xs false e here rest = rw e rest

-- what each row shows, those that pass show
pub shown_alike : {X Y : Type 0} (f g : X → Option Y) (test : X → Bool) (xs : List X) → map f xs ≡ map g xs → filter_map f (filter test xs) ≡ filter_map g (filter test xs)
shown_alike f g test [] e = refl
shown_alike f g test (x ∷ xs) e =
    shown_step f g test x xs (test x) refl (ap (λ ys. get_or ys 0 None) e) (shown_alike f g test xs (ap (drop 1) e))
