-- Filters of filters, and of what is changed in a way that the filter does not see.
use Rattle.std.proofs.Common.{◌≡◌, ◌∙◌, ◌&&◌, Bool, true, false, List, [], ◌∷◌, map, ap, refl}
use Rattle.std.specs.Prelude.{filter}

-- ---- all and none

pub all_pass : {X : Type 0} (xs : List X) → filter (λ (x : X). true) xs ≡ xs
all_pass [] = refl
all_pass {X} (x ∷ xs) = ap (λ (ys : List X). x ∷ ys) (all_pass xs)

pub none_pass : {X : Type 0} (xs : List X) → filter (λ (x : X). false) xs ≡ []
none_pass [] = refl
none_pass (x ∷ xs) = none_pass xs

-- ---- tests that agree where the filter passes

module _ {X : Type 0} (p q r : X → Bool) (agree : (x : X) → p x ≡ true → q x ≡ r x) where
  stay_pass : (x : X) (xs : List X) (v : Bool) → p x ≡ true → r x ≡ v → filter p (filter q xs) ≡ filter r (filter p xs) → filter p (filter q (x ∷ xs)) ≡ filter r (filter p (x ∷ xs))
  stay_pass x xs true e f rest = rw (agree x e ∙ f, e, f) (ap (λ (ys : List X). x ∷ ys) rest)
  stay_pass x xs false e f rest = rw (agree x e ∙ f, e, f) rest

  stay_fail : (x : X) (xs : List X) (v : Bool) → p x ≡ false → q x ≡ v → filter p (filter q xs) ≡ filter r (filter p xs) → filter p (filter q (x ∷ xs)) ≡ filter r (filter p (x ∷ xs))
  stay_fail x xs true e f rest = rw (f, e) rest
  stay_fail x xs false e f rest = rw (f, e) rest

  stay_step : (x : X) (xs : List X) (u : Bool) → p x ≡ u → filter p (filter q xs) ≡ filter r (filter p xs) → filter p (filter q (x ∷ xs)) ≡ filter r (filter p (x ∷ xs))
  stay_step x xs true e rest = stay_pass x xs (r x) e refl rest
  stay_step x xs false e rest = stay_fail x xs (q x) e refl rest

  -- of those that stay, the ones that pass
  pub stay : (xs : List X) → filter p (filter q xs) ≡ filter r (filter p xs)
  stay [] = refl
  stay (x ∷ xs) = stay_step x xs (p x) refl (stay xs)

-- a change that the filter does not see
module _ {X : Type 0} (p : X → Bool) (f : X → X) (unseen : (x : X) → p (f x) ≡ p x) where
  moved_step : (x : X) (xs : List X) (u : Bool) → p x ≡ u → filter p (map f xs) ≡ map f (filter p xs) → filter p (map f (x ∷ xs)) ≡ map f (filter p (x ∷ xs))
  moved_step x xs true e rest = rw (unseen x ∙ e, e) (ap (λ (ys : List X). f x ∷ ys) rest)
  moved_step x xs false e rest = rw (unseen x ∙ e, e) rest

  pub moved : (xs : List X) → filter p (map f xs) ≡ map f (filter p xs)
  moved [] = refl
  moved (x ∷ xs) = moved_step x xs (p x) refl (moved xs)

  -- of those that are changed, the ones that pass
  pub move : (q r : X → Bool) → ((x : X) → p x ≡ true → q x ≡ r x) → (xs : List X) → filter p (map f (filter q xs)) ≡ map f (filter r (filter p xs))
  move q r agree xs = moved (filter q xs) ∙ ap (map f) (stay p q r agree xs)

module _ {X : Type 0} (p q : X → Bool) (no : (x : X) → p x ≡ true → q x ≡ false) where
  -- none of those passes
  pub none_stay : (xs : List X) → filter p (filter q xs) ≡ []
  none_stay xs = stay p q (λ (x : X). false) no xs ∙ none_pass (filter p xs)

  pub none_move : (f : X → X) → ((x : X) → p (f x) ≡ p x) → (xs : List X) → filter p (map f (filter q xs)) ≡ []
  none_move f unseen xs = moved p f unseen (filter q xs) ∙ ap (map f) (none_stay xs)

-- all of those that pass stay
pub all_stay : {X : Type 0} (p q : X → Bool) → ((x : X) → p x ≡ true → q x ≡ true) → (xs : List X) → filter p (filter q xs) ≡ filter p xs
all_stay {X} p q passes xs = stay p q (λ (x : X). true) passes xs ∙ all_pass (filter p xs)

-- a change that makes of one test another
module _ {X : Type 0} (p q : X → Bool) (f : X → X) (seen : (x : X) → p (f x) ≡ q x) where
  became_step : (x : X) (xs : List X) (u : Bool) → q x ≡ u → filter p (map f xs) ≡ map f (filter q xs) → filter p (map f (x ∷ xs)) ≡ map f (filter q (x ∷ xs))
  became_step x xs true e rest = rw (seen x ∙ e, e) (ap (λ (ys : List X). f x ∷ ys) rest)
  became_step x xs false e rest = rw (seen x ∙ e, e) rest

  pub became : (xs : List X) → filter p (map f xs) ≡ map f (filter q xs)
  became [] = refl
  became (x ∷ xs) = became_step x xs (q x) refl (became xs)

-- what passes one test after another
module _ {X : Type 0} (p q : X → Bool) where
  both_step : (x : X) (xs : List X) (u v : Bool) → q x ≡ u → p x ≡ v → filter p (filter q xs) ≡ filter (λ (y : X). p y && q y) xs
      → filter p (filter q (x ∷ xs)) ≡ filter (λ (y : X). p y && q y) (x ∷ xs)
  both_step x xs true true e f rest = rw (e, f) (ap (λ (ys : List X). x ∷ ys) rest)
  both_step x xs true false e f rest = rw (e, f) rest
  both_step x xs false true e f rest = rw (e, f) rest
  both_step x xs false false e f rest = rw (e, f) rest

  pub both_tests : (xs : List X) → filter p (filter q xs) ≡ filter (λ (y : X). p y && q y) xs
  both_tests [] = refl
  both_tests (x ∷ xs) = both_step x xs (q x) (p x) refl refl (both_tests xs)

-- where nothing passes, nothing of some does
module _ {X : Type 0} (p q : X → Bool) (xs : List X) (none : filter p xs ≡ []) where
  pub none_of : filter p (filter q xs) ≡ []
  none_of = stay p q q (λ x e. refl) xs ∙ ap (filter q) none

  pub none_of_moved : (f : X → X) → ((x : X) → p (f x) ≡ p x) → filter p (map f (filter q xs)) ≡ []
  none_of_moved f unseen = moved p f unseen (filter q xs) ∙ ap (map f) none_of

-- two changes that agree on what passes
module _ {X Y : Type 0} (p : X → Bool) (f g : X → Y) (agree : (x : X) → p x ≡ true → f x ≡ g x) where
  map_step : (x : X) (xs : List X) (u : Bool) → p x ≡ u → map f (filter p xs) ≡ map g (filter p xs) → map f (filter p (x ∷ xs)) ≡ map g (filter p (x ∷ xs))
  map_step x xs true e rest = rw e (λ i. agree x e i ∷ rest i)
  map_step x xs false e rest = rw e rest

  pub map_where : (xs : List X) → map f (filter p xs) ≡ map g (filter p xs)
  map_where [] = refl
  map_where (x ∷ xs) = map_step x xs (p x) refl (map_where xs)

pub map_same : {X : Type 0} (xs : List X) → map (λ (x : X). x) xs ≡ xs
map_same [] = refl
map_same (x ∷ xs) = ap (λ ys. x ∷ ys) (map_same xs)
