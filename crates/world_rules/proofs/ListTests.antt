-- Lists by tests, and with one element more.
use Rattle.std.proofs.Common.{◌≡◌, ◌∙◌, ℕ, ◌+◌, ◌<◌, ◌&&◌, ◌||◌, Bool, true, false, List, [], ◌∷◌, ◌++◌, length, take, map, get_or, cond, refl, ap, append-nil}
use Rattle.std.specs.Prelude.{filter}
use Rattle.std.specs.List.{list_any, flat_map}
use Rattle.std.proofs.lemmas.List.{take_more}
use Rattle.std.proofs.lemmas.List.Concat.{flat_map-append}
use Rattle.std.proofs.lemmas.List.Folds.{flat_map-map}
use Rattle.febe_data.specs.declared.spec.Spec.{Spec}
use Rattle.febe_data.specs.Plain.{PlainSpec, plain_spec}

pub filter_both : {X : Type 0} (p q : X → Bool) (xs : List X) → filter (λ x. p x && q x) xs ≡ filter q (filter p xs)
filter_both p q [] = refl
filter_both {X = X} p q (x ∷ xs) = step (p x) (filter_both p q xs)
  where
    step : (b : Bool) → filter (λ x. p x && q x) xs ≡ filter q (filter p xs) → cond (b && q x) (x ∷ filter (λ x. p x && q x) xs) (filter (λ x. p x && q x) xs) ≡ filter q (cond b (x ∷ filter p xs) (filter p xs))
    step true rest = ap (λ (ys : List X). cond (q x) (x ∷ ys) ys) rest
    step false rest = rest

pub any_or : {X : Type 0} (p q : X → Bool) (xs : List X) → list_any (λ x. p x || q x) xs ≡ (list_any p xs || list_any q xs)
any_or p q [] = refl
any_or p q (x ∷ xs) = ap (λ (b : Bool). p x || q x || b) (any_or p q xs) ∙ turned (p x) (q x) (list_any p xs) (list_any q xs)
  where
    turned : (a b c d : Bool) → (a || b || (c || d)) ≡ (a || c || (b || d))
    turned true b c d = refl
    turned false true true d = refl
    turned false true false d = refl
    turned false false c d = refl

-- one more of a list of lists
pub flat_map_at : {X Y : Type 0} (f : X → List Y) (xs : List X) (i : ℕ) (d : X) → i < length xs → flat_map f (take (i + 1) xs) ≡ flat_map f (take i xs) ++ f (get_or xs i d)
flat_map_at f xs i d lt = rw (take_more xs i d lt, flat_map-append) (ap (λ (ys : List _). flat_map f (take i xs) ++ ys) (append-nil (f (get_or xs i d))))

-- one more spec
pub flat_map_spec : {Y : Type 0} (f : PlainSpec → List Y) (specs : List Spec) (i : ℕ) (d : Spec) → i < length specs
    → flat_map f (map plain_spec (take (i + 1) specs)) ≡ flat_map f (map plain_spec (take i specs)) ++ f (plain_spec (get_or specs i d))
flat_map_spec f specs i d lt =
    rw (flat_map-map f plain_spec (take (i + 1) specs), flat_map-map f plain_spec (take i specs))
    (flat_map_at (λ (spec : Spec). f (plain_spec spec)) specs i d lt)
