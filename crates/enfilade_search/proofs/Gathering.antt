-- What is gathered so far, and one more.
use Rattle.std.proofs.Common.{◌≡◌, ℕ, ◌+◌, ◌<◌, ◌≤◌, Bool, List, [], ◌∷◌, ◌++◌, length, get_or, take, ap, ◌∙◌, sym, append_assoc, append-nil}
use Rattle.std.specs.List.{filter, flat_map}
use Rattle.std.proofs.lemmas.List.{take_more, take_all}
use Rattle.std.proofs.lemmas.List.Elements.{filter-append}
use Rattle.std.proofs.lemmas.Grind.{flat_map-append}

one_more : {A X : Type 0} (items_of : A → List X) (xs : List A) (i : ℕ) (x : A) → i < length xs → x ≡ get_or xs i x → flat_map items_of (take i xs) ++ items_of x ≡ flat_map items_of (take (i + 1) xs)
one_more items_of xs i x lt at =
    ap (λ (r : List _). flat_map items_of (take i xs) ++ r) (sym (append-nil (items_of x)))
    ∙ sym (flat_map-append items_of (take i xs) (x ∷ []))
    ∙ ap (flat_map items_of) (ap (λ (y : _). take i xs ++ y ∷ []) at ∙ sym (take_more xs i x lt))

-- behind what was held stands what passes of the items so far; then the next item's comes behind it
pub gathered_more : {A X : Type 0} (test : X → Bool) (items_of : A → List X) (xs : List A) (i : ℕ) (x : A) (held so_far now : List X) → i < length xs → x ≡ get_or xs i x
    → so_far ≡ held ++ filter test (flat_map items_of (take i xs)) → now ≡ so_far ++ filter test (items_of x) → now ≡ held ++ filter test (flat_map items_of (take (i + 1) xs))
gathered_more test items_of xs i x held so_far now lt at before is =
    let front = flat_map items_of (take i xs) in
    is ∙ ap (λ (r : List _). r ++ filter test (items_of x)) before ∙ append_assoc held (filter test front) (filter test (items_of x))
    ∙ ap (λ (r : List _). held ++ r) (sym (filter-append test front (items_of x)))
    ∙ ap (λ (r : List _). held ++ filter test r) (one_more items_of xs i x lt at)

pub gathered_all : {A X : Type 0} (test : X → Bool) (items_of : A → List X) (xs : List A) (i : ℕ) (held now whole : List X) → length xs ≤ i → whole ≡ flat_map items_of xs
    → now ≡ held ++ filter test (flat_map items_of (take i xs)) → now ≡ held ++ filter test whole
gathered_all test items_of xs i held now whole le is so_far =
    so_far ∙ ap (λ (ys : List _). held ++ filter test (flat_map items_of ys)) (take_all i xs le) ∙ ap (λ (r : List _). held ++ filter test r) (sym is)
