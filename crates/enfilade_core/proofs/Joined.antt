-- What is told of children, one after another, where they are known to be well formed.
use Rattle.std.proofs.Common.{◌≡◌, ℕ, zero, suc, ◌+◌, ◌<◌, ◌≤◌, List, [], ◌∷◌, ◌++◌, length, get_or, take, refl, arith, ap, ◌∙◌, sym}
use Rattle.std.proofs.lemmas.List.{take_more, take_all}
use Rattle.enfilade_core.specs.declared.summary.Summary.{Summary}
use Rattle.enfilade_core.specs.Summary.{summary_joined, kept}
use Rattle.enfilade_core.specs.Following.{with_last}
use Rattle.enfilade_core.proofs.Fronts.{all_joined, joined-more}
use Rattle.enfilade_core.proofs.GoneThrough.{kept-joined}

-- what is told of the first items, but for where the last row stands
abbrev pub JoinedSoFar : {A : Type 0} → (A → Summary) → List A → Summary → Type 0
JoinedSoFar sum_of items s = s ≡ with_last [] (kept (all_joined sum_of items))

take_next : {A : Type 0} (xs : List A) (i : ℕ) (x : A) → i < length xs → x ≡ get_or xs i x → take (i + 1) xs ≡ take i xs ++ x ∷ []
take_next xs i x lt at = take_more xs i x lt ∙ ap (λ (y : _). take i xs ++ y ∷ []) (sym at)

pub joined-next : {A : Type 0} (sum_of : A → Summary) (xs : List A) (i : ℕ) (x : A) (s made : Summary) → i < length xs → x ≡ get_or xs i x → JoinedSoFar sum_of (take i xs) s
    → made ≡ with_last s.last (kept (summary_joined s (kept (sum_of x)))) → JoinedSoFar sum_of (take (i + 1) xs) made
joined-next sum_of xs i x s made lt at so_far is =
    let whole = all_joined sum_of (take i xs) in
    is
    ∙ ap (λ (q : Summary). with_last q.last (kept (summary_joined q (kept (sum_of x))))) so_far
    ∙ ap (with_last []) (kept-joined whole (sum_of x) ∙ ap kept (sym (ap (all_joined sum_of) (take_next xs i x lt at) ∙ joined-more sum_of (take i xs) x)))

-- where the last row stands is told by the last item
pub joined-whole : {A : Type 0} (sum_of : A → Summary) (xs : List A) (i k : ℕ) (x : A) (s : Summary) (coordinate : List ℕ) → length xs ≤ i → k + 1 ≡ length xs → x ≡ get_or xs k x → JoinedSoFar sum_of (take i xs) s
    → coordinate ≡ (sum_of x).last → with_last coordinate s ≡ kept (all_joined sum_of xs)
joined-whole sum_of xs i k x s coordinate le end at so_far is =
    let whole : all_joined sum_of xs ≡ summary_joined (all_joined sum_of (take k xs)) (sum_of x) =
    ap (all_joined sum_of) (sym (take_all (k + 1) xs (omega arith)) ∙ take_next xs k x (omega arith) at) ∙ joined-more sum_of (take k xs) x in
    ap (with_last coordinate) (so_far ∙ ap (λ (items : List _). with_last [] (kept (all_joined sum_of items))) (take_all i xs le))
    ∙ ap (λ (p : List ℕ). with_last p (kept (all_joined sum_of xs))) (is ∙ sym (ap (λ (q : Summary). q.last) whole))

-- with no items nothing is told
pub joined-none : {A : Type 0} (sum_of : A → Summary) (xs : List A) (i : ℕ) (s : Summary) → length xs ≡ 0 → JoinedSoFar sum_of (take i xs) s → s ≡ kept (all_joined sum_of xs)
joined-none sum_of [] zero s e so_far = so_far
joined-none sum_of [] (suc i) s e so_far = so_far
joined-none sum_of (x ∷ xs) i s e so_far = absurd (omega arith)

pub joined-height : {A : Type 0} (sum_of : A → Summary) (xs : List A) (i k : ℕ) (x : A) (s : Summary) → length xs ≤ i → k + 1 ≡ length xs → x ≡ get_or xs k x → JoinedSoFar sum_of (take i xs) s → s.height ≡ (sum_of x).height
joined-height sum_of xs i k x s le end at so_far =
    ap (λ (q : Summary). q.height) (joined-whole sum_of xs i k x s (sum_of x).last le end at so_far refl)
    ∙ ap (λ (q : Summary). q.height) (ap (all_joined sum_of) (sym (take_all (k + 1) xs (omega arith)) ∙ take_next xs k x (omega arith) at) ∙ joined-more sum_of (take k xs) x)
