-- Children gone through one after another, and what is kept of them.
use Rattle.std.proofs.Common.{◌≡◌, ◌≢◌, ℕ, ◌+◌, ◌<◌, ◌≤◌, min, List, [], ◌∷◌, ◌++◌, length, get_or, take, drop, map, cond, eqb, arith, ap, ◌∙◌, sym, subst, inl, inr, Option, Some, None, Bool, false}
use Rattle.std.specs.Option.{IfNone}
use Rattle.std.specs.List.{All, flat_map}
use Rattle.std.proofs.lemmas.List.{take_more, drop_more, take-append-drop, take_all, length-map, get_or-map}
use Rattle.std.proofs.lemmas.Bool.Decides.{nat_tests}
use Rattle.std.proofs.lemmas.List.Elements.{All-get_or}
use Rattle.enfilade_core.specs.declared.tree.Row.{Row}
use Rattle.enfilade_core.specs.declared.summary.Summary.{Summary}
use Rattle.enfilade_core.specs.Axes.{InOrder, later}
use Rattle.enfilade_core.specs.Summary.{no_summary, summary_joined, kept, most_count}
use Rattle.enfilade_core.specs.Following.{Follows}
use Rattle.enfilade_core.proofs.Fronts.{ItemTold, IsFront, all_joined, front-none, front-more, front-follows, joined-more}

pub record GoneThrough {L A : Type 0} (rows : A → List (Row L)) (sum_of : A → Summary) (P : A → Type 0) (items : List A) (s : Summary) : Type 0 where
  pub value : s ≡ kept (all_joined sum_of items)
  pub front : IsFront rows sum_of P items (all_joined sum_of items)

pub gone-none : {L A : Type 0} (rows : A → List (Row L)) (sum_of : A → Summary) (P : A → Type 0) (s : Summary) → s ≡ no_summary → GoneThrough rows sum_of P [] s
gone-none rows sum_of P s is = record { value = is; front = front-none rows sum_of P }

same_test : (a : ℕ) → eqb (min a most_count) 0 ≡ eqb a 0
same_test a = grind (arith, nat_tests)

pub kept-joined : (a b : Summary) → kept (summary_joined (kept a) (kept b)) ≡ kept (summary_joined a b)
kept-joined a b =
    let made : ℕ → List ℕ → Summary = λ n first. record {
      height = b.height;
      leaves = n;
      first = first;
      last = b.last;
      first_extent = later a.first_extent b.first_extent;
      second_extent = later a.second_extent b.second_extent;
    } in
    let count : min (min a.leaves most_count + min b.leaves most_count) most_count ≡ min (a.leaves + b.leaves) most_count = omega arith in
    ap (λ (n : ℕ). made n (cond (eqb (min a.leaves most_count) 0) b.first a.first)) count
    ∙ ap (λ t. made (min (a.leaves + b.leaves) most_count) (cond t b.first a.first)) (same_test a.leaves)

follows-whole : (s part : Summary) → Follows (kept s) (kept part) → Follows s part
follows-whole s part f = elim f [
  | inl none ↦ inl (omega arith)
  | inr both ↦ inr both
]

follows-kept : (s part : Summary) → Follows s part → Follows (kept s) (kept part)
follows-kept s part f = elim f [
  | inl none ↦ inl (omega arith)
  | inr both ↦ inr both
]

pub gone-more : {L A : Type 0} (rows : A → List (Row L)) (sum_of : A → Summary) (P : A → Type 0) (told : (x : A) → P x → ItemTold rows sum_of x) (items : List A) (x : A) (s part made : Summary)
    → GoneThrough rows sum_of P items s → P x → part ≡ kept (sum_of x) → Follows s part → made ≡ kept (summary_joined s part) → GoneThrough rows sum_of P (items ++ x ∷ []) made
gone-more rows sum_of P told items x s part made gone p is follows value =
    let whole = all_joined sum_of items in
    let f : Follows whole (sum_of x) = follows-whole whole (sum_of x) (subst (λ (q : Summary). Follows (kept whole) q) is (subst (λ (q : Summary). Follows q part) gone.value follows)) in
    let next = joined-more sum_of items x in
    record {
      value = value ∙ ap (λ (q : Summary). kept (summary_joined q part)) gone.value ∙ ap (λ (q : Summary). kept (summary_joined (kept whole) q)) is ∙ kept-joined whole (sum_of x) ∙ ap kept (sym next);
      front = subst (IsFront rows sum_of P (items ++ x ∷ [])) (sym next) (front-more rows sum_of P told items x whole gone.front p f);
    }

-- where item i of xs is x
pub gone-step : {L A : Type 0} (rows : A → List (Row L)) (sum_of : A → Summary) (P : A → Type 0) (told : (x : A) → P x → ItemTold rows sum_of x) (xs : List A) (i : ℕ) (x : A) (s part made : Summary)
    → i < length xs → x ≡ get_or xs i x → GoneThrough rows sum_of P (take i xs) s → P x → part ≡ kept (sum_of x) → Follows s part → made ≡ kept (summary_joined s part) → GoneThrough rows sum_of P (take (i + 1) xs) made
gone-step rows sum_of P told xs i x s part made lt at gone p is follows value =
    subst (λ (items : List _). GoneThrough rows sum_of P items made) (ap (λ (y : _). take i xs ++ y ∷ []) at ∙ sym (take_more xs i x lt))
    (gone-more rows sum_of P told (take i xs) x s part made gone p is follows value)

pub around : {A : Type 0} (xs : List A) (i : ℕ) (x : A) → i < length xs → x ≡ get_or xs i x → xs ≡ take i xs ++ x ∷ drop (i + 1) xs
around xs i x lt at = sym (ap (λ (y : _). take i xs ++ y ∷ drop (i + 1) xs) at ∙ ap (λ (r : List _). take i xs ++ r) (sym (drop_more xs i x lt)) ∙ take-append-drop i xs)

pub gone-follows : {L A : Type 0} (rows : A → List (Row L)) (sum_of : A → Summary) (P : A → Type 0) (told : (x : A) → P x → ItemTold rows sum_of x) (xs : List A) (i : ℕ) (x : A) (s part : Summary) (h : ℕ)
    → i < length xs → x ≡ get_or xs i x → GoneThrough rows sum_of P (take i xs) s → P x → part ≡ kept (sum_of x) → InOrder (flat_map rows xs) → All (λ y. (sum_of y).height ≡ h) xs → Follows s part
gone-follows rows sum_of P told xs i x s part h lt at gone p is ordered level =
    let whole = all_joined sum_of (take i xs) in
    let f = front-follows rows sum_of P told (take i xs) x (drop (i + 1) xs) whole h gone.front p
    (subst (λ (ys : List _). InOrder (flat_map rows ys)) (around xs i x lt at) ordered) (subst (All (λ y. (sum_of y).height ≡ h)) (around xs i x lt at) level) in
    subst (λ (q : Summary). Follows q part) (sym gone.value) (subst (λ (q : Summary). Follows (kept whole) q) (sym is) (follows-kept whole (sum_of x) f))

pub item-well_formed : {A : Type 0} (P : A → Type 0) (xs : List A) (i : ℕ) (x : A) → i < length xs → x ≡ get_or xs i x → All P xs → P x
item-well_formed P xs i x lt at h = subst P (sym at) (All-get_or P xs i x lt h)

-- where all were gone through
pub gone-all : {L A : Type 0} (rows : A → List (Row L)) (sum_of : A → Summary) (P : A → Type 0) (xs : List A) (i : ℕ) (s : Summary) → length xs ≤ i → GoneThrough rows sum_of P (take i xs) s → GoneThrough rows sum_of P xs s
gone-all rows sum_of P xs i s le gone = subst (λ (items : List _). GoneThrough rows sum_of P items s) (take_all i xs le) gone

pub if_none : {A : Type 0} (Q : Type 0) (o : Option A) → Q → IfNone o Q
if_none Q (Some a) q = tt
if_none Q None q = q

-- item i of a list, as what it is mapped to
pub record MappedAt {A B : Type 0} (f : A → B) (xs : List A) (i : ℕ) (x : A) : Type 0 where
  pub short : i < length (map f xs)
  pub at : f x ≡ get_or (map f xs) i (f x)

pub mapped_at : {A B : Type 0} (f : A → B) (xs : List A) (i : ℕ) (x : A) → i < length xs → x ≡ get_or xs i x → MappedAt f xs i x
mapped_at f xs i x lt at = record {
  short = omega (arith, length-map xs f);
  at = ap f at ∙ sym (get_or-map f xs i x (f x) lt);
}

pub filled_if : {A : Type 0} (xs : List A) (b : Bool) → b ≡ eqb (length xs) 0 → b ≡ false → xs ≢ []
filled_if [] b e f q = cc
filled_if (x ∷ xs) b e f q = cc
