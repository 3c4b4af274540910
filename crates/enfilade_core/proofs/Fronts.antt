-- Children that were gone through so far: their rows are in order and equally deep, and what is told of them together.
use Rattle.std.proofs.Common.{◌≡◌, ◌≢◌, ℕ, ◌<◌, List, [], ◌∷◌, ◌++◌, length, map, fold, refl, arith, ap, ◌∙◌, sym, subst, inl, inr, append-nil, append_assoc}
use Rattle.std.specs.List.{All, flat_map}
use Rattle.std.proofs.lemmas.List.{length-append, map-append}
use Rattle.std.proofs.lemmas.List.Sums.{fold-append}
use Rattle.std.proofs.lemmas.Grind.{flat_map-append}
use Rattle.std.proofs.lemmas.List.Elements.{All-head, All-nil, All-weaker, All-append}
use Rattle.tumbler.specs.Places.{IsUpTo}
use Rattle.tumbler.proofs.Alls.{All-back, All-one}
use Rattle.enfilade_core.specs.declared.tree.Row.{Row}
use Rattle.enfilade_core.specs.declared.summary.Summary.{Summary}
use Rattle.enfilade_core.specs.Axes.{InOrder}
use Rattle.enfilade_core.specs.Summary.{no_summary, summary_joined}
use Rattle.enfilade_core.specs.Following.{Follows}
use Rattle.enfilade_core.proofs.Tells.{first_coordinate, last_coordinate}
use Rattle.enfilade_core.proofs.Orders.{InOrder-append, InOrder-front, InOrder-seam}

-- what is known of one child
pub record ItemTold {L A : Type 0} (rows : A → List (Row L)) (sum_of : A → Summary) (x : A) : Type 0 where
  pub some : rows x ≢ []
  pub leaves : (sum_of x).leaves ≡ length (rows x)
  pub first : (sum_of x).first ≡ first_coordinate (rows x)
  pub last : (sum_of x).last ≡ last_coordinate (rows x)
  pub ordered : InOrder (rows x)

abbrev pub all_joined : {A : Type 0} → (A → Summary) → List A → Summary
all_joined sum_of items = fold summary_joined no_summary (map sum_of items)

pub record IsFront {L A : Type 0} (rows : A → List (Row L)) (sum_of : A → Summary) (P : A → Type 0) (items : List A) (s : Summary) : Type 0 where
  pub parts : All P items
  pub leaves : s.leaves ≡ length (flat_map rows items)
  pub last : s.last ≡ last_coordinate (flat_map rows items)
  pub ordered : InOrder (flat_map rows items)
  pub level : All (λ x. (sum_of x).height ≡ s.height) items

pub front-none : {L A : Type 0} (rows : A → List (Row L)) (sum_of : A → Summary) (P : A → Type 0) → IsFront rows sum_of P [] no_summary
front-none rows sum_of P = record { parts = All-nil P; leaves = refl; last = refl; ordered = tt; level = All-nil (λ x. (sum_of x).height ≡ 0) }

length_none : {X : Type 0} (xs : List X) → length xs ≡ 0 → xs ≡ []
length_none [] e = refl
length_none (x ∷ xs) e = absurd (omega arith)

pub not_none : {X : Type 0} (xs : List X) → length xs ≢ 0 → xs ≢ []
not_none xs n q = n (ap length q)

pub some_long : {X : Type 0} (xs : List X) → xs ≢ [] → 0 < length xs
some_long [] n = absurd (n refl)
some_long (x ∷ xs) n = omega arith

-- with no rows there are no children
none_if_no_rows : {L A : Type 0} (rows : A → List (Row L)) (sum_of : A → Summary) (items : List A) → All (ItemTold rows sum_of) items → length (flat_map rows items) ≡ 0 → items ≡ []
none_if_no_rows rows sum_of [] told e = refl
none_if_no_rows rows sum_of (x ∷ items) told e =
    absurd (let long = some_long (rows x) (All-head (ItemTold rows sum_of) x items told).some in omega (arith, length-append (rows x) (flat_map rows items)))

last-append : {L : Type 0} (rows more : List (Row L)) → more ≢ [] → last_coordinate (rows ++ more) ≡ last_coordinate more
last-append [] more n = refl
last-append (row ∷ []) [] n = absurd (n refl)
last-append (row ∷ []) (next ∷ more) n = refl
last-append (row ∷ next ∷ rows) more n = last-append (next ∷ rows) more n

flat_one : {L A : Type 0} (rows : A → List (Row L)) (items : List A) (x : A) → flat_map rows (items ++ x ∷ []) ≡ flat_map rows items ++ rows x
flat_one rows items x = flat_map-append rows items (x ∷ []) ∙ ap (λ (r : List (Row _)). flat_map rows items ++ r) (append-nil (rows x))

pub front-more : {L A : Type 0} (rows : A → List (Row L)) (sum_of : A → Summary) (P : A → Type 0) (told : (x : A) → P x → ItemTold rows sum_of x) (items : List A) (x : A) (s : Summary)
    → IsFront rows sum_of P items s → P x → Follows s (sum_of x) → IsFront rows sum_of P (items ++ x ∷ []) (summary_joined s (sum_of x))
front-more {L} {A} rows sum_of P told items x s front p follows =
    let it = told x p in
    let all_told = All-weaker P (ItemTold rows sum_of) told items front.parts in
    let flat = flat_one rows items x in
    record {
      parts = All-append P items (x ∷ []) front.parts (All-one P x p);
      leaves = omega (arith, front.leaves, it.leaves, ap length flat, length-append (flat_map rows items) (rows x));
      last = it.last ∙ sym (last-append (flat_map rows items) (rows x) it.some) ∙ ap last_coordinate (sym flat);
      ordered = subst InOrder (sym flat) (InOrder-append (flat_map rows items) (rows x) front.ordered it.ordered (λ some also. elim follows [
        | inl none ↦ absurd (some (length_none (flat_map rows items) (sym front.leaves ∙ none)))
        | inr both ↦ subst (λ (a : List ℕ). IsUpTo a (first_coordinate (rows x))) front.last (subst (IsUpTo s.last) it.first both.1)
      ]));
      level = All-append (λ y. (sum_of y).height ≡ (sum_of x).height) items (x ∷ []) (elim follows [
        | inl none ↦ subst (All (λ y. (sum_of y).height ≡ (sum_of x).height)) (sym (none_if_no_rows rows sum_of items all_told (sym front.leaves ∙ none))) (All-nil (λ y. (sum_of y).height ≡ (sum_of x).height))
        | inr both ↦ All-weaker (λ y. (sum_of y).height ≡ s.height) (λ y. (sum_of y).height ≡ (sum_of x).height) (λ y e. e ∙ both.0) items front.level
      ]) (All-one (λ y. (sum_of y).height ≡ (sum_of x).height) x refl);
    }

-- where all children belong together, the next one follows
pub front-follows : {L A : Type 0} (rows : A → List (Row L)) (sum_of : A → Summary) (P : A → Type 0) (told : (x : A) → P x → ItemTold rows sum_of x) (items : List A) (x : A) (rest : List A) (s : Summary) (h : ℕ)
    → IsFront rows sum_of P items s → P x → InOrder (flat_map rows (items ++ x ∷ rest)) → All (λ y. (sum_of y).height ≡ h) (items ++ x ∷ rest) → Follows s (sum_of x)
front-follows rows sum_of P told [] x rest s h front p ordered level = inl front.leaves
front-follows {L} {A} rows sum_of P told (y ∷ items) x rest s h front p ordered level =
    let it = told x p in
    let H : A → Type 0 = λ z. (sum_of z).height ≡ h in
    let S : A → Type 0 = λ z. (sum_of z).height ≡ s.height in
    let y_told = told y (All-head P y items front.parts) in
    let here = All-head H x rest (All-back H (y ∷ items) (x ∷ rest) level) in
    let there = All-head H y (items ++ x ∷ rest) level in
    let same = All-head S y items front.level in
    let filled : flat_map rows (y ∷ items) ≢ [] =
    not_none (flat_map rows (y ∷ items)) (λ e. absurd (let long = some_long (rows y) y_told.some in omega (arith, length-append (rows y) (flat_map rows items)))) in
    let whole : flat_map rows ((y ∷ items) ++ x ∷ rest) ≡ (flat_map rows (y ∷ items) ++ rows x) ++ flat_map rows rest =
    flat_map-append rows (y ∷ items) (x ∷ rest) ∙ sym (append_assoc (flat_map rows (y ∷ items)) (rows x) (flat_map rows rest)) in
    let seam = InOrder-seam (flat_map rows (y ∷ items)) (rows x) (InOrder-front (flat_map rows (y ∷ items) ++ rows x) (flat_map rows rest) (subst InOrder whole ordered)) filled it.some in
    inr (sym same ∙ there ∙ sym here, subst (λ (a : List ℕ). IsUpTo a (sum_of x).first) (sym front.last) (subst (IsUpTo (last_coordinate (flat_map rows (y ∷ items)))) (sym it.first) seam))

-- the items gone through so far, with one more
pub joined-more : {A : Type 0} (sum_of : A → Summary) (items : List A) (x : A) → all_joined sum_of (items ++ x ∷ []) ≡ summary_joined (all_joined sum_of items) (sum_of x)
joined-more sum_of items x = ap (fold summary_joined no_summary) (map-append sum_of items (x ∷ [])) ∙ fold-append summary_joined no_summary (map sum_of items) (sum_of x ∷ [])
