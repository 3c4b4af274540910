-- Keys in ascending order, each once: they are settled by which keys there are.
use Rattle.std.proofs.Common.{◌≡◌, Bool, true, false, ◌||◌, cond, List, [], ◌∷◌, refl, ap, ◌∙◌, sym}
use Rattle.std.specs.List.{list_any, filter, fold, AllByRecursion}
use Rattle.std.specs.List.Sorted.{IsStrictlySortedBy}
use Rattle.std.specs.declared.cmp.Ordering.{Ordering}
use Rattle.std.specs.declared.cmp.Ordering.TheVariants.{Less, Equal, Greater}
use Rattle.std.specs.Ordering.{match_ordering, ordering_reverse}
use Rattle.std.specs.Cmp.{IsTotalOrder}
use Rattle.std.specs.BTreeMap.{is_at}
use Rattle.std.specs.BTreeSet.{insert_key}
use Rattle.std.proofs.lemmas.Map.Lookups.{btree_set_from_contains}
use Rattle.tumbler.proofs.OrLaws.{or_again, or_across, or_aside, or_none}

module _ {K : Type 0} (cmp : K → K → Ordering) where
  -- whether a key is one of some
  abbrev pub among : K → List K → Bool
  among q keys = list_any (is_at (cmp q)) keys

  -- all keys come after this one
  abbrev pub AreAfter : K → List K → Type 0
  AreAfter x keys = AllByRecursion (λ y. cmp x y ≡ Less) keys

  pub none_ascend : IsStrictlySortedBy cmp []
  unfolding IsStrictlySortedBy
  none_ascend = tt

  -- ---- what is left of them

  after_left : (x : K) (p : K → Bool) (keys : List K) → AreAfter x keys → AreAfter x (filter p keys)
  after_left x p [] a = tt
  after_left x p (y ∷ keys) a = by_test (p y) (after_left x p keys a.1)
    where
      by_test : (b : Bool) → AreAfter x (filter p keys) → AreAfter x (cond b (y ∷ filter p keys) (filter p keys))
      by_test true rest = (a.0, rest)
      by_test false rest = rest

  left_step : (p : K → Bool) (x : K) (keys : List K) (b : Bool) → AreAfter x (filter p keys) → IsStrictlySortedBy cmp (filter p keys) → IsStrictlySortedBy cmp (cond b (x ∷ filter p keys) (filter p keys))
  unfolding IsStrictlySortedBy
  left_step p x keys true after rest = (after, rest)
  left_step p x keys false after rest = rest

  pub left_ascend : (p : K → Bool) (keys : List K) → IsStrictlySortedBy cmp keys → IsStrictlySortedBy cmp (filter p keys)
  unfolding IsStrictlySortedBy
  left_ascend p [] s = tt
  left_ascend p (x ∷ keys) s = left_step p x keys (p x) (after_left x p keys s.0) (left_ascend p keys s.1)

  -- ---- which keys there are

  module _ (total : IsTotalOrder cmp) where
    after_less : (x y : K) (keys : List K) → cmp x y ≡ Less → AreAfter y keys → AreAfter x keys
    after_less x y [] less a = tt
    after_less x y (z ∷ keys) less a = (total.trans x y z less a.0, after_less x y keys less a.1)

    after_inserted : (x key : K) (keys : List K) → cmp x key ≡ Less → AreAfter x keys → AreAfter x (insert_key cmp keys key)
    after_inserted x key [] less a = (less, tt)
    after_inserted x key (y ∷ keys) less a = by_order (cmp key y) (after_inserted x key keys less a.1)
      where
        by_order : (r : Ordering) → AreAfter x (insert_key cmp keys key) → AreAfter x (match_ordering r (key ∷ y ∷ keys) (y ∷ keys) (y ∷ insert_key cmp keys key))
        by_order Less rest = (less, a)
        by_order Equal rest = a
        by_order Greater rest = (a.0, rest)

    inserted_step : (x key : K) (keys : List K) (r : Ordering) → cmp key x ≡ r → IsStrictlySortedBy cmp (x ∷ keys) → IsStrictlySortedBy cmp (insert_key cmp keys key)
        → IsStrictlySortedBy cmp (match_ordering r (key ∷ x ∷ keys) (x ∷ keys) (x ∷ insert_key cmp keys key))
    unfolding IsStrictlySortedBy
    inserted_step x key keys Less e s rest = ((e, after_less key x keys e s.0), s)
    inserted_step x key keys Equal e s rest = s
    inserted_step x key keys Greater e s rest = (after_inserted x key keys (total.antisymm x key ∙ ap ordering_reverse e) s.0, rest)

    pub inserted_ascend : (keys : List K) (key : K) → IsStrictlySortedBy cmp keys → IsStrictlySortedBy cmp (insert_key cmp keys key)
    unfolding IsStrictlySortedBy
    inserted_ascend [] key s = (tt, tt)
    inserted_ascend (x ∷ keys) key s = inserted_step x key keys (cmp key x) refl s (inserted_ascend keys key s.1)

    pub more_ascend : (more keys : List K) → IsStrictlySortedBy cmp keys → IsStrictlySortedBy cmp (fold (insert_key cmp) keys more)
    more_ascend [] keys s = s
    more_ascend (key ∷ more) keys s = more_ascend more (insert_key cmp keys key) (inserted_ascend keys key s)

  module _ (tied : (a b : K) → cmp a b ≡ Equal → a ≡ b) where
    -- any test of keys sees them so
    pub any_inserted : (p : K → Bool) (keys : List K) (key : K) → list_any p (insert_key cmp keys key) ≡ (p key || list_any p keys)
    any_inserted p [] key = refl
    any_inserted p (x ∷ keys) key = by_order (cmp key x) refl (any_inserted p keys key)
      where
        by_order : (r : Ordering) → cmp key x ≡ r → list_any p (insert_key cmp keys key) ≡ (p key || list_any p keys)
            → list_any p (match_ordering r (key ∷ x ∷ keys) (x ∷ keys) (x ∷ insert_key cmp keys key)) ≡ (p key || (p x || list_any p keys))
        by_order Less e rest = refl
        by_order Equal e rest = or_again (p x) (list_any p keys) ∙ ap (λ (k : K). p k || (p x || list_any p keys)) (sym (tied key x e))
        by_order Greater e rest = ap (λ (b : Bool). p x || b) rest ∙ or_across (p x) (p key) (list_any p keys)

    pub any_more : (p : K → Bool) (more keys : List K) → list_any p (fold (insert_key cmp) keys more) ≡ (list_any p keys || list_any p more)
    any_more p [] keys = or_none (list_any p keys)
    any_more p (key ∷ more) keys =
        any_more p more (insert_key cmp keys key)
        ∙ ap (λ (b : Bool). b || list_any p more) (any_inserted p keys key)
        ∙ or_aside (p key) (list_any p keys) (list_any p more)

    -- the same keys, in whatever order they come in
    pub same_keys : IsTotalOrder cmp → (some others : List K) → ((q : K) → among q some ≡ among q others) → fold (insert_key cmp) [] some ≡ fold (insert_key cmp) [] others
    same_keys total some others same =
        btree_set_from_contains total (record { keys = fold (insert_key cmp) [] some }) (record { keys = fold (insert_key cmp) [] others })
        (more_ascend total some [] none_ascend) (more_ascend total others [] none_ascend)
        (λ q. any_more (is_at (cmp q)) some [] ∙ same q ∙ sym (any_more (is_at (cmp q)) others []))
        tied
