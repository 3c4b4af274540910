-- A map's entries in order, seen as rows: a look-up is a scan, a removal a filter, and what comes in takes its place.
use Rattle.std.proofs.Common.{◌≡◌, ◌∙◌, Bool, true, false, cond, not, List, [], ◌∷◌, map, Some, Ordering, Less, Equal, Greater, refl, sym, ap}
use Rattle.std.specs.List.{filter, find, AllByRecursion}
use Rattle.std.specs.List.Sorted.{IsStrictlySortedBy}
use Rattle.std.specs.Option.{option_map}
use Rattle.std.specs.Cmp.{IsTotalOrder}
use Rattle.std.specs.Ordering.{is_eq}
use Rattle.std.specs.Map.{lookup, remove_entry, keys_of}
use Rattle.std.specs.BTreeMap.{insert_entry, is_at}
use Rattle.std.specs.BTreeSet.{insert_key}

module _ {K X R : Type 0} (row : K × X → R) where
  module _ {Y : Type 0} (value : R → Y) (shown : X → Y) (same : (e : K × X) → value (row e) ≡ shown e.1) (test : K → Bool) (p : R → Bool) (seen : (e : K × X) → p (row e) ≡ test e.0) where
    looked_up_step : (e : K × X) (es : List (K × X)) (b : Bool) → option_map value (find p (map row es)) ≡ option_map shown (lookup test es)
        → option_map value (cond b (Some (row e)) (find p (map row es))) ≡ option_map shown (cond b (Some e.1) (lookup test es))
    looked_up_step e es true rest = ap Some (same e)
    looked_up_step e es false rest = rest

    -- the first row that passes is that of the first entry whose key does
    pub looked_up : (es : List (K × X)) → option_map value (find p (map row es)) ≡ option_map shown (lookup test es)
    looked_up [] = refl
    looked_up (e ∷ es) = rw (seen e) (looked_up_step e es (test e.0) (looked_up es))

  module _ (cmp : K → K → Ordering) (o : IsTotalOrder cmp) where
    -- what comes after a key that comes after k, or is k, comes after k
    after_less : (k y : K) (ys : List K) → cmp k y ≡ Less → AllByRecursion (λ z. cmp y z ≡ Less) ys → AllByRecursion (λ z. cmp k z ≡ Less) ys
    after_less k y [] e h = tt
    after_less k y (z ∷ zs) e h = (o.trans k y z e h.0, after_less k y zs e h.1)

    after_equal : (k y : K) (ys : List K) → cmp k y ≡ Equal → AllByRecursion (λ z. cmp y z ≡ Less) ys → AllByRecursion (λ z. cmp k z ≡ Less) ys
    after_equal k y [] e h = tt
    after_equal k y (z ∷ zs) e h = (o.congr k y z e ∙ h.0, after_equal k y zs e h.1)

    module _ (k : K) (p : R → Bool) (seen : (e : K × X) → p (row e) ≡ not (is_eq (cmp k e.0))) where
      keep : (es : List (K × X)) → AllByRecursion (λ z. cmp k z ≡ Less) (keys_of es) → filter p (map row es) ≡ map row es
      keep [] h = refl
      keep (e ∷ es) h = rw (seen e, h.0) (ap (λ (rows : List R). row e ∷ rows) (keep es h.1))

      removed_step : (e : K × X) (es : List (K × X)) (r : Ordering) → cmp k e.0 ≡ r → AllByRecursion (λ z. cmp e.0 z ≡ Less) (keys_of es)
          → map row (remove_entry (is_at (cmp k)) es) ≡ filter p (map row es)
          → map row (remove_entry (is_at (cmp k)) (e ∷ es)) ≡ filter p (map row (e ∷ es))
      removed_step e es Less is h rest = rw (seen e, is) (ap (λ (rows : List R). row e ∷ rows) rest)
      removed_step e es Equal is h rest = rw (seen e, is) (sym (keep es (after_equal k e.0 (keys_of es) is h)))
      removed_step e es Greater is h rest = rw (seen e, is) (ap (λ (rows : List R). row e ∷ rows) rest)

      -- the one entry at the key goes
      pub removed : (es : List (K × X)) → IsStrictlySortedBy cmp (keys_of es) → map row (remove_entry (is_at (cmp k)) es) ≡ filter p (map row es)
      unfolding IsStrictlySortedBy
      removed [] s = refl
      removed (e ∷ es) s = removed_step e es (cmp k e.0) refl s.0 (removed es s.1)

      module _ (exact : (x y : K) → cmp x y ≡ Equal → x ≡ y) (order : R → R → Ordering) (alike : (e f : K × X) → order (row e) (row f) ≡ cmp e.0 f.0) (v : X) where
        in_front : (es : List (K × X)) → AllByRecursion (λ z. cmp k z ≡ Less) (keys_of es) → insert_key order (map row es) (row (k, v)) ≡ row (k, v) ∷ map row es
        in_front [] h = refl
        in_front (e ∷ es) h = rw (alike (k, v) e, h.0) refl

        inserted_step : (e : K × X) (es : List (K × X)) (r : Ordering) → cmp k e.0 ≡ r → AllByRecursion (λ z. cmp e.0 z ≡ Less) (keys_of es)
            → map row (insert_entry cmp es k v) ≡ insert_key order (filter p (map row es)) (row (k, v))
            → map row (insert_entry cmp (e ∷ es) k v) ≡ insert_key order (filter p (map row (e ∷ es))) (row (k, v))
        inserted_step e es Less is h rest =
            rw (seen e, is, alike (k, v) e, is, keep es (after_less k e.0 (keys_of es) is h)) refl
        inserted_step e es Equal is h rest =
            rw (seen e, is, keep es (after_equal k e.0 (keys_of es) is h), in_front es (after_equal k e.0 (keys_of es) is h), exact k e.0 is) refl
        inserted_step e es Greater is h rest =
            rw (seen e, is, alike (k, v) e, is) (ap (λ (rows : List R). row e ∷ rows) rest)

        -- the entry comes in at its place, instead of one that was at its key
        pub inserted : (es : List (K × X)) → IsStrictlySortedBy cmp (keys_of es) → map row (insert_entry cmp es k v) ≡ insert_key order (filter p (map row es)) (row (k, v))
        unfolding IsStrictlySortedBy
        inserted [] s = refl
        inserted (e ∷ es) s = inserted_step e es (cmp k e.0) refl s.0 (inserted es s.1)
