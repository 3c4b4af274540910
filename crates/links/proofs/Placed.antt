-- Where an id stands among links in order, and what an edit at that place does.
use Rattle.std.proofs.Common.{◌≡◌, ◌∙◌, ℕ, ◌<◌, ◌||◌, Bool, true, false, cond, List, [], ◌∷◌, length, get_or, Option, Some, None, Ordering, Less, Equal, Greater, refl, sym, ap, nat_cmp, is_eq, true≢false, arith}
use Rattle.std.proofs.Math.Numerals.{one-add}
use Rattle.std.specs.List.{find, prefix_len, insert, remove, AllByRecursion}
use Rattle.std.specs.List.Sorted.{IsStrictlySortedBy}
use Rattle.std.specs.Cmp.Lexicographic.{slice_cmp, nat_list_cmp_total, texts_ties}
use Rattle.std.specs.Ordering.{ordering_reverse}
use Rattle.std.specs.BTreeSet.{insert_key}
use Rattle.std.specs.declared.boxed.Box.{Box}
use Rattle.world_rules.specs.World.{LinkRow}
use Rattle.links.specs.declared.row.LinkRow as kept
use Rattle.links.specs.LinkLists.{is_of, ids_in, has_in, id_cmp, removed}
use Rattle.links.specs.inside.Kept.{shown, unboxed, IsAscending, is_before}

pub or_first : (a b : Bool) → (a || b) ≡ false → a ≡ false
or_first true b e = e
or_first false b e = refl

pub or_second : (a b : Bool) → (a || b) ≡ false → b ≡ false
or_second true b e = absurd (true≢false e)
or_second false b e = e

seen : (id : List ℕ) (row : LinkRow) → is_of id row ≡ is_eq (slice_cmp nat_cmp row.id id)
seen id row = texts_ties row.id id

back : (id other : List ℕ) → slice_cmp nat_cmp id other ≡ ordering_reverse (slice_cmp nat_cmp other id)
back id other = nat_list_cmp_total.antisymm id other

-- an id comes after one that this one comes after, or is
later_less : (id other d : List ℕ) → slice_cmp nat_cmp id other ≡ Less → slice_cmp nat_cmp other d ≡ Less → slice_cmp nat_cmp d id ≡ Greater
later_less id other d is above = back d id ∙ ap ordering_reverse (nat_list_cmp_total.trans id other d is above)

later_equal : (id other d : List ℕ) → slice_cmp nat_cmp id other ≡ Equal → slice_cmp nat_cmp other d ≡ Less → slice_cmp nat_cmp d id ≡ Greater
later_equal id other d is above = back d id ∙ ap ordering_reverse (nat_list_cmp_total.congr id other d is ∙ above)

-- ---- what a look-up finds

abbrev some_there : {X : Type 0} → Option X → Bool
some_there (Some y) = true
some_there None = false

module _ (id : List ℕ) where
  has_step : (row : LinkRow) (found : Option LinkRow) (b rest : Bool) → (found ≡ Some row → rest ≡ true) → (r : LinkRow) → cond b (Some r) found ≡ Some row → (b || rest) ≡ true
  has_step row found true rest h r e = refl
  has_step row found false rest h r e = h e

  pub has_found : (rows : List LinkRow) (row : LinkRow) → find (is_of id) rows ≡ Some row → has_in rows id ≡ true
  has_found [] row is = absurd (none_some (sym is))
    where
      none_some : Some row ≡ None → ⊥
      none_some e = true≢false (ap some_there e)
  has_found (r ∷ rows) row is = has_step row (find (is_of id) rows) (is_of id r) (has_in rows id) (has_found rows row) r is

  pub lacks_found : (rows : List LinkRow) → has_in rows id ≡ false → find (is_of id) rows ≡ None
  lacks_found [] lacks = refl
  lacks_found (r ∷ rows) lacks = rw (or_first (is_of id r) (has_in rows id) lacks) (lacks_found rows (or_second (is_of id r) (has_in rows id) lacks))

module _ {A : Type 0} (id : List ℕ) where
  -- ---- what comes in

  later : (new b : Box kept.LinkRow A) → new.value.id ≡ id → (r : Ordering) → slice_cmp nat_cmp b.value.id id ≡ r → slice_cmp nat_cmp new.value.id b.value.id ≡ ordering_reverse r
  later new b own r is = ap (λ d. slice_cmp nat_cmp d b.value.id) own ∙ back id b.value.id ∙ ap ordering_reverse is

  inserted_step : (new b : Box kept.LinkRow A) (bs : List (Box kept.LinkRow A)) (r : Ordering) → new.value.id ≡ id → slice_cmp nat_cmp b.value.id id ≡ r → is_of id (shown b) ≡ false
      → unboxed (insert bs (prefix_len (is_before id) bs) new) ≡ insert_key id_cmp (unboxed bs) (shown new)
      → unboxed (insert (b ∷ bs) (prefix_len (is_before id) (b ∷ bs)) new) ≡ insert_key id_cmp (unboxed (b ∷ bs)) (shown new)
  inserted_step new b bs Less own is other rest = rw (is, later new b own Less is, one-add (prefix_len (is_before id) bs)) (ap (λ (rows : List LinkRow). (shown b) ∷ rows) rest)
  inserted_step new b bs Equal own is other rest = absurd (true≢false (sym (seen id (shown b) ∙ ap is_eq is) ∙ other))
  inserted_step new b bs Greater own is other rest = rw (is, later new b own Greater is) refl

  pub inserted : (new : Box kept.LinkRow A) (boxes : List (Box kept.LinkRow A)) → new.value.id ≡ id → has_in (unboxed boxes) id ≡ false
      → unboxed (insert boxes (prefix_len (is_before id) boxes) new) ≡ insert_key id_cmp (unboxed boxes) (shown new)
  inserted new [] own lacks = refl
  inserted new (b ∷ bs) own lacks =
      inserted_step new b bs (slice_cmp nat_cmp b.value.id id) own refl (or_first (is_of id (shown b)) (has_in (unboxed bs) id) lacks)
      (inserted new bs own (or_second (is_of id (shown b)) (has_in (unboxed bs) id) lacks))

  -- ---- what is there

  found_step : (b d : Box kept.LinkRow A) (bs : List (Box kept.LinkRow A)) (r : Ordering) → slice_cmp nat_cmp b.value.id id ≡ r
      → (prefix_len (is_before id) bs < length bs → is_of id (shown (get_or bs (prefix_len (is_before id) bs) d)) ≡ true → find (is_of id) (unboxed bs) ≡ Some (shown (get_or bs (prefix_len (is_before id) bs) d)))
      → prefix_len (is_before id) (b ∷ bs) < length (b ∷ bs) → is_of id (shown (get_or (b ∷ bs) (prefix_len (is_before id) (b ∷ bs)) d)) ≡ true
      → find (is_of id) (unboxed (b ∷ bs)) ≡ Some (shown (get_or (b ∷ bs) (prefix_len (is_before id) (b ∷ bs)) d))
  found_step b d bs Less is rest = rw (seen id (shown b), is, one-add (prefix_len (is_before id) bs)) (λ within own. rest (omega (arith, within)) own)
  found_step b d bs Equal is rest = rw (seen id (shown b), is) (λ within own. refl)
  found_step b d bs Greater is rest = rw (seen id (shown b), is) (λ within own. absurd (true≢false (sym own ∙ seen id (shown b) ∙ ap is_eq is)))

  pub found : (boxes : List (Box kept.LinkRow A)) (d : Box kept.LinkRow A) → prefix_len (is_before id) boxes < length boxes → is_of id (shown (get_or boxes (prefix_len (is_before id) boxes) d)) ≡ true
      → find (is_of id) (unboxed boxes) ≡ Some (shown (get_or boxes (prefix_len (is_before id) boxes) d))
  found [] d within own = absurd (not_below within)
    where
      not_below : 0 < 0 → ⊥
      not_below h = omega (arith, h)
  found (b ∷ bs) d within own = found_step b d bs (slice_cmp nat_cmp b.value.id id) refl (found bs d) within own

  none_after : (other : List ℕ) (bs : List (Box kept.LinkRow A)) → slice_cmp nat_cmp id other ≡ Less → AllByRecursion (λ d. slice_cmp nat_cmp other d ≡ Less) (ids_in (unboxed bs)) → has_in (unboxed bs) id ≡ false
  none_after other [] is above = refl
  none_after other (b ∷ bs) is above =
      rw (seen id (shown b), later_less id other b.value.id is above.0) (none_after other bs is above.1)

  absent_step : (b : Box kept.LinkRow A) (bs : List (Box kept.LinkRow A)) (r : Ordering) → slice_cmp nat_cmp b.value.id id ≡ r → AllByRecursion (λ d. slice_cmp nat_cmp b.value.id d ≡ Less) (ids_in (unboxed bs))
      → (((d : Box kept.LinkRow A) → prefix_len (is_before id) bs < length bs → is_of id (shown (get_or bs (prefix_len (is_before id) bs) d)) ≡ false) → has_in (unboxed bs) id ≡ false)
      → ((d : Box kept.LinkRow A) → prefix_len (is_before id) (b ∷ bs) < length (b ∷ bs) → is_of id (shown (get_or (b ∷ bs) (prefix_len (is_before id) (b ∷ bs)) d)) ≡ false)
      → has_in (unboxed (b ∷ bs)) id ≡ false
  absent_step b bs Less is above rest = rw (seen id (shown b), is, one-add (prefix_len (is_before id) bs)) (λ other. rest (λ d within. other d (omega (arith, within))))
  absent_step b bs Equal is above rest = rw (seen id (shown b), is) (λ other. absurd (true≢false (sym (seen id (shown b) ∙ ap is_eq is) ∙ other b (omega arith))))
  absent_step b bs Greater is above rest = rw (seen id (shown b), is) (λ other. none_after b.value.id bs (back id b.value.id ∙ ap ordering_reverse is) above)

  pub absent : (boxes : List (Box kept.LinkRow A)) → IsAscending (ids_in (unboxed boxes))
      → ((d : Box kept.LinkRow A) → prefix_len (is_before id) boxes < length boxes → is_of id (shown (get_or boxes (prefix_len (is_before id) boxes) d)) ≡ false) → has_in (unboxed boxes) id ≡ false
  unfolding IsStrictlySortedBy
  absent [] ascends other = refl
  absent (b ∷ bs) ascends other = absent_step b bs (slice_cmp nat_cmp b.value.id id) refl ascends.0 (absent bs ascends.1) other

  -- ---- what goes

  keep_equal : (other : List ℕ) (bs : List (Box kept.LinkRow A)) → slice_cmp nat_cmp id other ≡ Equal → AllByRecursion (λ d. slice_cmp nat_cmp other d ≡ Less) (ids_in (unboxed bs)) → removed (unboxed bs) id ≡ unboxed bs
  keep_equal other [] is above = refl
  keep_equal other (b ∷ bs) is above =
      rw (seen id (shown b), later_equal id other b.value.id is above.0) (ap (λ (rows : List LinkRow). (shown b) ∷ rows) (keep_equal other bs is above.1))

  removed_step : (b d : Box kept.LinkRow A) (bs : List (Box kept.LinkRow A)) (r : Ordering) → slice_cmp nat_cmp b.value.id id ≡ r → AllByRecursion (λ e. slice_cmp nat_cmp b.value.id e ≡ Less) (ids_in (unboxed bs))
      → (prefix_len (is_before id) bs < length bs → is_of id (shown (get_or bs (prefix_len (is_before id) bs) d)) ≡ true → unboxed (remove bs (prefix_len (is_before id) bs)) ≡ removed (unboxed bs) id)
      → prefix_len (is_before id) (b ∷ bs) < length (b ∷ bs) → is_of id (shown (get_or (b ∷ bs) (prefix_len (is_before id) (b ∷ bs)) d)) ≡ true
      → unboxed (remove (b ∷ bs) (prefix_len (is_before id) (b ∷ bs))) ≡ removed (unboxed (b ∷ bs)) id
  removed_step b d bs Less is above rest =
      rw (seen id (shown b), is, one-add (prefix_len (is_before id) bs)) (λ within own. ap (λ (rows : List LinkRow). (shown b) ∷ rows) (rest (omega (arith, within)) own))
  removed_step b d bs Equal is above rest = rw (seen id (shown b), is) (λ within own. sym (keep_equal b.value.id bs (back id b.value.id ∙ ap ordering_reverse is) above))
  removed_step b d bs Greater is above rest = rw (seen id (shown b), is) (λ within own. absurd (true≢false (sym own ∙ seen id (shown b) ∙ ap is_eq is)))

  pub taken_out : (boxes : List (Box kept.LinkRow A)) (d : Box kept.LinkRow A) → IsAscending (ids_in (unboxed boxes)) → prefix_len (is_before id) boxes < length boxes
      → is_of id (shown (get_or boxes (prefix_len (is_before id) boxes) d)) ≡ true → unboxed (remove boxes (prefix_len (is_before id) boxes)) ≡ removed (unboxed boxes) id
  unfolding IsStrictlySortedBy
  taken_out [] d ascends within own = absurd (not_below within)
    where
      not_below : 0 < 0 → ⊥
      not_below h = omega (arith, h)
  taken_out (b ∷ bs) d ascends within own = removed_step b d bs (slice_cmp nat_cmp b.value.id id) refl ascends.0 (taken_out bs d ascends.1) within own

-- where no link has the id, none goes
pub lacking_stay : (id : List ℕ) (links : List LinkRow) → has_in links id ≡ false → removed links id ≡ links
lacking_stay id [] lacks = refl
lacking_stay id (r ∷ rows) lacks = rw (or_first (is_of id r) (has_in rows id) lacks) (ap (λ (rs : List LinkRow). r ∷ rs) (lacking_stay id rows (or_second (is_of id r) (has_in rows id) lacks)))
