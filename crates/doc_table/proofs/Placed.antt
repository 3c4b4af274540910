-- Where a document stands among rows in order, and what an edit at that place does.
use Rattle.std.proofs.Common.{◌≡◌, ◌∙◌, ℕ, ◌<◌, ◌||◌, Bool, true, false, cond, List, [], ◌∷◌, map, length, get_or, Option, Some, None, Ordering, Less, Equal, Greater, refl, sym, ap, nat_cmp, is_eq, true≢false, arith}
use Rattle.std.proofs.Math.Numerals.{one-add}
use Rattle.std.specs.List.{find, prefix_len, insert, remove, AllByRecursion}
use Rattle.std.specs.List.Sorted.{IsStrictlySortedBy}
use Rattle.std.specs.Cmp.Lexicographic.{slice_cmp, nat_list_cmp_total, texts_ties}
use Rattle.std.specs.Ordering.{ordering_reverse}
use Rattle.std.specs.Prelude.{set}
use Rattle.std.specs.BTreeSet.{insert_key}
use Rattle.std.specs.declared.boxed.Box.{Box}
use Rattle.doc_table.specs.declared.rows.DocumentRow.{DocumentRow}
use Rattle.doc_table.specs.DocumentRows.{is_of, documents_in, has_in, row_cmp, removed}
use Rattle.doc_table.specs.inside.Kept.{unboxed, IsAscending, is_before}

or_first : (a b : Bool) → (a || b) ≡ false → a ≡ false
or_first true b e = e
or_first false b e = refl

or_second : (a b : Bool) → (a || b) ≡ false → b ≡ false
or_second true b e = absurd (true≢false e)
or_second false b e = e

seen : {R : Type 0} (document : List ℕ) (row : DocumentRow R) → is_of document row ≡ is_eq (slice_cmp nat_cmp row.document document)
seen document row = texts_ties row.document document

back : (document other : List ℕ) → slice_cmp nat_cmp document other ≡ ordering_reverse (slice_cmp nat_cmp other document)
back document other = nat_list_cmp_total.antisymm document other

-- the document comes after one that this one comes after, or is
later_less : (document other d : List ℕ) → slice_cmp nat_cmp document other ≡ Less → slice_cmp nat_cmp other d ≡ Less → slice_cmp nat_cmp d document ≡ Greater
later_less document other d is above = back d document ∙ ap ordering_reverse (nat_list_cmp_total.trans document other d is above)

later_equal : (document other d : List ℕ) → slice_cmp nat_cmp document other ≡ Equal → slice_cmp nat_cmp other d ≡ Less → slice_cmp nat_cmp d document ≡ Greater
later_equal document other d is above = back d document ∙ ap ordering_reverse (nat_list_cmp_total.congr document other d is ∙ above)

-- ---- what a look-up finds

abbrev some_there : {X : Type 0} → Option X → Bool
some_there (Some y) = true
some_there None = false

module _ {R : Type 0} (document : List ℕ) where
  has_step : (row : DocumentRow R) (found : Option (DocumentRow R)) (b rest : Bool) → (found ≡ Some row → rest ≡ true) → (r : DocumentRow R) → cond b (Some r) found ≡ Some row → (b || rest) ≡ true
  has_step row found true rest h r e = refl
  has_step row found false rest h r e = h e

  pub has_found : (rows : List (DocumentRow R)) (row : DocumentRow R) → find (is_of document) rows ≡ Some row → has_in rows document ≡ true
  has_found [] row is = absurd (none_some (sym is))
    where
      none_some : Some row ≡ None → ⊥
      none_some e = true≢false (ap some_there e)
  has_found (r ∷ rows) row is = has_step row (find (is_of document) rows) (is_of document r) (has_in rows document) (has_found rows row) r is

  pub lacks_found : (rows : List (DocumentRow R)) → has_in rows document ≡ false → find (is_of document) rows ≡ None
  lacks_found [] lacks = refl
  lacks_found (r ∷ rows) lacks = rw (or_first (is_of document r) (has_in rows document) lacks) (lacks_found rows (or_second (is_of document r) (has_in rows document) lacks))

  abbrev pub changed : (DocumentRow R → DocumentRow R) → List (DocumentRow R) → List (DocumentRow R)
  changed f rows = map (λ row. cond (is_of document row) (f row) row) rows

module _ {R A : Type 0} (document : List ℕ) where
  -- ---- what comes in

  later : (new b : Box (DocumentRow R) A) → new.value.document ≡ document → (r : Ordering) → slice_cmp nat_cmp b.value.document document ≡ r → slice_cmp nat_cmp new.value.document b.value.document ≡ ordering_reverse r
  later new b own r is = ap (λ d. slice_cmp nat_cmp d b.value.document) own ∙ back document b.value.document ∙ ap ordering_reverse is

  inserted_step : (new b : Box (DocumentRow R) A) (bs : List (Box (DocumentRow R) A)) (r : Ordering) → new.value.document ≡ document → slice_cmp nat_cmp b.value.document document ≡ r → is_of document b.value ≡ false
      → unboxed (insert bs (prefix_len (is_before document) bs) new) ≡ insert_key row_cmp (unboxed bs) new.value
      → unboxed (insert (b ∷ bs) (prefix_len (is_before document) (b ∷ bs)) new) ≡ insert_key row_cmp (unboxed (b ∷ bs)) new.value
  inserted_step new b bs Less own is other rest = rw (is, later new b own Less is, one-add (prefix_len (is_before document) bs)) (ap (λ (rows : List (DocumentRow R)). b.value ∷ rows) rest)
  inserted_step new b bs Equal own is other rest = absurd (true≢false (sym (seen document b.value ∙ ap is_eq is) ∙ other))
  inserted_step new b bs Greater own is other rest = rw (is, later new b own Greater is) refl

  pub inserted : (new : Box (DocumentRow R) A) (boxes : List (Box (DocumentRow R) A)) → new.value.document ≡ document → has_in (unboxed boxes) document ≡ false
      → unboxed (insert boxes (prefix_len (is_before document) boxes) new) ≡ insert_key row_cmp (unboxed boxes) new.value
  inserted new [] own lacks = refl
  inserted new (b ∷ bs) own lacks =
      inserted_step new b bs (slice_cmp nat_cmp b.value.document document) own refl (or_first (is_of document b.value) (has_in (unboxed bs) document) lacks)
      (inserted new bs own (or_second (is_of document b.value) (has_in (unboxed bs) document) lacks))

  -- ---- what is there

  found_step : (b d : Box (DocumentRow R) A) (bs : List (Box (DocumentRow R) A)) (r : Ordering) → slice_cmp nat_cmp b.value.document document ≡ r
      → (prefix_len (is_before document) bs < length bs → is_of document (get_or bs (prefix_len (is_before document) bs) d).value ≡ true → find (is_of document) (unboxed bs) ≡ Some (get_or bs (prefix_len (is_before document) bs) d).value)
      → prefix_len (is_before document) (b ∷ bs) < length (b ∷ bs) → is_of document (get_or (b ∷ bs) (prefix_len (is_before document) (b ∷ bs)) d).value ≡ true
      → find (is_of document) (unboxed (b ∷ bs)) ≡ Some (get_or (b ∷ bs) (prefix_len (is_before document) (b ∷ bs)) d).value
  found_step b d bs Less is rest = rw (seen document b.value, is, one-add (prefix_len (is_before document) bs)) (λ within own. rest (omega (arith, within)) own)
  found_step b d bs Equal is rest = rw (seen document b.value, is) (λ within own. refl)
  found_step b d bs Greater is rest = rw (seen document b.value, is) (λ within own. absurd (true≢false (sym own ∙ seen document b.value ∙ ap is_eq is)))

  pub found : (boxes : List (Box (DocumentRow R) A)) (d : Box (DocumentRow R) A) → prefix_len (is_before document) boxes < length boxes → is_of document (get_or boxes (prefix_len (is_before document) boxes) d).value ≡ true
      → find (is_of document) (unboxed boxes) ≡ Some (get_or boxes (prefix_len (is_before document) boxes) d).value
  found [] d within own = absurd (not_below within)
    where
      not_below : 0 < 0 → ⊥
      not_below h = omega (arith, h)
  found (b ∷ bs) d within own = found_step b d bs (slice_cmp nat_cmp b.value.document document) refl (found bs d) within own

  none_after : (other : List ℕ) (bs : List (Box (DocumentRow R) A)) → slice_cmp nat_cmp document other ≡ Less → AllByRecursion (λ d. slice_cmp nat_cmp other d ≡ Less) (documents_in (unboxed bs)) → has_in (unboxed bs) document ≡ false
  none_after other [] is above = refl
  none_after other (b ∷ bs) is above =
      rw (seen document b.value, later_less document other b.value.document is above.0) (none_after other bs is above.1)

  absent_step : (b : Box (DocumentRow R) A) (bs : List (Box (DocumentRow R) A)) (r : Ordering) → slice_cmp nat_cmp b.value.document document ≡ r → AllByRecursion (λ d. slice_cmp nat_cmp b.value.document d ≡ Less) (documents_in (unboxed bs))
      → (((d : Box (DocumentRow R) A) → prefix_len (is_before document) bs < length bs → is_of document (get_or bs (prefix_len (is_before document) bs) d).value ≡ false) → has_in (unboxed bs) document ≡ false)
      → ((d : Box (DocumentRow R) A) → prefix_len (is_before document) (b ∷ bs) < length (b ∷ bs) → is_of document (get_or (b ∷ bs) (prefix_len (is_before document) (b ∷ bs)) d).value ≡ false)
      → has_in (unboxed (b ∷ bs)) document ≡ false
  absent_step b bs Less is above rest = rw (seen document b.value, is, one-add (prefix_len (is_before document) bs)) (λ other. rest (λ d within. other d (omega (arith, within))))
  absent_step b bs Equal is above rest = rw (seen document b.value, is) (λ other. absurd (true≢false (sym (seen document b.value ∙ ap is_eq is) ∙ other b (omega arith))))
  absent_step b bs Greater is above rest = rw (seen document b.value, is) (λ other. none_after b.value.document bs (back document b.value.document ∙ ap ordering_reverse is) above)

  pub absent : (boxes : List (Box (DocumentRow R) A)) → IsAscending (documents_in (unboxed boxes))
      → ((d : Box (DocumentRow R) A) → prefix_len (is_before document) boxes < length boxes → is_of document (get_or boxes (prefix_len (is_before document) boxes) d).value ≡ false) → has_in (unboxed boxes) document ≡ false
  unfolding IsStrictlySortedBy
  absent [] ascends other = refl
  absent (b ∷ bs) ascends other = absent_step b bs (slice_cmp nat_cmp b.value.document document) refl ascends.0 (absent bs ascends.1) other

  -- ---- what goes

  keep_equal : (other : List ℕ) (bs : List (Box (DocumentRow R) A)) → slice_cmp nat_cmp document other ≡ Equal → AllByRecursion (λ d. slice_cmp nat_cmp other d ≡ Less) (documents_in (unboxed bs)) → removed (unboxed bs) document ≡ unboxed bs
  keep_equal other [] is above = refl
  keep_equal other (b ∷ bs) is above =
      rw (seen document b.value, later_equal document other b.value.document is above.0) (ap (λ (rows : List (DocumentRow R)). b.value ∷ rows) (keep_equal other bs is above.1))

  removed_step : (b d : Box (DocumentRow R) A) (bs : List (Box (DocumentRow R) A)) (r : Ordering) → slice_cmp nat_cmp b.value.document document ≡ r → AllByRecursion (λ e. slice_cmp nat_cmp b.value.document e ≡ Less) (documents_in (unboxed bs))
      → (prefix_len (is_before document) bs < length bs → is_of document (get_or bs (prefix_len (is_before document) bs) d).value ≡ true → unboxed (remove bs (prefix_len (is_before document) bs)) ≡ removed (unboxed bs) document)
      → prefix_len (is_before document) (b ∷ bs) < length (b ∷ bs) → is_of document (get_or (b ∷ bs) (prefix_len (is_before document) (b ∷ bs)) d).value ≡ true
      → unboxed (remove (b ∷ bs) (prefix_len (is_before document) (b ∷ bs))) ≡ removed (unboxed (b ∷ bs)) document
  removed_step b d bs Less is above rest =
      rw (seen document b.value, is, one-add (prefix_len (is_before document) bs)) (λ within own. ap (λ (rows : List (DocumentRow R)). b.value ∷ rows) (rest (omega (arith, within)) own))
  removed_step b d bs Equal is above rest = rw (seen document b.value, is) (λ within own. sym (keep_equal b.value.document bs (back document b.value.document ∙ ap ordering_reverse is) above))
  removed_step b d bs Greater is above rest = rw (seen document b.value, is) (λ within own. absurd (true≢false (sym own ∙ seen document b.value ∙ ap is_eq is)))

  pub taken_out : (boxes : List (Box (DocumentRow R) A)) (d : Box (DocumentRow R) A) → IsAscending (documents_in (unboxed boxes)) → prefix_len (is_before document) boxes < length boxes
      → is_of document (get_or boxes (prefix_len (is_before document) boxes) d).value ≡ true → unboxed (remove boxes (prefix_len (is_before document) boxes)) ≡ removed (unboxed boxes) document
  unfolding IsStrictlySortedBy
  taken_out [] d ascends within own = absurd (not_below within)
    where
      not_below : 0 < 0 → ⊥
      not_below h = omega (arith, h)
  taken_out (b ∷ bs) d ascends within own = removed_step b d bs (slice_cmp nat_cmp b.value.document document) refl ascends.0 (taken_out bs d ascends.1) within own

  -- ---- what changes

  module _ (f : DocumentRow R → DocumentRow R) where
    same_after : (other : List ℕ) (bs : List (Box (DocumentRow R) A)) → slice_cmp nat_cmp document other ≡ Equal → AllByRecursion (λ d. slice_cmp nat_cmp other d ≡ Less) (documents_in (unboxed bs)) → changed document f (unboxed bs) ≡ unboxed bs
    same_after other [] is above = refl
    same_after other (b ∷ bs) is above =
        rw (seen document b.value, later_equal document other b.value.document is above.0) (ap (λ (rows : List (DocumentRow R)). b.value ∷ rows) (same_after other bs is above.1))

    changed_step : (b d new : Box (DocumentRow R) A) (bs : List (Box (DocumentRow R) A)) (r : Ordering) → slice_cmp nat_cmp b.value.document document ≡ r → AllByRecursion (λ e. slice_cmp nat_cmp b.value.document e ≡ Less) (documents_in (unboxed bs))
        → (prefix_len (is_before document) bs < length bs → is_of document (get_or bs (prefix_len (is_before document) bs) d).value ≡ true → new.value ≡ f (get_or bs (prefix_len (is_before document) bs) d).value
        → unboxed (set bs (prefix_len (is_before document) bs) new) ≡ changed document f (unboxed bs))
        → prefix_len (is_before document) (b ∷ bs) < length (b ∷ bs) → is_of document (get_or (b ∷ bs) (prefix_len (is_before document) (b ∷ bs)) d).value ≡ true
        → new.value ≡ f (get_or (b ∷ bs) (prefix_len (is_before document) (b ∷ bs)) d).value
        → unboxed (set (b ∷ bs) (prefix_len (is_before document) (b ∷ bs)) new) ≡ changed document f (unboxed (b ∷ bs))
    changed_step b d new bs Less is above rest =
        rw (seen document b.value, is, one-add (prefix_len (is_before document) bs)) (λ within own made. ap (λ (rows : List (DocumentRow R)). b.value ∷ rows) (rest (omega (arith, within)) own made))
    changed_step b d new bs Equal is above rest =
        rw (seen document b.value, is) (λ within own made. rw (made, same_after b.value.document bs (back document b.value.document ∙ ap ordering_reverse is) above) refl)
    changed_step b d new bs Greater is above rest = rw (seen document b.value, is) (λ within own made. absurd (true≢false (sym own ∙ seen document b.value ∙ ap is_eq is)))

    pub changed_there : (boxes : List (Box (DocumentRow R) A)) (d new : Box (DocumentRow R) A) → IsAscending (documents_in (unboxed boxes)) → prefix_len (is_before document) boxes < length boxes
        → is_of document (get_or boxes (prefix_len (is_before document) boxes) d).value ≡ true → new.value ≡ f (get_or boxes (prefix_len (is_before document) boxes) d).value
        → unboxed (set boxes (prefix_len (is_before document) boxes) new) ≡ changed document f (unboxed boxes)
    unfolding IsStrictlySortedBy
    changed_there [] d new ascends within own made = absurd (not_below within)
      where
        not_below : 0 < 0 → ⊥
        not_below h = omega (arith, h)
    changed_there (b ∷ bs) d new ascends within own made = changed_step b d new bs (slice_cmp nat_cmp b.value.document document) refl ascends.0 (changed_there bs d new ascends.1) within own made
