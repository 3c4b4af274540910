-- What the table's calls leave, over plain variables.
use Rattle.std.proofs.Common.{append_assoc, Result, Ok, ◌≡◌, ◌∙◌, ℕ, suc, ◌+◌, ◌-◌, ◌<◌, ◌≤◌, Bool, true, false, not, List, [], ◌∷◌, ◌++◌, length, get_or, Option, Some, None, refl, sym, ap, subst, nat_cmp, arith}
use Rattle.std.proofs.lemmas.Option.{slice_get-map, slice_get_read, slice_get_past}
use Rattle.std.proofs.lemmas.List.Edits.{length-insert, length-remove}
use Rattle.std.proofs.lemmas.List.Sums.{prefix_len-le-length}
use Rattle.std.specs.Prelude.{set, count_by, IfOk, IfSome, IfNone}
use Rattle.std.specs.BTreeSet.{insert_key}
use Rattle.std.specs.List.{find, prefix_len, slice_get, insert, remove}
use Rattle.std.specs.Option.{option_map, unwrap_or, is_some}
use Rattle.std.specs.Cmp.Lexicographic.{slice_cmp, nat_list_cmp_total}
use Rattle.std.specs.BTreeMap.{BTreeMap}
use Rattle.std.specs.declared.boxed.Box.{Box}
use Rattle.tumbler.proofs.InOrder.{inserted_ascend, left_ascend}
use Rattle.tumbler.proofs.RowsInOrder.{same_item}
use Rattle.world_rules.specs.World.{is_same, is_child_of}
use Rattle.world_rules.specs.Counting.{count_in, CountsAs}
use Rattle.world_rules.proofs.CountSteps.{same_is}
use Rattle.doc_table.specs.declared.rows.DocumentRow.{DocumentRow}
use Rattle.doc_table.specs.DocumentRows.{is_of, documents_in, has_in, root_in, content_in, published_in, added, removed, row_cmp, most_documents, next_document_in}
use Rattle.doc_table.specs.inside.Kept.{unboxed, IsAscending, is_before, IsAt, HoldsCounts, first_sibling}
use Rattle.doc_table.proofs.Placed.{absent, found, has_found, lacks_found, inserted, taken_out, changed, changed_there}
use Rattle.doc_table.proofs.Ordered.{long, documents_added, documents_removed, documents_changed}
use Rattle.doc_table.proofs.Counted.{counts_added, counts_removed}

-- ---- what is not there

not_is : (b : Bool) → true ≡ not b → b ≡ false
not_is true e = e
not_is false e = refl

module _ {R A : Type 0} (document : List ℕ) (boxes : List (Box (DocumentRow R) A)) (at : ℕ) where
  pub absent_past : IsAscending (documents_in (unboxed boxes)) → at ≡ prefix_len (is_before document) boxes → length boxes ≤ at → has_in (unboxed boxes) document ≡ false
  absent_past ascends is past = absent document boxes ascends (λ d within. absurd (omega (arith, is, past, within)))

  pub absent_at : (x : Box (DocumentRow R) A) → IsAscending (documents_in (unboxed boxes)) → at ≡ prefix_len (is_before document) boxes → at < length boxes → x ≡ get_or boxes at x → (row : DocumentRow R) → row ≡ x.value
      → true ≡ not (is_same row.document document) → has_in (unboxed boxes) document ≡ false
  absent_at x ascends is within item row own other =
      absent document boxes ascends (λ d there.
      let it : x ≡ get_or boxes (prefix_len (is_before document) boxes) d = item ∙ same_item boxes at x d within ∙ ap (λ k. get_or boxes k d) is in
      ap (λ (b : Box (DocumentRow R) A). is_of document b.value) (sym it) ∙ ap (is_of document) (sym own) ∙ not_is (is_same row.document document) other)

-- ---- the k-th document

pub nth_some : {R A : Type 0} (boxes : List (Box (DocumentRow R) A)) (k : ℕ) (x : Box (DocumentRow R) A) → k < length boxes → x ≡ get_or boxes k x → Some x.value.document ≡ slice_get (documents_in (unboxed boxes)) k
nth_some boxes k x within is =
    sym (slice_get-map (λ (row : DocumentRow _). row.document) (unboxed boxes) k
    ∙ ap (option_map (λ (row : DocumentRow _). row.document)) (slice_get-map (λ b. b.value) boxes k ∙ ap (option_map (λ b. b.value)) (slice_get_read boxes (length boxes) k x refl within is)))

pub nth_none : {R A : Type 0} (boxes : List (Box (DocumentRow R) A)) (k : ℕ) → length boxes ≤ k → None ≡ slice_get (documents_in (unboxed boxes)) k
nth_none boxes k past =
    sym (slice_get-map (λ (row : DocumentRow _). row.document) (unboxed boxes) k
    ∙ ap (option_map (λ (row : DocumentRow _). row.document)) (slice_get-map (λ b. b.value) boxes k ∙ ap (option_map (λ b. b.value)) (slice_get_past boxes k past)))

-- ---- look-ups

module _ {R A : Type 0} (document : List ℕ) (boxes : List (Box (DocumentRow R) A)) where
  pub find_there : (at : ℕ) (x : Box (DocumentRow R) A) → IsAt document boxes at → x ≡ get_or boxes at x → find (is_of document) (unboxed boxes) ≡ Some x.value
  find_there at x it item =
      found document boxes x (subst (λ k. k < length boxes) it.place it.within) (subst (λ k. is_of document (get_or boxes k x).value ≡ true) it.place (it.own x))
      ∙ ap (λ k. Some (get_or boxes k x).value) (sym it.place) ∙ ap (λ (b : Box (DocumentRow R) A). Some b.value) (sym item)

  module _ (shown : List (DocumentRow R)) (shows : unboxed boxes ≡ shown) where
    find_shown : (at : ℕ) (x : Box (DocumentRow R) A) → IsAt document boxes at → x ≡ get_or boxes at x → find (is_of document) shown ≡ Some x.value
    find_shown at x it item = ap (find (is_of document)) (sym shows) ∙ find_there at x it item

    lacks_shown : has_in (unboxed boxes) document ≡ false → find (is_of document) shown ≡ None
    lacks_shown lacks = ap (find (is_of document)) (sym shows) ∙ lacks_found document (unboxed boxes) lacks

    pub root_there : (at : ℕ) (x : Box (DocumentRow R) A) (row : DocumentRow R) → IsAt document boxes at → x ≡ get_or boxes at x → row ≡ x.value → Some row.root ≡ root_in shown document
    root_there at x row it item own = ap (λ (r : DocumentRow R). Some r.root) own ∙ sym (ap (option_map (λ (r : DocumentRow R). r.root)) (find_shown at x it item))

    pub root_none : has_in (unboxed boxes) document ≡ false → None ≡ root_in shown document
    root_none lacks = sym (ap (option_map (λ (r : DocumentRow R). r.root)) (lacks_shown lacks))

    pub content_there : (at : ℕ) (x : Box (DocumentRow R) A) (row : DocumentRow R) → IsAt document boxes at → x ≡ get_or boxes at x → row ≡ x.value → row.content ≡ content_in shown document
    content_there at x row it item own =
        ap (λ (r : DocumentRow R). r.content) own ∙ sym (ap (λ (o : Option (DocumentRow R)). unwrap_or (option_map (λ (r : DocumentRow R). r.content) o) 0) (find_shown at x it item))

    pub content_none : has_in (unboxed boxes) document ≡ false → 0 ≡ content_in shown document
    content_none lacks = sym (ap (λ (o : Option (DocumentRow R)). unwrap_or (option_map (λ (r : DocumentRow R). r.content) o) 0) (lacks_shown lacks))

    pub published_there : (at : ℕ) (x : Box (DocumentRow R) A) (row : DocumentRow R) → IsAt document boxes at → x ≡ get_or boxes at x → row ≡ x.value → row.published ≡ published_in shown document
    published_there at x row it item own =
        ap (λ (r : DocumentRow R). r.published) own ∙ sym (ap (λ (o : Option (DocumentRow R)). unwrap_or (option_map (λ (r : DocumentRow R). r.published) o) false) (find_shown at x it item))

    pub published_none : has_in (unboxed boxes) document ≡ false → false ≡ published_in shown document
    published_none lacks = sym (ap (λ (o : Option (DocumentRow R)). unwrap_or (option_map (λ (r : DocumentRow R). r.published) o) false) (lacks_shown lacks))

    has_step : (bs : List (Box (DocumentRow R) A)) → boxes ≡ bs → (at : ℕ) → IsAt document boxes at → has_in shown document ≡ true
    has_step [] is at it = absurd (no_item (subst (λ xs. at < length xs) is it.within))
      where
        no_item : at < 0 → ⊥
        no_item h = omega (arith, h)
    has_step (b ∷ bs) is at it =
        let x = get_or boxes at b in
        has_found document shown x.value (find_shown at x it (same_item boxes at b x it.within))

    pub has_is : (found : Option ℕ) → IfSome found (IsAt document boxes) → IfNone found (has_in (unboxed boxes) document ≡ false) → is_some found ≡ has_in shown document
    has_is (Some at) it lacks = sym (has_step boxes refl at it)
    has_is None it lacks = sym (ap (λ rows. has_in rows document) (sym shows) ∙ lacks)

-- ---- changes

-- what holds of the rows and counts that are kept
abbrev pub Holds : {R A : Type 0} → List (Box (DocumentRow R) A) → BTreeMap (List ℕ) ℕ → Type 0
Holds boxes counts = (length boxes ≤ most_documents) × IsAscending (documents_in (unboxed boxes)) × HoldsCounts (documents_in (unboxed boxes)) counts

module _ {R A : Type 0} (document : List ℕ) (boxes : List (Box (DocumentRow R) A)) (at : ℕ) where
  pub place_fits : at ≡ prefix_len (is_before document) boxes → at ≤ length boxes
  place_fits is = rw is (prefix_len-le-length (is_before document) boxes)

  module _ (new : Box (DocumentRow R) A) (is : at ≡ prefix_len (is_before document) boxes) (own : new.value.document ≡ document) (lacks : has_in (unboxed boxes) document ≡ false) where
    added_rows : unboxed (insert boxes at new) ≡ insert_key row_cmp (unboxed boxes) new.value
    added_rows = ap (λ k. unboxed (insert boxes k new)) is ∙ inserted document new boxes own lacks

    pub add_holds : (after : List (Box (DocumentRow R) A)) (first : List ℕ) (old now : BTreeMap (List ℕ) ℕ) → after ≡ insert boxes at new → length boxes < most_documents → first ≡ first_sibling document → Holds boxes old
        → CountsAs first (count_in old first + 1) old now → Holds after now
    add_holds after first old now made room key holds counted =
        let longer = length-insert boxes at new (place_fits is) in
        let documents = documents_added new.value (unboxed boxes) in
        rw made (
          omega (arith, longer, room),
          subst IsAscending (sym (ap documents_in added_rows ∙ documents)) (inserted_ascend (slice_cmp nat_cmp) nat_list_cmp_total (documents_in (unboxed boxes)) new.value.document holds.1),
          counts_added document first boxes at new old now own key holds.2 counted,
        )

  module _ (ascends : IsAscending (documents_in (unboxed boxes))) (it : IsAt document boxes at) where
    removed_rows : (d : Box (DocumentRow R) A) → unboxed (remove boxes at) ≡ removed (unboxed boxes) document
    removed_rows d =
        ap (λ k. unboxed (remove boxes k)) it.place
        ∙ taken_out document boxes d ascends (subst (λ k. k < length boxes) it.place it.within) (subst (λ k. is_of document (get_or boxes k d).value ≡ true) it.place (it.own d))

    pub remove_shows : (d : Box (DocumentRow R) A) (after : List (Box (DocumentRow R) A)) (shown : List (DocumentRow R)) → after ≡ remove boxes at → unboxed boxes ≡ shown → unboxed after ≡ removed shown document
    remove_shows d after shown made shows = ap unboxed made ∙ removed_rows d ∙ ap (λ rows. removed rows document) shows

    pub remove_holds : (d : Box (DocumentRow R) A) (after : List (Box (DocumentRow R) A)) (first : List ℕ) (old now : BTreeMap (List ℕ) ℕ) → after ≡ remove boxes at → first ≡ first_sibling document → Holds boxes old
        → CountsAs first (count_in old first - 1) old now → Holds after now
    remove_holds d after first old now made key holds counted =
        let shorter = length-remove boxes at it.within in
        rw made (
          omega (arith, shorter, holds.0),
          subst IsAscending (sym (ap documents_in (removed_rows d) ∙ documents_removed document (unboxed boxes))) (left_ascend (slice_cmp nat_cmp) (λ e. not (is_same e document)) (documents_in (unboxed boxes)) ascends),
          counts_removed document first boxes at d old now it.within (same_is _ document (it.own d)) key holds.2 counted,
        )

    module _ (f : DocumentRow R → DocumentRow R) (x new : Box (DocumentRow R) A) (item : x ≡ get_or boxes at x) (made : new.value ≡ f x.value) where
      changed_rows : unboxed (set boxes at new) ≡ changed document f (unboxed boxes)
      changed_rows =
          ap (λ k. unboxed (set boxes k new)) it.place
          ∙ changed_there document f boxes x new ascends (subst (λ k. k < length boxes) it.place it.within) (subst (λ k. is_of document (get_or boxes k x).value ≡ true) it.place (it.own x))
          (made ∙ ap (λ (b : Box (DocumentRow R) A). f b.value) item ∙ ap (λ k. f (get_or boxes k x).value) it.place)

      pub set_shows : (shown : List (DocumentRow R)) → unboxed boxes ≡ shown → unboxed (set boxes at new) ≡ changed document f shown
      set_shows shown shows = changed_rows ∙ ap (changed document f) shows

      pub set_holds : ((row : DocumentRow R) → (f row).document ≡ row.document) → (counts : BTreeMap (List ℕ) ℕ) → Holds boxes counts → Holds (set boxes at new) counts
      set_holds keeps counts holds =
          let documents : documents_in (unboxed (set boxes at new)) ≡ documents_in (unboxed boxes) = ap documents_in changed_rows ∙ documents_changed document f keeps (unboxed boxes) in
          let same = sym (long (set boxes at new)) ∙ ap length documents ∙ long boxes in
          (omega (arith, same, holds.0), subst IsAscending (sym documents) holds.1, subst (λ ds. HoldsCounts ds counts) (sym documents) holds.2)

abbrev pub fresh : {R : Type 0} → List ℕ → R → DocumentRow R
fresh document root = record { document = document; root = root; content = 0; published = false }

pub add_shows : {R A : Type 0} (document held : List ℕ) (boxes after : List (Box (DocumentRow R) A)) (at : ℕ) (new : Box (DocumentRow R) A) (shown : List (DocumentRow R)) (root : R) → at ≡ prefix_len (is_before document) boxes
    → has_in shown document ≡ false → new.value ≡ fresh held root → held ≡ document → after ≡ insert boxes at new → unboxed boxes ≡ shown → unboxed after ≡ added shown document root
add_shows document held boxes after at new shown root is lacks value own made shows =
    ap unboxed made
    ∙ added_rows document boxes at new is (ap (λ (r : DocumentRow _). r.document) value ∙ own) (ap (λ rows. has_in rows document) shows ∙ lacks)
    ∙ ap (insert_key row_cmp (unboxed boxes)) (value ∙ ap (λ d. fresh d root) own) ∙ ap (λ rows. insert_key row_cmp rows (fresh document root)) shows

unboxed_long : {R A : Type 0} (boxes : List (Box (DocumentRow R) A)) → length (unboxed boxes) ≡ length boxes
unboxed_long [] = refl
unboxed_long (b ∷ bs) = ap suc (unboxed_long bs)

pub room_below : {R A : Type 0} (boxes : List (Box (DocumentRow R) A)) (shown : List (DocumentRow R)) → unboxed boxes ≡ shown → length shown < most_documents → length boxes < most_documents
room_below boxes shown shows room = subst (λ n. n < most_documents) (sym (ap length shows) ∙ unboxed_long boxes) room

abbrev pub row_with_root : {R : Type 0} → R → DocumentRow R → DocumentRow R
row_with_root root row = record row { root = root }

abbrev pub row_with_content : {R : Type 0} → ℕ → DocumentRow R → DocumentRow R
row_with_content bytes row = record row { content = bytes }

abbrev pub row_with_mark : {R : Type 0} → Bool → DocumentRow R → DocumentRow R
row_with_mark mark row = record row { published = mark }

-- ---- next addresses

under_account : (account : List ℕ) (n : ℕ) → (account ++ 0 ∷ []) ++ n ∷ [] ≡ account ++ 0 ∷ n ∷ []
under_account account n = append_assoc account (0 ∷ []) (n ∷ [])

pub next_made : (documents : List (List ℕ)) (account first made : List ℕ) (n : ℕ) → first ≡ account ++ 0 ∷ 1 ∷ [] → ((front : List ℕ) → first ≡ front ++ 1 ∷ [] → n ≡ count_by (is_child_of front) documents + 1) → made ≡ account ++ 0 ∷ n ∷ []
    → made ≡ next_document_in documents account
next_made documents account first made n is counted made_so =
    made_so ∙ sym (under_account account n) ∙ ap (λ m. (account ++ 0 ∷ []) ++ m ∷ []) (counted (account ++ 0 ∷ []) (is ∙ sym (under_account account 1)))

pub ok_value : {E : Type 0} (r : Result (List ℕ) E) (x v : List ℕ) → r ≡ Ok x → IfOk r (λ t. t ≡ v) → x ≡ v
ok_value {E} r x v is h = subst (λ (o : Result (List ℕ) E). IfOk o (λ t. t ≡ v)) is h
