-- What the table of documents tells after a change.
use Rattle.std.proofs.Common.{◌≡◌, ◌∙◌, ℕ, ◌||◌, Bool, true, false, cond, List, [], ◌∷◌, ◌++◌, map, Option, Some, None, Ordering, Less, Equal, Greater, refl, sym, ap, subst, true≢false}
use Rattle.std.specs.Prelude.{All, IsPermutation, not, filter}
use Rattle.std.specs.List.{find, list_any}
use Rattle.std.specs.Option.{option_map, unwrap_or}
use Rattle.std.specs.Ordering.{match_ordering}
use Rattle.std.specs.BTreeSet.{insert_key}
use Rattle.std.proofs.lemmas.Map.Lookups.{exact_bytes}
use Rattle.std.proofs.lemmas.List.Elements.{All-head, All-tail, All-cons, All-nil}
use Rattle.std.proofs.lemmas.List.Sorted.{list_any-IsPermutation, IsPermutation-refl, IsPermutation-sym, IsPermutation-cons, IsPermutation-to_front}
use Rattle.enfilade_core.specs.declared.tree.Node.{Node}
use Rattle.doc_table.specs.declared.rows.DocumentRow.{DocumentRow}
use Rattle.doc_table.specs.DocumentRows.{is_of, documents_in, has_in, root_in, content_in, published_in, row_cmp, added, removed, with_root, with_content, with_mark}
use Rattle.world_rules.specs.World.{is_same}
use Rattle.tree_world.proofs.Options.{none_there, one_value}
use Rattle.tree_world.proofs.Found.{either_none, false_when, address_is, address_alike, find_in_own, find_in_other}

abbrev root_of : Option (DocumentRow Node) → Option Node
root_of found = option_map (λ (row : DocumentRow Node). row.root) found

abbrev content_of : Option (DocumentRow Node) → ℕ
content_of found = unwrap_or (option_map (λ (row : DocumentRow Node). row.content) found) 0

abbrev mark_of : Option (DocumentRow Node) → Bool
mark_of found = unwrap_or (option_map (λ (row : DocumentRow Node). row.published) found) false

-- where none is found it is not there
has_not : (rows : List (DocumentRow Node)) (document : List ℕ) → find (is_of document) rows ≡ None → has_in rows document ≡ false
has_not [] document none = refl
has_not (row ∷ rows) document none = step (is_of document row) none (has_not rows document)
  where
    step : (b : Bool) → cond b (Some row) (find (is_of document) rows) ≡ None → (find (is_of document) rows ≡ None → has_in rows document ≡ false) → (b || has_in rows document) ≡ false
    step true h rest = absurd (none_there row h)
    step false h rest = rest h

-- ---- one row is changed

module _ (f : DocumentRow Node → DocumentRow Node) (same : (row : DocumentRow Node) → (f row).document ≡ row.document) where
  changed_found : (d : List ℕ) (rows : List (DocumentRow Node)) → find (is_of d) (map f rows) ≡ option_map f (find (is_of d) rows)
  changed_found d [] = refl
  changed_found d (row ∷ rows) = ap (λ b. cond b (Some (f row)) (find (is_of d) (map f rows))) (ap (λ a. is_same a d) (same row)) ∙ step (is_of d row) (changed_found d rows)
    where
      step : (b : Bool) → find (is_of d) (map f rows) ≡ option_map f (find (is_of d) rows) → cond b (Some (f row)) (find (is_of d) (map f rows)) ≡ option_map f (cond b (Some row) (find (is_of d) rows))
      step true rest = refl
      step false rest = rest

  same_documents : (rows : List (DocumentRow Node)) → documents_in (map f rows) ≡ documents_in rows
  same_documents [] = refl
  same_documents (row ∷ rows) = λ i. same row i ∷ same_documents rows i

-- what is found is the document's
pub found_own : (d : List ℕ) (rows : List (DocumentRow Node)) (row : DocumentRow Node) → find (is_of d) rows ≡ Some row → is_of d row ≡ true
found_own d [] row e = absurd (none_there row (sym e))
found_own d (r ∷ rows) row e = step (is_of d r) refl e (found_own d rows row)
  where
    step : (b : Bool) → is_of d r ≡ b → cond b (Some r) (find (is_of d) rows) ≡ Some row → (find (is_of d) rows ≡ Some row → is_of d row ≡ true) → is_of d row ≡ true
    step true own h rest = subst (λ x. is_of d x ≡ true) (one_value r row h) own
    step false own h rest = rest h

module _ (rows : List (DocumentRow Node)) (document : List ℕ) (root : Node) where
  abbrev rooted : DocumentRow Node → DocumentRow Node
  rooted row = cond (is_of document row) (record row { root = root }) row

  rooted_same : (row : DocumentRow Node) → (rooted row).document ≡ row.document
  rooted_same row = step (is_of document row)
    where
      step : (b : Bool) → (cond b (record row { root = root }) row).document ≡ row.document
      step true = refl
      step false = refl

  rooted_content : (row : DocumentRow Node) → (rooted row).content ≡ row.content
  rooted_content row = step (is_of document row)
    where
      step : (b : Bool) → (cond b (record row { root = root }) row).content ≡ row.content
      step true = refl
      step false = refl

  rooted_mark : (row : DocumentRow Node) → (rooted row).published ≡ row.published
  rooted_mark row = step (is_of document row)
    where
      step : (b : Bool) → (cond b (record row { root = root }) row).published ≡ row.published
      step true = refl
      step false = refl

  pub root_documents : documents_in (with_root rows document root) ≡ documents_in rows
  root_documents = same_documents rooted rooted_same rows

  pub root_contents : (d : List ℕ) → content_in (with_root rows document root) d ≡ content_in rows d
  root_contents d = ap content_of (changed_found rooted rooted_same d rows) ∙ step (find (is_of d) rows)
    where
      step : (found : Option (DocumentRow Node)) → content_of (option_map rooted found) ≡ content_of found
      step None = refl
      step (Some row) = rooted_content row

  pub root_marks : (d : List ℕ) → published_in (with_root rows document root) d ≡ published_in rows d
  root_marks d = ap mark_of (changed_found rooted rooted_same d rows) ∙ step (find (is_of d) rows)
    where
      step : (found : Option (DocumentRow Node)) → mark_of (option_map rooted found) ≡ mark_of found
      step None = refl
      step (Some row) = rooted_mark row

  -- the document gets the root, where it is there; others keep theirs
  pub root_set : (old : Node) → root_in rows document ≡ Some old → (d : List ℕ) → root_in (with_root rows document root) d ≡ cond (is_same d document) (Some root) (root_in rows d)
  root_set old there d = ap root_of (changed_found rooted rooted_same d rows) ∙ step (is_same d document) refl
    where
      own : (found : Option (DocumentRow Node)) → find (is_of document) rows ≡ found → root_of found ≡ Some old → root_of (option_map rooted found) ≡ Some root
      own None is h = absurd (none_there old (sym h))
      own (Some row) is h = ap (λ b. Some (cond b (record row { root = root }) row).root) (found_own document rows row is)

      other : is_same d document ≡ false → (found : Option (DocumentRow Node)) → find (is_of d) rows ≡ found → root_of (option_map rooted found) ≡ root_of found
      other differs None is = refl
      other differs (Some row) is =
          let at : row.document ≡ d = address_is row.document d (found_own d rows row is) in
          ap (λ b. Some (cond b (record row { root = root }) row).root) (ap (λ a. is_same a document) at ∙ differs)

      step : (b : Bool) → is_same d document ≡ b → root_of (option_map rooted (find (is_of d) rows)) ≡ cond b (Some root) (root_in rows d)
      step true e = subst (λ a. root_of (option_map rooted (find (is_of a) rows)) ≡ Some root) (sym (address_is d document e)) (own (find (is_of document) rows) refl there)
      step false e = other e (find (is_of d) rows) refl

module _ (rows : List (DocumentRow Node)) (document : List ℕ) (bytes : ℕ) where
  abbrev filled : DocumentRow Node → DocumentRow Node
  filled row = cond (is_of document row) (record row { content = bytes }) row

  filled_same : (row : DocumentRow Node) → (filled row).document ≡ row.document
  filled_same row = step (is_of document row)
    where
      step : (b : Bool) → (cond b (record row { content = bytes }) row).document ≡ row.document
      step true = refl
      step false = refl

  filled_root : (row : DocumentRow Node) → (filled row).root ≡ row.root
  filled_root row = step (is_of document row)
    where
      step : (b : Bool) → (cond b (record row { content = bytes }) row).root ≡ row.root
      step true = refl
      step false = refl

  filled_mark : (row : DocumentRow Node) → (filled row).published ≡ row.published
  filled_mark row = step (is_of document row)
    where
      step : (b : Bool) → (cond b (record row { content = bytes }) row).published ≡ row.published
      step true = refl
      step false = refl

  pub content_documents : documents_in (with_content rows document bytes) ≡ documents_in rows
  content_documents = same_documents filled filled_same rows

  pub content_roots : (d : List ℕ) → root_in (with_content rows document bytes) d ≡ root_in rows d
  content_roots d = ap root_of (changed_found filled filled_same d rows) ∙ step (find (is_of d) rows)
    where
      step : (found : Option (DocumentRow Node)) → root_of (option_map filled found) ≡ root_of found
      step None = refl
      step (Some row) = ap Some (filled_root row)

  pub content_marks : (d : List ℕ) → published_in (with_content rows document bytes) d ≡ published_in rows d
  content_marks d = ap mark_of (changed_found filled filled_same d rows) ∙ step (find (is_of d) rows)
    where
      step : (found : Option (DocumentRow Node)) → mark_of (option_map filled found) ≡ mark_of found
      step None = refl
      step (Some row) = filled_mark row

  pub content_set : (old : Node) → root_in rows document ≡ Some old → (d : List ℕ) → content_in (with_content rows document bytes) d ≡ cond (is_same d document) bytes (content_in rows d)
  content_set old there d = ap content_of (changed_found filled filled_same d rows) ∙ step (is_same d document) refl
    where
      own : (found : Option (DocumentRow Node)) → find (is_of document) rows ≡ found → root_of found ≡ Some old → content_of (option_map filled found) ≡ bytes
      own None is h = absurd (none_there old (sym h))
      own (Some row) is h = ap (λ b. (cond b (record row { content = bytes }) row).content) (found_own document rows row is)

      other : is_same d document ≡ false → (found : Option (DocumentRow Node)) → find (is_of d) rows ≡ found → content_of (option_map filled found) ≡ content_of found
      other differs None is = refl
      other differs (Some row) is =
          let at : row.document ≡ d = address_is row.document d (found_own d rows row is) in
          ap (λ b. (cond b (record row { content = bytes }) row).content) (ap (λ a. is_same a document) at ∙ differs)

      step : (b : Bool) → is_same d document ≡ b → content_of (option_map filled (find (is_of d) rows)) ≡ cond b bytes (content_in rows d)
      step true e = subst (λ a. content_of (option_map filled (find (is_of a) rows)) ≡ bytes) (sym (address_is d document e)) (own (find (is_of document) rows) refl there)
      step false e = other e (find (is_of d) rows) refl

module _ (rows : List (DocumentRow Node)) (document : List ℕ) (mark : Bool) where
  abbrev marked : DocumentRow Node → DocumentRow Node
  marked row = cond (is_of document row) (record row { published = mark }) row

  marked_same : (row : DocumentRow Node) → (marked row).document ≡ row.document
  marked_same row = step (is_of document row)
    where
      step : (b : Bool) → (cond b (record row { published = mark }) row).document ≡ row.document
      step true = refl
      step false = refl

  marked_root : (row : DocumentRow Node) → (marked row).root ≡ row.root
  marked_root row = step (is_of document row)
    where
      step : (b : Bool) → (cond b (record row { published = mark }) row).root ≡ row.root
      step true = refl
      step false = refl

  marked_content : (row : DocumentRow Node) → (marked row).content ≡ row.content
  marked_content row = step (is_of document row)
    where
      step : (b : Bool) → (cond b (record row { published = mark }) row).content ≡ row.content
      step true = refl
      step false = refl

  pub mark_documents : documents_in (with_mark rows document mark) ≡ documents_in rows
  mark_documents = same_documents marked marked_same rows

  pub mark_roots : (d : List ℕ) → root_in (with_mark rows document mark) d ≡ root_in rows d
  mark_roots d = ap root_of (changed_found marked marked_same d rows) ∙ step (find (is_of d) rows)
    where
      step : (found : Option (DocumentRow Node)) → root_of (option_map marked found) ≡ root_of found
      step None = refl
      step (Some row) = ap Some (marked_root row)

  pub mark_contents : (d : List ℕ) → content_in (with_mark rows document mark) d ≡ content_in rows d
  mark_contents d = ap content_of (changed_found marked marked_same d rows) ∙ step (find (is_of d) rows)
    where
      step : (found : Option (DocumentRow Node)) → content_of (option_map marked found) ≡ content_of found
      step None = refl
      step (Some row) = marked_content row

  -- the document gets the mark, where it is there; others keep theirs
  pub mark_set : has_in rows document ≡ true → (d : List ℕ) → published_in (with_mark rows document mark) d ≡ cond (is_same d document) mark (published_in rows d)
  mark_set there d = ap mark_of (changed_found marked marked_same d rows) ∙ step (is_same d document) refl
    where
      own : (found : Option (DocumentRow Node)) → find (is_of document) rows ≡ found → mark_of (option_map marked found) ≡ mark
      own None is = absurd (true≢false (sym there ∙ has_not rows document is))
      own (Some row) is = ap (λ b. (cond b (record row { published = mark }) row).published) (found_own document rows row is)

      other : is_same d document ≡ false → (found : Option (DocumentRow Node)) → find (is_of d) rows ≡ found → mark_of (option_map marked found) ≡ mark_of found
      other differs None is = refl
      other differs (Some row) is =
          let at : row.document ≡ d = address_is row.document d (found_own d rows row is) in
          ap (λ b. (cond b (record row { published = mark }) row).published) (ap (λ a. is_same a document) at ∙ differs)

      step : (b : Bool) → is_same d document ≡ b → mark_of (option_map marked (find (is_of d) rows)) ≡ cond b mark (published_in rows d)
      step true e = subst (λ a. mark_of (option_map marked (find (is_of a) rows)) ≡ mark) (sym (address_is d document e)) (own (find (is_of document) rows) refl)
      step false e = other e (find (is_of d) rows) refl

-- ---- one row comes in

pub has_none : (rows : List (DocumentRow Node)) (document : List ℕ) → has_in rows document ≡ false → find (is_of document) rows ≡ None
has_none [] document none = refl
has_none (row ∷ rows) document none =
    let parts = either_none (is_of document row) (has_in rows document) none in
    rw (parts.0) (has_none rows document parts.1)

pub has_some : (rows : List (DocumentRow Node)) (document : List ℕ) (root : Node) → root_in rows document ≡ Some root → has_in rows document ≡ true
has_some [] document root e = absurd (none_there root (sym e))
has_some (row ∷ rows) document root e = step (is_of document row) e (has_some rows document root)
  where
    step : (b : Bool) → root_of (cond b (Some row) (find (is_of document) rows)) ≡ Some root → (root_in rows document ≡ Some root → has_in rows document ≡ true) → (b || has_in rows document) ≡ true
    step true h rest = refl
    step false h rest = rest h

pub document_seen : (rows : List (DocumentRow Node)) (documents : List (List ℕ)) (document : List ℕ) → IsPermutation (documents_in rows) documents → has_in rows document ≡ list_any (λ d. is_same d document) documents
document_seen rows documents document moved = among rows ∙ list_any-IsPermutation (λ d. is_same d document) (documents_in rows) documents moved
  where
    among : (rs : List (DocumentRow Node)) → has_in rs document ≡ list_any (λ d. is_same d document) (documents_in rs)
    among [] = refl
    among (row ∷ rs) = ap (λ b. is_of document row || b) (among rs)

module _ (rows : List (DocumentRow Node)) (document : List ℕ) (root : Node) (none : has_in rows document ≡ false) where
  abbrev fresh : DocumentRow Node
  fresh = record { document = document; root = root; content = 0; published = false }

  abbrev Apart : DocumentRow Node → Type 0
  Apart row = row_cmp fresh row ≡ Equal → ⊥

  all_apart : (rs : List (DocumentRow Node)) → has_in rs document ≡ false → All Apart rs
  all_apart [] h = All-nil Apart
  all_apart (row ∷ rs) h =
      let parts = either_none (is_of document row) (has_in rs document) h in
      All-cons Apart row rs (λ e. true≢false (sym (subst (λ a. is_same a document ≡ true) (exact_bytes document row.document e) (address_alike document)) ∙ parts.0)) (all_apart rs parts.1)

  fresh_seen : (d : List ℕ) (b : Bool) → is_same d document ≡ b → is_of d fresh ≡ b
  fresh_seen d true e = subst (λ a. is_same document a ≡ true) (sym (address_is d document e)) (address_alike document)
  fresh_seen d false e = false_when (is_of d fresh) (λ h. true≢false (sym (subst (λ a. is_same a document ≡ true) (address_is document d h) (address_alike document)) ∙ e))

  none_alike : (d : List ℕ) → is_same d document ≡ true → find (is_of d) rows ≡ None
  none_alike d e = subst (λ a. find (is_of a) rows ≡ None) (sym (address_is d document e)) (has_none rows document none)

  pub root_added : (d : List ℕ) → root_in (added rows document root) d ≡ cond (is_same d document) (Some root) (root_in rows d)
  root_added d = step (is_same d document) refl
    where
      step : (b : Bool) → is_same d document ≡ b → root_in (added rows document root) d ≡ cond b (Some root) (root_in rows d)
      step true e = ap root_of (find_in_own (is_of d) row_cmp fresh rows (all_apart rows none) (none_alike d e) (fresh_seen d true e))
      step false e = ap root_of (find_in_other (is_of d) row_cmp fresh rows (fresh_seen d false e))

  pub content_added : (d : List ℕ) → content_in (added rows document root) d ≡ content_in rows d
  content_added d = step (is_same d document) refl
    where
      step : (b : Bool) → is_same d document ≡ b → content_in (added rows document root) d ≡ content_in rows d
      step true e = ap content_of (find_in_own (is_of d) row_cmp fresh rows (all_apart rows none) (none_alike d e) (fresh_seen d true e)) ∙ sym (ap content_of (none_alike d e))
      step false e = ap content_of (find_in_other (is_of d) row_cmp fresh rows (fresh_seen d false e))

  pub mark_added : (d : List ℕ) → published_in (added rows document root) d ≡ published_in rows d
  mark_added d = step (is_same d document) refl
    where
      step : (b : Bool) → is_same d document ≡ b → published_in (added rows document root) d ≡ published_in rows d
      step true e = ap mark_of (find_in_own (is_of d) row_cmp fresh rows (all_apart rows none) (none_alike d e) (fresh_seen d true e)) ∙ sym (ap mark_of (none_alike d e))
      step false e = ap mark_of (find_in_other (is_of d) row_cmp fresh rows (fresh_seen d false e))

  added_among : (rs : List (DocumentRow Node)) → All Apart rs → IsPermutation (documents_in (insert_key row_cmp rs fresh)) (documents_in rs ++ document ∷ [])
  added_among [] apart = IsPermutation-refl _
  added_among (row ∷ rs) apart = step (row_cmp fresh row) refl (added_among rs (All-tail Apart row rs apart))
    where
      step : (r : Ordering) → row_cmp fresh row ≡ r → IsPermutation (documents_in (insert_key row_cmp rs fresh)) (documents_in rs ++ document ∷ [])
          → IsPermutation (documents_in (match_ordering r (fresh ∷ row ∷ rs) (row ∷ rs) (row ∷ insert_key row_cmp rs fresh))) (row.document ∷ documents_in rs ++ document ∷ [])
      step Less e rest = IsPermutation-sym (row.document ∷ documents_in rs ++ document ∷ []) (document ∷ row.document ∷ documents_in rs) (IsPermutation-to_front (row.document ∷ documents_in rs) document)
      step Equal e rest = absurd (All-head Apart row rs apart e)
      step Greater e rest = IsPermutation-cons row.document (documents_in (insert_key row_cmp rs fresh)) (documents_in rs ++ document ∷ []) rest

  pub documents_added : IsPermutation (documents_in (added rows document root)) (documents_in rows ++ document ∷ [])
  documents_added = added_among rows (all_apart rows none)

  stays_all : (rs : List (DocumentRow Node)) → has_in rs document ≡ false → filter (λ (row : DocumentRow Node). not (is_of document row)) rs ≡ rs
  stays_all [] h = refl
  stays_all (row ∷ rs) h =
      let parts = either_none (is_of document row) (has_in rs document) h in
      rw (parts.0) (ap (λ (more : List (DocumentRow Node)). row ∷ more) (stays_all rs parts.1))

  removed_among : (rs : List (DocumentRow Node)) → has_in rs document ≡ false → filter (λ (row : DocumentRow Node). not (is_of document row)) (insert_key row_cmp rs fresh) ≡ rs
  removed_among [] h = rw (address_alike document) refl
  removed_among (row ∷ rs) h = step (row_cmp fresh row) refl (removed_among rs (either_none (is_of document row) (has_in rs document) h).1)
    where
      step : (r : Ordering) → row_cmp fresh row ≡ r → filter (λ (x : DocumentRow Node). not (is_of document x)) (insert_key row_cmp rs fresh) ≡ rs
          → filter (λ (x : DocumentRow Node). not (is_of document x)) (match_ordering r (fresh ∷ row ∷ rs) (row ∷ rs) (row ∷ insert_key row_cmp rs fresh)) ≡ row ∷ rs
      step Less e rest = rw (address_alike document) (stays_all (row ∷ rs) h)
      step Equal e rest = absurd (All-head Apart row rs (all_apart (row ∷ rs) h) e)
      step Greater e rest = rw ((either_none (is_of document row) (has_in rs document) h).0) (ap (λ (more : List (DocumentRow Node)). row ∷ more) rest)

  -- what came in can go
  pub removed_added : removed (added rows document root) document ≡ rows
  removed_added = removed_among rows none

  pub has_added : has_in (added rows document root) document ≡ true
  has_added = has_some (added rows document root) document root (root_added document ∙ ap (λ b. cond b (Some root) (root_in rows document)) (address_alike document))
