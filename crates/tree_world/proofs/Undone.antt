-- What an entry brought can go, and then all is as before.
use Rattle.std.proofs.Common.{◌≡◌, ◌∙◌, ℕ, ◌||◌, Bool, true, false, not, cond, List, [], ◌∷◌, map, take, length, Option, Some, None, Ordering, Less, Equal, Greater, refl, sym, ap, subst, append-nil}
use Rattle.std.specs.Prelude.{All, filter}
use Rattle.std.specs.List.{find, list_any, IsDistinct, AllByRecursion}
use Rattle.std.specs.Option.{option_map, unwrap_or}
use Rattle.std.specs.Ordering.{match_ordering}
use Rattle.std.specs.BTreeSet.{insert_key}
use Rattle.std.specs.Cmp.Lexicographic.{nat_list_eq_equiv}
use Rattle.std.proofs.lemmas.List.Elements.{All-head, All-tail}
use Rattle.std.proofs.lemmas.List.Sorted.{IsPermutation-sym}
use Rattle.std.proofs.lemmas.Map.Keys.{IsDistinct-IsPermutation}
use Rattle.enfilade_core.specs.declared.tree.TreeMark.{TreeMark}
use Rattle.enfilade_core.specs.declared.tree.Node.{Node}
use Rattle.enfilade_core.specs.Rows.{Shape}
use Rattle.enfilade_core.specs.Exchange.{Grows}
use Rattle.granfilade.specs.Content.{ContentTree}
use Rattle.spanfilade.specs.Index.{IndexTree}
use Rattle.febe_data.specs.declared.access.Mode.TheVariants.{Write}
use Rattle.doc_table.specs.declared.rows.DocumentRow.{DocumentRow}
use Rattle.doc_table.specs.DocumentRows.{is_of, documents_in, has_in, root_in, content_in, published_in, added, removed, with_root, with_content, with_mark}
use Rattle.access_table.specs.AccessRows.{AccessRows, mode_in, row_cmp, opened, closed}
use Rattle.links.specs.LinkLists as links
use Rattle.links.specs.LinkLists.{LinkLists, AllGrow}
use Rattle.links.proofs.EndsKept.{added_removed}
use Rattle.world_rules.specs.declared.rows.OpenRow.{OpenRow}
use Rattle.world_rules.specs.World.{LinkRow, is_same, opens}
use Rattle.world_rules.specs.Apply.{without_opening}
use Rattle.world_rules.specs.declared.rows.SessionRow.{SessionRow}
use Rattle.world_rules.specs.FlatView.{FlatView, with_entry}
use Rattle.febe_data.specs.Plain.{PlainChange, restarted, began, ended, account_changed, document_opened, document_closed, document_created, version_made, copy_opened, text_inserted, span_deleted, blocks_swapped, specs_copied, link_made, document_published}
use Rattle.tree_world.specs.declared.undoing.UndoRecord.{UndoRecord}
use Rattle.tree_world.specs.declared.undoing.Touched.{Touched}
use Rattle.tree_world.specs.declared.undoing.Touched.TheVariants as touched
use Rattle.tree_world.specs.Trees.{Trees, AreSound}
use Rattle.tree_world.specs.Nodes.{nodes_in, AllGrown}
use Rattle.tree_world.specs.Standing.{Stands, CountsStand, EachOnce}
use Rattle.tree_world.specs.Undone.{Tables, tables_of, MarksStay, NodesCame, DocumentCame, DocumentEdited, LinkCame, DocumentMarked, EntryCame, ChangeCame, IsRow, IsKept, IsTouched, TablesGoBack, TablesWere, TablesMayGoBack, ComesBack, MayComeBack}
use Rattle.tree_world.proofs.Options.{none_there, one_value}
use Rattle.tree_world.proofs.Found.{either_none, address_is, address_alike}
use Rattle.tree_world.proofs.Tables.{root_set, content_roots, has_some, has_added, removed_added}
use Rattle.tree_world.proofs.Roots.{taken_back}
use Rattle.tree_world.proofs.Holds.{Holds, HoldsDue, unmarked, with_due, holds_same}
use Rattle.tree_world.proofs.EntryCounted.{with_sessions, with_marks}
use Rattle.tree_world.proofs.Marked.{stay_self, due_same, due_stay}
use Rattle.tree_world.proofs.AccessChanged.{fresh, all_apart, opens_own}

-- ---- nodes

pub grown_none : {L : Type 0} (nodes : List (Shape L)) → Grows nodes nodes
grown_none nodes = record { more = []; is = sym (append-nil nodes) }

pub indexes_grown : (before after : Trees) → AllGrown (nodes_in before) (nodes_in after) → AllGrow before.links after.links
indexes_grown before after grown = record { from = grown.from; to = grown.to; three = grown.three }

-- ---- a row that came in goes

module _ {X : Type 0} (p : X → Bool) (cmp : X → X → Ordering) (y : X) (own : p y ≡ true) where
  out : List X → List X
  out xs = filter (λ x. not (p x)) xs

  stay : (xs : List X) → find p xs ≡ None → filter (λ x. not (p x)) xs ≡ xs
  stay [] none = refl
  stay (x ∷ xs) none = step (p x) none (stay xs)
    where
      step : (b : Bool) → cond b (Some x) (find p xs) ≡ None → (find p xs ≡ None → filter (λ x. not (p x)) xs ≡ xs) → cond (not b) (x ∷ filter (λ x. not (p x)) xs) (filter (λ x. not (p x)) xs) ≡ x ∷ xs
      step true h rest = absurd (none_there x h)
      step false h rest = ap (λ (zs : List X). x ∷ zs) (rest h)

  pub gone_again : (xs : List X) → find p xs ≡ None → All (λ x. cmp y x ≡ Equal → ⊥) xs → filter (λ x. not (p x)) (insert_key cmp xs y) ≡ xs
  gone_again [] none apart = rw own refl
  gone_again (x ∷ xs) none apart = step (cmp y x) refl (p x) none (gone_again xs)
    where
      step : (r : Ordering) → cmp y x ≡ r → (b : Bool) → cond b (Some x) (find p xs) ≡ None → (find p xs ≡ None → All (λ x. cmp y x ≡ Equal → ⊥) xs → filter (λ x. not (p x)) (insert_key cmp xs y) ≡ xs)
          → filter (λ x. not (p x)) (match_ordering r (y ∷ x ∷ xs) (x ∷ xs) (x ∷ insert_key cmp xs y)) ≡ x ∷ xs
      step r e true h rest = absurd (none_there x h)
      step Less e false h rest = rw own (stay (x ∷ xs) none)
      step Equal e false h rest = absurd (All-head (λ x. cmp y x ≡ Equal → ⊥) x xs apart e)
      step Greater e false h rest = sees (p x) none
        where
          sees : (b : Bool) → cond b (Some x) (find p xs) ≡ None → cond (not b) (x ∷ filter (λ x. not (p x)) (insert_key cmp xs y)) (filter (λ x. not (p x)) (insert_key cmp xs y)) ≡ x ∷ xs
          sees true h = absurd (none_there x h)
          sees false h = ap (λ (zs : List X). x ∷ zs) (rest h (All-tail (λ x. cmp y x ≡ Equal → ⊥) x xs apart))

not_found : (rows : List OpenRow) (session : ℕ) (document : List ℕ) → mode_in rows session document ≡ None → find (opens session document) rows ≡ None
not_found rows session document none = step (find (opens session document) rows) none
  where
    step : (found : Option OpenRow) → option_map (λ (r : OpenRow). r.mode) found ≡ None → found ≡ None
    step None e = refl
    step (Some r) e = absurd (none_there r.mode e)

pub closed_again : (access : AccessRows) (session : ℕ) (document : List ℕ) → mode_in access.open_rows session document ≡ None → closed (opened access session document Write) session document ≡ access
closed_again access session document unopened =
    let none = not_found access.open_rows session document unopened in
    let row = fresh session document Write in
    let same = stay (opens session document) row_cmp row (opens_own row) access.open_rows none in
    ap (λ (rows : List OpenRow). record access { open_rows = rows })
    (ap (λ (rows : List OpenRow). without_opening session document (insert_key row_cmp rows row)) same
    ∙ gone_again (opens session document) row_cmp row (opens_own row) access.open_rows none (all_apart session document Write access.open_rows none))

-- ---- a row that was changed is as before

module _ (document : List ℕ) (root made : Node) (bytes content : ℕ) where
  abbrev Row : Type 0
  Row = DocumentRow Node

  abbrev rooted : Node → Row → Row
  rooted node row = cond (is_of document row) (record row { root = node }) row

  abbrev filled : ℕ → Row → Row
  filled n row = cond (is_of document row) (record row { content = n }) row

  own_rooted : (node : Node) (row : Row) → is_of document row ≡ true → rooted node row ≡ record row { root = node }
  own_rooted node row e = ap (λ b. cond b (record row { root = node }) row) e

  own_filled : (n : ℕ) (row : Row) → is_of document row ≡ true → filled n row ≡ record row { content = n }
  own_filled n row e = ap (λ b. cond b (record row { content = n }) row) e

  row_rooted : (row : Row) → rooted root (rooted made row) ≡ rooted root row
  row_rooted row = step (is_of document row) refl
    where
      step : (b : Bool) → is_of document row ≡ b → rooted root (cond b (record row { root = made }) row) ≡ rooted root row
      step true e = own_rooted root (record row { root = made }) e ∙ sym (own_rooted root row e)
      step false e = refl

  row_filled : (row : Row) → filled content (rooted root (filled bytes (rooted made row))) ≡ filled content (rooted root row)
  row_filled row = step (is_of document row) refl
    where
      step : (b : Bool) → is_of document row ≡ b → filled content (rooted root (filled bytes (cond b (record row { root = made }) row))) ≡ filled content (rooted root row)
      step true e =
          ap (λ (r : Row). filled content (rooted root r)) (own_filled bytes (record row { root = made }) e) ∙ ap (λ (r : Row). filled content r) (own_rooted root (record row { root = made; content = bytes }) e)
          ∙ own_filled content (record row { root = root; content = bytes }) e ∙ sym (ap (λ (r : Row). filled content r) (own_rooted root row e) ∙ own_filled content (record row { root = root }) e)
      step false e = ap (λ (r : Row). filled content (rooted root r)) (ap (λ b. cond b (record row { content = bytes }) row) e)

  pub rooted_twice : (rows : List Row) → with_root (with_root rows document made) document root ≡ with_root rows document root
  rooted_twice [] = refl
  rooted_twice (row ∷ rows) = λ i. row_rooted row i ∷ rooted_twice rows i

  pub filled_twice : (rows : List Row) → with_content (with_root (with_content (with_root rows document made) document bytes) document root) document content ≡ with_content (with_root rows document root) document content
  filled_twice [] = refl
  filled_twice (row ∷ rows) = λ i. row_filled row i ∷ filled_twice rows i

module _ (document : List ℕ) (made mark : Bool) where
  abbrev marked : Bool → DocumentRow Node → DocumentRow Node
  marked m row = cond (is_of document row) (record row { published = m }) row

  own_marked : (m : Bool) (row : DocumentRow Node) → is_of document row ≡ true → marked m row ≡ record row { published = m }
  own_marked m row e = ap (λ b. cond b (record row { published = m }) row) e

  row_marked : (row : DocumentRow Node) → marked mark (marked made row) ≡ marked mark row
  row_marked row = step (is_of document row) refl
    where
      step : (b : Bool) → is_of document row ≡ b → marked mark (cond b (record row { published = made }) row) ≡ marked mark row
      step true e = own_marked mark (record row { published = made }) e ∙ sym (own_marked mark row e)
      step false e = refl

  pub marked_twice : (rows : List (DocumentRow Node)) → with_mark (with_mark rows document made) document mark ≡ with_mark rows document mark
  marked_twice [] = refl
  marked_twice (row ∷ rows) = λ i. row_marked row i ∷ marked_twice rows i

module _ (document : List ℕ) (f : DocumentRow Node → DocumentRow Node) (others : (row : DocumentRow Node) → is_of document row ≡ false → f row ≡ row) where
  others_stay : (rows : List (DocumentRow Node)) → has_in rows document ≡ false → map f rows ≡ rows
  others_stay [] none = refl
  others_stay (row ∷ rows) none =
      let parts = either_none (is_of document row) (has_in rows document) none in
      λ i. others row parts.0 i ∷ others_stay rows parts.1 i

  lacks : (rows : List (DocumentRow Node)) → list_any (is_same document) (documents_in rows) ≡ false → has_in rows document ≡ false
  lacks [] none = refl
  lacks (row ∷ rows) none =
      let parts = either_none (is_same document row.document) (list_any (is_same document) (documents_in rows)) none in
      λ i. (nat_list_eq_equiv.symm row.document document ∙ parts.0) i || lacks rows parts.1 i

  pub rows_stay : (rows : List (DocumentRow Node)) → EachOnce is_same (documents_in rows) → ((row : DocumentRow Node) → find (is_of document) rows ≡ Some row → f row ≡ row) → map f rows ≡ rows
  rows_stay [] once own = refl
  rows_stay (row ∷ rows) once own = step (is_of document row) refl (rows_stay rows once.1)
    where
      step : (b : Bool) → is_of document row ≡ b → (((r : DocumentRow Node) → find (is_of document) rows ≡ Some r → f r ≡ r) → map f rows ≡ rows) → map f (row ∷ rows) ≡ row ∷ rows
      step true e rest =
          let none = lacks rows (subst (λ a. list_any (is_same a) (documents_in rows) ≡ false) (address_is row.document document e) once.0) in
          let head = own row (ap (λ b. cond b (Some row) (find (is_of document) rows)) e) in
          λ i. head i ∷ others_stay rows none i
      step false e rest =
          let tail = rest (λ r h. own r (ap (λ b. cond b (Some row) (find (is_of document) rows)) e ∙ h)) in
          λ i. others row e i ∷ tail i

pub root_as_was : (rows : List (DocumentRow Node)) (document : List ℕ) (root : Node) → EachOnce is_same (documents_in rows) → root_in rows document ≡ Some root → with_root rows document root ≡ rows
root_as_was rows document root once is =
    rows_stay document (λ (row : DocumentRow Node). cond (is_of document row) (record row { root = root }) row) (λ row e. ap (λ b. cond b (record row { root = root }) row) e) rows once (λ row found. own row (is_of document row) (found_root row found))
  where
    found_root : (row : DocumentRow Node) → find (is_of document) rows ≡ Some row → row.root ≡ root
    found_root row found = one_value row.root root (ap (λ (found : Option (DocumentRow Node)). option_map (λ (row : DocumentRow Node). row.root) found) (sym found) ∙ is)

    own : (row : DocumentRow Node) (b : Bool) → row.root ≡ root → cond b (record row { root = root }) row ≡ row
    own row true e = ap (λ node. record row { root = node }) (sym e)
    own row false e = refl

pub content_as_was : (rows : List (DocumentRow Node)) (document : List ℕ) (content : ℕ) → EachOnce is_same (documents_in rows) → content_in rows document ≡ content → with_content rows document content ≡ rows
content_as_was rows document content once is =
    rows_stay document (λ (row : DocumentRow Node). cond (is_of document row) (record row { content = content }) row) (λ row e. ap (λ b. cond b (record row { content = content }) row) e) rows once (λ row found. own row (is_of document row) (found_content row found))
  where
    content_of : Option (DocumentRow Node) → ℕ
    content_of found = unwrap_or (option_map (λ (row : DocumentRow Node). row.content) found) 0

    found_content : (row : DocumentRow Node) → find (is_of document) rows ≡ Some row → row.content ≡ content
    found_content row found = sym (ap content_of found) ∙ is

    own : (row : DocumentRow Node) (b : Bool) → row.content ≡ content → cond b (record row { content = content }) row ≡ row
    own row true e = ap (λ n. record row { content = n }) (sym e)
    own row false e = refl

pub mark_as_was : (rows : List (DocumentRow Node)) (document : List ℕ) (mark : Bool) → EachOnce is_same (documents_in rows) → published_in rows document ≡ mark → with_mark rows document mark ≡ rows
mark_as_was rows document mark once is =
    rows_stay document (λ (row : DocumentRow Node). cond (is_of document row) (record row { published = mark }) row) (λ row e. ap (λ b. cond b (record row { published = mark }) row) e) rows once (λ row found. own row (is_of document row) (found_mark row found))
  where
    mark_of : Option (DocumentRow Node) → Bool
    mark_of found = unwrap_or (option_map (λ (row : DocumentRow Node). row.published) found) false

    found_mark : (row : DocumentRow Node) → find (is_of document) rows ≡ Some row → row.published ≡ mark
    found_mark row found = sym (ap mark_of found) ∙ is

    own : (row : DocumentRow Node) (b : Bool) → row.published ≡ mark → cond b (record row { published = mark }) row ≡ row
    own row true e = ap (λ m. record row { published = m }) (sym e)
    own row false e = refl

-- ---- each change

pub of_old : (IsChange : Tables → Tables → Type 0) (trees old after : Trees) → trees ≡ old → EntryCame IsChange trees after → EntryCame IsChange old after
of_old IsChange trees old after is came = subst (λ t. EntryCame IsChange t after) is came

pub came_in : (trees : Trees) (session : ℕ) (document : List ℕ) (root : Node) (nodes : List (Shape ℕ)) (index : IndexTree) (documents : List (DocumentRow Node)) (access : AccessRows) (counted : ℕ) (due : List (List ℕ)) → MarksStay trees.due due → Grows trees.nodes nodes → Grows trees.index.nodes index.nodes
    → has_in trees.documents document ≡ false → mode_in trees.access.open_rows session document ≡ None → documents ≡ added trees.documents document root → access ≡ opened trees.access session document Write
    → EntryCame (DocumentCame session document) trees (record trees { nodes = nodes; documents = documents; access = access; index = index; counted = counted; due = due })
came_in trees session document root nodes index documents access counted due stays grows index_grows absent unopened now opens_now = (
  record { grown = record { contents = grown_none trees.contents.nodes; documents = grows; index = index_grows; from = grown_none trees.links.from.nodes; to = grown_none trees.links.to.nodes; three = grown_none trees.links.three.nodes }; due = stays },
  record {
    there = ap (λ rows. has_in rows document) now ∙ has_added trees.documents document root absent;
    documents = ap (λ rows. removed rows document) now ∙ removed_added trees.documents document root absent;
    access = ap (λ rows. closed rows session document) opens_now ∙ closed_again trees.access session document unopened;
    links = refl;
  },
)

-- a mark leaves alone which documents there are
marked_there : (rows : List (DocumentRow Node)) (document : List ℕ) (mark : Bool) (d : List ℕ) → has_in (with_mark rows document mark) d ≡ has_in rows d
marked_there [] document mark d = refl
marked_there (row ∷ rows) document mark d = λ i. same (is_of document row) i || marked_there rows document mark d i
  where
    same : (b : Bool) → is_of d (cond b (record row { published = mark }) row) ≡ is_of d row
    same true = refl
    same false = refl

pub was_published : (trees : Trees) (document : List ℕ) (documents : List (DocumentRow Node)) (counted : ℕ) → has_in trees.documents document ≡ true → documents ≡ with_mark trees.documents document true
    → EntryCame (DocumentMarked document) trees (record trees { documents = documents; counted = counted })
was_published trees document documents counted there now = (
  record {
    grown = record { contents = grown_none trees.contents.nodes; documents = grown_none trees.nodes; index = grown_none trees.index.nodes; from = grown_none trees.links.from.nodes; to = grown_none trees.links.to.nodes; three = grown_none trees.links.three.nodes };
    due = stay_self trees.due;
  },
  record {
    there = ap (λ rows. has_in rows document) now ∙ marked_there trees.documents document true document ∙ there;
    documents = λ mark. ap (λ rows. with_mark rows document mark) now ∙ marked_twice document true mark trees.documents;
    access = refl;
    links = refl;
  },
)

module _ (trees : Trees) (document : List ℕ) (old : Node) (is_root : root_in trees.documents document ≡ Some old) (made : Node) where
  own_root : root_in (with_root trees.documents document made) document ≡ Some made
  own_root = root_set trees.documents document made old is_root document ∙ ap (λ b. cond b (Some made) (root_in trees.documents document)) (address_alike document)

  still_there : has_in (with_root trees.documents document made) document ≡ true
  still_there = has_some (with_root trees.documents document made) document made own_root

  pub was_edited : (nodes : List (Shape ℕ)) (index : IndexTree) (documents : List (DocumentRow Node)) (counted : ℕ) (due : List (List ℕ)) → MarksStay trees.due due → Grows trees.nodes nodes → Grows trees.index.nodes index.nodes → documents ≡ with_root trees.documents document made
      → EntryCame (DocumentEdited document) trees (record trees { nodes = nodes; documents = documents; index = index; counted = counted; due = due })
  was_edited nodes index documents counted due stays grows index_grows now = (
    record { grown = record { contents = grown_none trees.contents.nodes; documents = grows; index = index_grows; from = grown_none trees.links.from.nodes; to = grown_none trees.links.to.nodes; three = grown_none trees.links.three.nodes }; due = stays },
    record {
      there = ap (λ rows. has_in rows document) now ∙ still_there;
      documents = λ root content. ap (λ rows. with_content (with_root rows document root) document content) now ∙ ap (λ rows. with_content rows document content) (rooted_twice document root made 0 content trees.documents);
      access = refl;
      links = refl;
    },
  )

  pub text_came : (contents : ContentTree) (total : ℕ) (nodes : List (Shape ℕ)) (index : IndexTree) (rooted documents : List (DocumentRow Node)) (bytes counted : ℕ) (due : List (List ℕ)) → MarksStay trees.due due → Grows trees.contents.nodes contents.nodes → Grows trees.nodes nodes → Grows trees.index.nodes index.nodes
      → rooted ≡ with_root trees.documents document made → documents ≡ with_content rooted document bytes
      → EntryCame (DocumentEdited document) trees (record trees { contents = contents; content = total; nodes = nodes; documents = documents; index = index; counted = counted; due = due })
  text_came contents total nodes index rooted documents bytes counted due stays contents_grow grows index_grows set now =
      let is = now ∙ ap (λ rows. with_content rows document bytes) set in (
        record { grown = record { contents = contents_grow; documents = grows; index = index_grows; from = grown_none trees.links.from.nodes; to = grown_none trees.links.to.nodes; three = grown_none trees.links.three.nodes }; due = stays },
        record {
          there = ap (λ rows. has_in rows document) is ∙ has_some (with_content (with_root trees.documents document made) document bytes) document made (content_roots (with_root trees.documents document made) document bytes document ∙ own_root);
          documents = λ root content. ap (λ rows. with_content (with_root rows document root) document content) is ∙ filled_twice document root made bytes content trees.documents;
          access = refl;
          links = refl;
        },
      )

  pub link_came : (id : List ℕ) (link : LinkRow) (nodes : List (Shape ℕ)) (documents : List (DocumentRow Node)) (lists : LinkLists) (counted : ℕ) (due : List (List ℕ)) → MarksStay trees.due due → Grows trees.nodes nodes → AllGrow trees.links lists → documents ≡ with_root trees.documents document made
      → links.has_in trees.links.links link.id ≡ false → lists.links ≡ links.added trees.links.links link → link.id ≡ id
      → EntryCame (LinkCame document id) trees (record trees { nodes = nodes; documents = documents; links = lists; counted = counted; due = due })
  link_came id link nodes documents lists counted due stays grows links_grow now absent is address = (
    record { grown = record { contents = grown_none trees.contents.nodes; documents = grows; index = grown_none trees.index.nodes; from = links_grow.from; to = links_grow.to; three = links_grow.three }; due = stays },
    record {
      there = ap (λ rows. has_in rows document) now ∙ still_there;
      documents = λ root. ap (λ rows. with_root rows document root) now ∙ rooted_twice document root made 0 0 trees.documents;
      access = refl;
      links = (λ i. links.removed (is i) (sym address i)) ∙ added_removed trees.links.links link absent;
    },
  )

-- ---- all of it goes

pub stays_there : (rows : List (DocumentRow Node)) (document : List ℕ) (root : Node) → has_in (with_root rows document root) document ≡ has_in rows document
stays_there [] document root = refl
stays_there (row ∷ rows) document root = λ i. same (is_of document row) i || stays_there rows document root i
  where
    same : (b : Bool) → is_of document (cond b (record row { root = root }) row) ≡ is_of document row
    same true = refl
    same false = refl

pub as_row : (undo : UndoRecord) (document : List ℕ) (root : Node) (content : ℕ) (before after : Tables) → undo.touched ≡ touched.Row document root content → TablesGoBack undo.session undo.touched before after → TablesGoBack undo.session (touched.Row document root content) before after
as_row undo document root content before after is back = subst (λ t. TablesGoBack undo.session t before after) is back

pub row_back : (session : ℕ) (document : List ℕ) (root : Node) (content : ℕ) (before after : Tables) → EachOnce is_same (documents_in before.documents) → TablesGoBack session (touched.Row document root content) before after
    → with_content (with_root after.documents document root) document content ≡ before.documents
row_back session document root content before after once back =
    back.2.documents root content ∙ ap (λ rows. with_content rows document content) (root_as_was before.documents document root once back.0) ∙ content_as_was before.documents document content once back.1

pub as_home : (undo : UndoRecord) (home : List ℕ) (root : Node) (id : List ℕ) (before after : Tables) → undo.touched ≡ touched.Link home root id → TablesGoBack undo.session undo.touched before after → TablesGoBack undo.session (touched.Link home root id) before after
as_home undo home root id before after is back = subst (λ t. TablesGoBack undo.session t before after) is back

pub home_back : (session : ℕ) (home : List ℕ) (root : Node) (id : List ℕ) (before after : Tables) → EachOnce is_same (documents_in before.documents) → TablesGoBack session (touched.Link home root id) before after → with_root after.documents home root ≡ before.documents
home_back session home root id before after once back = back.1.documents root ∙ root_as_was before.documents home root once back.0

pub as_mark : (undo : UndoRecord) (document : List ℕ) (mark : Bool) (before after : Tables) → undo.touched ≡ touched.Mark document mark → TablesGoBack undo.session undo.touched before after → TablesGoBack undo.session (touched.Mark document mark) before after
as_mark undo document mark before after is back = subst (λ t. TablesGoBack undo.session t before after) is back

pub mark_back : (session : ℕ) (document : List ℕ) (mark : Bool) (before after : Tables) → EachOnce is_same (documents_in before.documents) → TablesGoBack session (touched.Mark document mark) before after → with_mark after.documents document mark ≡ before.documents
mark_back session document mark before after once back = back.1.documents mark ∙ mark_as_was before.documents document mark once back.0

-- no document stands twice in the table
once_apart : (documents : List (List ℕ)) → EachOnce is_same documents → IsDistinct is_same documents
unfolding IsDistinct
once_apart [] once = tt
once_apart (document ∷ documents) once = (none documents once.0, once_apart documents once.1)
  where
    none : (others : List (List ℕ)) → list_any (is_same document) others ≡ false → AllByRecursion (λ other. is_same document other ≡ false) others
    none [] h = tt
    none (other ∷ others) h =
        let parts = either_none (is_same document other) (list_any (is_same document) others) h in
        (parts.0, none others parts.1)

apart_once : (documents : List (List ℕ)) → IsDistinct is_same documents → EachOnce is_same documents
unfolding IsDistinct
apart_once [] apart = tt
apart_once (document ∷ documents) apart = (none documents apart.0, apart_once documents apart.1)
  where
    none : (others : List (List ℕ)) → AllByRecursion (λ other. is_same document other ≡ false) others → list_any (is_same document) others ≡ false
    none [] all = refl
    none (other ∷ others) all = λ i. all.0 i || none others all.1 i

pub each_once : (trees : Trees) (view : FlatView) → Stands trees view → EachOnce is_same (documents_in trees.documents)
each_once trees view stand =
    apart_once (documents_in trees.documents)
    (IsDistinct-IsPermutation is_same (λ x y. nat_list_eq_equiv.symm x y) view.world.documents (documents_in trees.documents) (IsPermutation-sym (documents_in trees.documents) view.world.documents stand.documents) (once_apart view.world.documents stand.documents_once))

pub tables_were : (after : Trees) (undo : UndoRecord) (view : FlatView) (back : ComesBack after undo view) → TablesWere undo (tables_of back.before) (tables_of after)
tables_were after undo view back = record { back = back.came.1; once = each_once back.before view back.stood; ends = back.stood.ends; marks = back.kept.links; grow = indexes_grown back.before after back.came.0.grown }

pub tables_may : (after : Trees) (undo : UndoRecord) → MayComeBack after undo → TablesMayGoBack undo (tables_of after)
tables_may after undo may = record { before = tables_of may.back.before; were = tables_were after undo may.view may.back }

pub contents_were : (before after new : ContentTree) (mark : TreeMark) → mark.root.0 ≡ before.root → mark.count ≡ length before.nodes → Grows before.nodes after.nodes → new.nodes ≡ take mark.count after.nodes → new.root ≡ mark.root.0 → new ≡ before
contents_were before after new mark root count grows nodes at = λ i. record { nodes = (nodes ∙ taken_back before.nodes after.nodes mark.count grows count) i; root = (at ∙ root) i }

pub sound_again : (before : Trees) (nodes : List (Shape ℕ)) (documents : List (DocumentRow Node)) (contents : ContentTree) (due : List (List ℕ)) → AreSound before → nodes ≡ before.nodes → documents ≡ before.documents → contents ≡ before.contents → MarksStay before.due due → HoldsDue nodes documents contents due
sound_again before nodes documents contents due sound e f g stays =
    with_due nodes documents contents due
    (holds_same before.nodes nodes before.documents documents contents e f (subst (λ (tree : ContentTree). Holds before.nodes before.documents tree) (sym g) (unmarked before.nodes before.documents before.contents before.due sound)))
    (due_stay nodes documents before.due due stays (due_same before.nodes nodes before.documents documents before.due before.due e f refl sound.4))

pub all_back : (before : Trees) (view : FlatView) (now : Trees) → Stands before view → now.contents ≡ before.contents → now.content ≡ before.content → now.nodes ≡ before.nodes → now.documents ≡ before.documents → now.index ≡ before.index → now.links ≡ before.links
    → now.access ≡ before.access → now.counted ≡ before.counted → CountsStand now.sessions view.sessions → Stands now view
all_back before view now stood contents content nodes documents index links access counted counts =
    subst (λ t. Stands t view)
    (λ i. record { contents = sym contents i; content = sym content i; nodes = sym nodes i; documents = sym documents i; index = sym index i; links = sym links i; access = sym access i; counted = sym counted i; sessions = now.sessions; due = now.due })
    (with_marks (record before { sessions = now.sessions }) view now.due (with_sessions before view now.sessions view.sessions stood counts))

-- ---- an entry can be taken back

module _ (session : ℕ) (it : Touched) (before after : Trees) where
  abbrev GoesBack : Touched → Type 0
  GoesBack t = EntryCame (TablesGoBack session t) before after

  by_row : (document : List ℕ) → IsRow before document it → EntryCame (DocumentEdited document) before after → GoesBack it
  by_row document row came = subst GoesBack (sym row.is) (came.0, (row.is_root, refl, came.1))

  pub goes_back : (change : PlainChange) → IsTouched before change it → ChangeCame session change before after → GoesBack it
  goes_back restarted is came = absurd is
  goes_back began is came = absurd is
  goes_back ended is came = absurd is
  goes_back (account_changed account) is came = absurd is
  goes_back (document_opened document mode) is came = absurd is
  goes_back (document_closed document) is came = absurd is
  goes_back (document_created document) is came = subst GoesBack (sym is) came
  goes_back (version_made source document) is came = subst GoesBack (sym is) came
  goes_back (copy_opened source document) is came = subst GoesBack (sym is) came
  goes_back (text_inserted document at first text) is came = by_row document is came
  goes_back (span_deleted document span) is came = by_row document is came
  goes_back (blocks_swapped document cuts) is came = by_row document is came
  goes_back (specs_copied document at specs) is came = by_row document is came
  goes_back (link_made home number place from to three) is came = subst GoesBack (sym is.is) (came.0, (is.is_root, came.1))
  goes_back (document_published document) is came = subst GoesBack (sym is) (came.0, (refl, came.1))

pub came_inside : (session : ℕ) (change : PlainChange) (before now inside : Trees) → inside ≡ now → ChangeCame session change before now → ChangeCame session change before inside
came_inside session change before now inside is came = subst (λ t. ChangeCame session change before t) (sym is) came

pub recounted : (before after : Trees) (held : List SessionRow) → NodesCame before after → NodesCame before (record after { sessions = held })
recounted before after held came = record { grown = came.grown; due = came.due }

abbrev pub comes_back : (before : Trees) (view : FlatView) (session : ℕ) (change : PlainChange) (undo : UndoRecord) (after : Trees) (held : List SessionRow) → Stands before view → AreSound before → IsKept before undo → undo.session ≡ session → IsTouched before change undo.touched
    → ChangeCame session change before after → CountsStand held (with_entry session view.sessions) → ComesBack (record after { sessions = held }) undo view
comes_back before view session change undo after held stood sound kept own is came counts =
    let back = goes_back undo.session undo.touched before after change is (subst (λ (n : ℕ). ChangeCame n change before after) (sym own) came) in
    record {
      before = before;
      stood = stood;
      sound = sound;
      kept = kept;
      came = (recounted before after held back.0, back.1);
      entries = subst (λ (n : ℕ). CountsStand held (with_entry n view.sessions)) (sym own) counts;
    }
