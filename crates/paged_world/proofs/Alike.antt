-- Trees that show what others do, document by document.
use Rattle.std.proofs.Common.{◌≡◌, ◌∙◌, ℕ, List, [], ◌∷◌, map, Ordering, Less, nat_cmp, refl, sym, ap, subst}
use Rattle.std.specs.Prelude.{All, IsPermutation, filter}
use Rattle.std.specs.List.{AllByRecursion}
use Rattle.std.specs.List.Sorted.{IsStrictlySortedBy}
use Rattle.std.specs.Cmp.Lexicographic.{slice_cmp}
use Rattle.std.proofs.lemmas.List.Sorted.{IsPermutation-sym, IsPermutation-trans, IsPermutation-map}
use Rattle.std.proofs.lemmas.Map.Keys.{sorted_head, sorted_tail}
use Rattle.tumbler.specs.Places.{IsBefore}
use Rattle.tumbler.proofs.Order.{before_before, never_before_itself}
use Rattle.granfilade.specs.Content.{ByteAt, content, tree_rows}
use Rattle.granfilade.specs.Puts.{IsContent}
use Rattle.doc_table.specs.DocumentRows.{documents_in, content_in, published_in}
use Rattle.links.specs.LinkLists.{ids_in}
use Rattle.tree_compare.proofs.InOrder.{same-in-order}
use Rattle.world_rules.specs.declared.rows.ByteRow.{ByteRow}
use Rattle.world_rules.specs.World.{LinkRow, is_text_of, is_link_of, content_length_of}
use Rattle.world_rules.specs.Picking.{addresses_of}
use Rattle.world_rules.specs.Edits.{new_rows}
use Rattle.world_rules.specs.FlatView.{FlatView}
use Rattle.tree_world.specs.Trees.{Trees, text_in, links_in}
use Rattle.tree_world.specs.Standing.{Stands, EndsStand, EachIdOnce, IsCovered, link_rows, byte_row}
use Rattle.tree_world.proofs.Roots.{RootsStand}
use Rattle.tree_world.proofs.FlatRows.{new_addresses, link_addresses}
use Rattle.paged_world.specs.Standing.{HaveSame}
use Rattle.paged_world.proofs.SameOrder.{Rises, rising_same}

-- The same documents, with as many bytes of content each, show the same text and the same links; the same bytes stand at the
-- same addresses; and there are the same links.
pub record AreAlike (one other : Trees) : Type 0 where
  pub documents : documents_in other.documents ≡ documents_in one.documents
  pub counts : (document : List ℕ) → content_in other.documents document ≡ content_in one.documents document
  pub texts : (document : List ℕ) → text_in other document ≡ text_in one document
  pub links : (document : List ℕ) → links_in other document ≡ links_in one document
  pub contents : content other.contents ≡ content one.contents
  pub link_table : other.links.links ≡ one.links.links

-- ---- where they are alike

module _ (before : Trees) (after : Trees) (same : AreAlike before after) where
  -- with the same marks and the same numbers beside them they stand for the same
  pub stands_alike : RootsStand after.nodes after.documents → ((document : List ℕ) → published_in after.documents document ≡ published_in before.documents document) → ((document : List ℕ) → All (IsCovered after.index document) (text_in after document)) → EndsStand after.links → after.content ≡ before.content → after.access ≡ before.access → after.counted ≡ before.counted → after.sessions ≡ before.sessions
      → (view : FlatView) → Stands before view → Stands after view
  stands_alike roots marks covered ends total access counted sessions view stand =
      let now : Trees = record after { access = before.access; counted = before.counted; sessions = before.sessions } in
      let stands : Stands now view = record {
        documents = subst (λ ds. IsPermutation ds view.world.documents) (sym same.documents) stand.documents;
        documents_once = stand.documents_once;
        roots = roots;
        texts = λ document. stand.texts document ∙ ap (new_rows document 1) (sym (same.texts document));
        links = λ document. stand.links document ∙ ap (link_rows document 1) (sym (same.links document));
        covered = covered;
        bytes = subst (λ bytes. IsPermutation (map byte_row bytes) view.world.bytes) (sym same.contents) stand.bytes;
        bytes_once = stand.bytes_once;
        total = total ∙ stand.total;
        counts = λ document. same.counts document ∙ stand.counts document;
        marks = λ document. marks document ∙ stand.marks document;
        link_table = subst (λ links. IsPermutation links view.world.links) (sym same.link_table) stand.link_table;
        ids = subst EachIdOnce (sym same.link_table) stand.ids;
        ends = ends;
        access = record {
          modes = stand.access.modes;
          accounts = stand.access.accounts;
          once = stand.access.once;
          account_once = stand.access.account_once;
          one_writer = stand.access.one_writer;
        };
        counted = stand.counted;
        entries = stand.entries;
        known = stand.known;
      } in
      subst (λ (t : Trees). Stands t view) (λ i. record after { access = sym access i; counted = sym counted i; sessions = sym sessions i }) stands

-- ---- where both stand for the same

abbrev cmp : List ℕ → List ℕ → Ordering
cmp a b = slice_cmp nat_cmp a b

abbrev LessBy : {X : Type 0} → (X → List ℕ) → X → X → Type 0
LessBy f x y = IsBefore (f x) (f y)

never_by : {X : Type 0} (f : X → List ℕ) (x y : X) → LessBy f x y → LessBy f y x → ⊥
never_by f x y less more = never_before_itself (f x) (before_before (f x) (f y) (f x) less more)

same_by : {X : Type 0} (f : X → List ℕ) (xs ys zs : List X) → IsPermutation xs zs → IsPermutation ys zs → Rises (LessBy f) (never_by f) xs → Rises (LessBy f) (never_by f) ys → ys ≡ xs
same_by f xs ys zs moved also up others = rising_same (LessBy f) (never_by f) ys xs (IsPermutation-trans ys zs xs also (IsPermutation-sym xs zs moved)) others up

behind_by : {X : Type 0} (f : X → List ℕ) (x : X) (xs : List X) → AllByRecursion (λ b. cmp (f x) b ≡ Less) (map f xs) → AllByRecursion (LessBy f x) xs
behind_by f x [] all = tt
behind_by f x (y ∷ xs) all = (all.0, behind_by f x xs all.1)

rises_by : {X : Type 0} (f : X → List ℕ) (xs : List X) → IsStrictlySortedBy cmp (map f xs) → Rises (LessBy f) (never_by f) xs
rises_by f [] sorted = tt
rises_by f (x ∷ xs) sorted = (behind_by f x xs (sorted_head cmp (f x) (map f xs) sorted), rises_by f xs (sorted_tail cmp (f x) (map f xs) sorted))

-- addresses themselves
abbrev itself : List ℕ → List ℕ
itself a = a

rise_itself : (xs : List (List ℕ)) → IsStrictlySortedBy cmp xs → Rises (LessBy itself) (never_by itself) xs
rise_itself [] sorted = tt
rise_itself (x ∷ xs) sorted = (sorted_head cmp x xs sorted, rise_itself xs (sorted_tail cmp x xs sorted))

-- bytes
abbrev byte_at : ByteRow → ByteAt
byte_at row = record { address = row.address; byte = row.byte }

rows_back : (xs : List ByteAt) → map byte_at (map byte_row xs) ≡ xs
rows_back [] = refl
rows_back (x ∷ xs) = ap (λ (ys : List ByteAt). x ∷ ys) (rows_back xs)

same_bytes : (xs ys : List ByteAt) (rows : List ByteRow) → IsPermutation (map byte_row xs) rows → IsPermutation (map byte_row ys) rows → IsPermutation xs ys
same_bytes xs ys rows moved also =
    subst (λ zs. IsPermutation zs ys) (rows_back xs) (subst (λ zs. IsPermutation (map byte_at (map byte_row xs)) zs) (rows_back ys)
    (IsPermutation-map byte_at (map byte_row xs) (map byte_row ys) (IsPermutation-trans (map byte_row xs) rows (map byte_row ys) moved (IsPermutation-sym (map byte_row ys) rows also))))

module _ (before after : Trees) (view other : FlatView) (same : HaveSame other.world view.world) (stand : Stands before view) (also : Stands after other) where
  pub alike_if : IsStrictlySortedBy cmp (documents_in before.documents) → IsStrictlySortedBy cmp (documents_in after.documents) → IsStrictlySortedBy cmp (ids_in before.links.links) → IsStrictlySortedBy cmp (ids_in after.links.links)
      → IsContent (tree_rows before.contents) → IsContent (tree_rows after.contents) → AreAlike before after
  alike_if documents others ids more contents bytes = record {
    documents = same_by itself (documents_in before.documents) (documents_in after.documents) view.world.documents stand.documents (subst (λ ds. IsPermutation (documents_in after.documents) ds) same.documents also.documents) (rise_itself (documents_in before.documents) documents) (rise_itself (documents_in after.documents) others);
    counts = λ document. also.counts document ∙ ap (λ (bs : List ByteRow). content_length_of bs document) same.bytes ∙ sym (stand.counts document);
    texts = λ document.
        sym (new_addresses document 1 (text_in after document)) ∙ ap addresses_of (sym (also.texts document) ∙ ap (filter (is_text_of document)) same.rows ∙ stand.texts document) ∙ new_addresses document 1 (text_in before document);
    links = λ document.
        sym (link_addresses document 1 (links_in after document)) ∙ ap addresses_of (sym (also.links document) ∙ ap (filter (is_link_of document)) same.rows ∙ stand.links document) ∙ link_addresses document 1 (links_in before document);
    contents = same-in-order (tree_rows after.contents) (tree_rows before.contents) bytes contents
        (same_bytes (content after.contents) (content before.contents) view.world.bytes (subst (λ (bs : List ByteRow). IsPermutation (map byte_row (content after.contents)) bs) same.bytes also.bytes) stand.bytes);
    link_table = same_by (λ (link : LinkRow). link.id) before.links.links after.links.links view.world.links stand.link_table (subst (λ (ls : List LinkRow). IsPermutation after.links.links ls) same.links also.link_table)
        (rises_by (λ (link : LinkRow). link.id) before.links.links ids) (rises_by (λ (link : LinkRow). link.id) after.links.links more);
  }
