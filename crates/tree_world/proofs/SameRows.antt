-- Trees with the rows of others stand for what those stand for.
use Rattle.std.proofs.Common.{◌≡◌, ◌∙◌, ℕ, ◌≤◌, Bool, true, false, cond, List, [], ◌∷◌, map, Option, Some, refl, sym, ap, subst}
use Rattle.std.specs.Prelude.{All, IsPermutation, IsTrue}
use Rattle.std.specs.List.{list_any, flat_map}
use Rattle.std.proofs.lemmas.List.Elements.{All-nil, All-cons, All-head, All-tail, All-weaker}
use Rattle.tumbler.specs.Address.{IsDocument}
use Rattle.enfilade_core.specs.declared.tree.Node.{Node}
use Rattle.enfilade_core.specs.declared.tree.Row as placed
use Rattle.enfilade_core.specs.Rows.{Shape, rows_of}
use Rattle.enfilade_core.specs.Edits.{KeepsRows}
use Rattle.enfilade_core.specs.Exchange.{Grows}
use Rattle.granfilade.specs.Content.{content, tree_rows, laid_out}
use Rattle.granfilade.specs.Puts.{IsContent}
use Rattle.poom.specs.Laid as laid
use Rattle.poom.specs.Laid.{IsRoot}
use Rattle.doc_table.specs.declared.rows.DocumentRow.{DocumentRow}
use Rattle.doc_table.specs.DocumentRows.{documents_in, content_in, published_in, root_in, with_root}
use Rattle.spanfilade.specs.Index.{rows_in_index}
use Rattle.links.specs.LinkLists.{rows_at}
use Rattle.access_table.specs.AccessRows.{AccessRows, mode_in, account_in}
use Rattle.world_rules.specs.World.{is_same}
use Rattle.world_rules.specs.Edits.{new_rows}
use Rattle.world_rules.specs.FlatView.{FlatView, entries_in}
use Rattle.tree_world.specs.Trees.{Trees, text_at, links_at, text_in, IsCounted, AreCounted, AreDue, AreSound}
use Rattle.tree_world.specs.Standing.{Stands, EndsStand, EachIdOnce, link_rows, covers, IsCovered, byte_row, is_known}
use Rattle.tree_world.specs.inside.SameRows.{SameRows}
use Rattle.tree_world.proofs.Tables.{root_set, root_documents, root_contents, root_marks}
use Rattle.tree_world.proofs.Found.{address_is}
use Rattle.tree_world.proofs.Roots.{RootsStand, roots_set, text_kept, links_kept}

-- ---- what they stand for, and that they are sound

module _ (before after : Trees) (same : SameRows before after) where
  bytes_same : content after.contents ≡ content before.contents
  bytes_same = ap laid_out same.contents

  -- an index with the same rows holds the runs of the same links
  index_over : (end : ℕ) (rows now : List (placed.Row (List ℕ))) → now ≡ rows → IsPermutation (flat_map (rows_at end) before.links.links) rows → IsPermutation (flat_map (rows_at end) after.links.links) now
  index_over end rows now is holds =
      subst (λ links. IsPermutation (flat_map (rows_at end) links) now) (sym same.link_table) (subst (λ xs. IsPermutation (flat_map (rows_at end) before.links.links) xs) (sym is) holds)

  ends_over : EndsStand before.links → EndsStand after.links
  ends_over ends = record {
    from = index_over 1 (rows_in_index before.links.from) (rows_in_index after.links.from) same.from ends.from;
    to = index_over 2 (rows_in_index before.links.to) (rows_in_index after.links.to) same.to ends.to;
    three = index_over 3 (rows_in_index before.links.three) (rows_in_index after.links.three) same.three ends.three;
  }

  covered_over : (document : List ℕ) → All (IsCovered before.index document) (text_in before document) → All (IsCovered after.index document) (text_in after document)
  covered_over document covered =
      subst (λ texts. All (IsCovered after.index document) texts) (sym (same.texts document))
      (subst (λ rows. All (λ address. IsTrue (list_any (covers document address) rows)) (text_in before document)) (sym same.index) covered)

  pub stands_over : (view : FlatView) → Stands before view → Stands after view
  stands_over view stand = record {
    documents = subst (λ ds. IsPermutation ds view.world.documents) (sym same.documents) stand.documents;
    documents_once = stand.documents_once;
    roots = same.roots;
    texts = λ document. stand.texts document ∙ ap (new_rows document 1) (sym (same.texts document));
    links = λ document. stand.links document ∙ ap (link_rows document 1) (sym (same.links document));
    covered = λ document. covered_over document (stand.covered document);
    bytes = subst (λ bytes. IsPermutation (map byte_row bytes) view.world.bytes) (sym bytes_same) stand.bytes;
    bytes_once = stand.bytes_once;
    total = same.content ∙ stand.total;
    counts = λ document. same.counts document ∙ stand.counts document;
    marks = λ document. same.marks document ∙ stand.marks document;
    link_table = subst (λ links. IsPermutation links view.world.links) (sym same.link_table) stand.link_table;
    ids = subst EachIdOnce (sym same.link_table) stand.ids;
    ends = ends_over stand.ends;
    access = record {
      modes = λ session document. ap (λ (access : AccessRows). mode_in access.open_rows session document) same.access ∙ stand.access.modes session document;
      accounts = λ session. ap (λ (access : AccessRows). account_in access.accounts session) same.access ∙ stand.access.accounts session;
      once = stand.access.once;
      account_once = stand.access.account_once;
      one_writer = stand.access.one_writer;
    };
    counted = same.counted ∙ stand.counted;
    entries = λ session. ap (λ rows. entries_in rows session) same.sessions ∙ stand.entries session;
    known = λ session known. subst (λ rows. IsTrue (is_known rows session)) (sym same.sessions) (stand.known session known);
  }

  -- which documents there are is said of their addresses alone
  addresses_over : All (λ (row : DocumentRow Node). IsDocument row.document) before.documents → All (λ (row : DocumentRow Node). IsDocument row.document) after.documents
  addresses_over all = of_addresses after.documents (subst (λ ds. All IsDocument ds) (sym same.documents) (to_addresses before.documents all))
    where
      to_addresses : (rows : List (DocumentRow Node)) → All (λ (row : DocumentRow Node). IsDocument row.document) rows → All IsDocument (documents_in rows)
      to_addresses [] all = All-nil IsDocument
      to_addresses (row ∷ rows) all =
          All-cons IsDocument row.document (documents_in rows) (All-head (λ (r : DocumentRow Node). IsDocument r.document) row rows all) (to_addresses rows (All-tail (λ (r : DocumentRow Node). IsDocument r.document) row rows all))

      of_addresses : (rows : List (DocumentRow Node)) → All IsDocument (documents_in rows) → All (λ (row : DocumentRow Node). IsDocument row.document) rows
      of_addresses [] all = All-nil (λ (r : DocumentRow Node). IsDocument r.document)
      of_addresses (row ∷ rows) all =
          All-cons (λ (r : DocumentRow Node). IsDocument r.document) row rows (All-head IsDocument row.document (documents_in rows) all) (of_addresses rows (All-tail IsDocument row.document (documents_in rows) all))

  counted_over : AreCounted before.documents before.contents → AreCounted after.documents after.contents
  counted_over counted =
      subst (λ bytes. All (IsCounted after.documents) bytes) (sym bytes_same)
      (All-weaker (IsCounted before.documents) (IsCounted after.documents) (λ at h d n is. subst (λ k. n ≤ k) (sym (same.counts d)) (h d n is)) (content before.contents) counted)

  pub sound_over : AreDue after.nodes after.documents after.due → AreSound before → AreSound after
  sound_over due sound = (same.roots, addresses_over sound.1, subst IsContent (sym same.contents) sound.2, counted_over sound.3, due)

-- ---- a tree has other nodes and the same rows; the documents are as before

pub same_trees : (before after : Trees) → RootsStand before.nodes before.documents → after.nodes ≡ before.nodes → after.documents ≡ before.documents
    → tree_rows after.contents ≡ tree_rows before.contents → after.content ≡ before.content → rows_in_index after.index ≡ rows_in_index before.index → after.links.links ≡ before.links.links
    → rows_in_index after.links.from ≡ rows_in_index before.links.from → rows_in_index after.links.to ≡ rows_in_index before.links.to → rows_in_index after.links.three ≡ rows_in_index before.links.three
    → after.access ≡ before.access → after.counted ≡ before.counted → after.sessions ≡ before.sessions → SameRows before after
same_trees before after roots nodes documents contents content index link_table from to three access counted sessions = record {
  contents = contents;
  content = content;
  documents = ap documents_in documents;
  counts = λ d. ap (λ rows. content_in rows d) documents;
  marks = λ d. ap (λ rows. published_in rows d) documents;
  texts = λ d i. text_at (nodes i) (root_in (documents i) d);
  links = λ d i. links_at (nodes i) (root_in (documents i) d);
  roots = subst (λ ds. RootsStand after.nodes ds) (sym documents) (subst (λ xs. RootsStand xs before.documents) (sym nodes) roots);
  index = index;
  link_table = link_table;
  from = from;
  to = to;
  three = three;
  access = access;
  counted = counted;
  sessions = sessions;
}

-- ---- one document got another root with the same rows

module _ (before after : Trees) (roots : RootsStand before.nodes before.documents) (kept : KeepsRows before.nodes after.nodes) (grows : Grows before.nodes after.nodes) (document : List ℕ) (root made : Node) (own : root_in before.documents document ≡ Some root) (is_root : IsRoot after.nodes made.0)
    (rows : rows_of after.nodes made.0 ≡ rows_of before.nodes root.0) (now : after.documents ≡ with_root before.documents document made) where
  -- what is read off a document's rows is as it was
  read_same : (reads : List (Shape ℕ) → Option Node → List (List ℕ)) → reads after.nodes (Some made) ≡ reads before.nodes (Some root) → ((d : List ℕ) → reads after.nodes (root_in before.documents d) ≡ reads before.nodes (root_in before.documents d))
      → (d : List ℕ) → reads after.nodes (root_in after.documents d) ≡ reads before.nodes (root_in before.documents d)
  read_same reads own_same others d = ap (λ ds. reads after.nodes (root_in ds d)) now ∙ ap (reads after.nodes) (root_set before.documents document made root own d) ∙ step (is_same d document) refl
    where
      step : (b : Bool) → is_same d document ≡ b → reads after.nodes (cond b (Some made) (root_in before.documents d)) ≡ reads before.nodes (root_in before.documents d)
      step true e = own_same ∙ ap (reads before.nodes) (sym own) ∙ ap (λ a. reads before.nodes (root_in before.documents a)) (sym (address_is d document e))
      step false e = others d

  pub same_rooted : after.contents ≡ before.contents → after.content ≡ before.content → after.index ≡ before.index → after.links ≡ before.links → after.access ≡ before.access → after.counted ≡ before.counted → after.sessions ≡ before.sessions → SameRows before after
  same_rooted contents content index links access counted sessions = record {
    contents = ap tree_rows contents;
    content = content;
    documents = ap documents_in now ∙ root_documents before.documents document made;
    counts = λ d. ap (λ ds. content_in ds d) now ∙ root_contents before.documents document made d;
    marks = λ d. ap (λ ds. published_in ds d) now ∙ root_marks before.documents document made d;
    texts = read_same text_at (ap laid.texts rows) (text_kept before.nodes after.nodes kept before.documents roots);
    links = read_same links_at (ap laid.links rows) (links_kept before.nodes after.nodes kept before.documents roots);
    roots = subst (λ ds. RootsStand after.nodes ds) (sym now) (roots_set before.nodes after.nodes kept grows before.documents roots document made is_root);
    index = ap rows_in_index index;
    link_table = λ i. (links i).links;
    from = λ i. rows_in_index (links i).from;
    to = λ i. rows_in_index (links i).to;
    three = λ i. rows_in_index (links i).three;
    access = access;
    counted = counted;
    sessions = sessions;
  }
