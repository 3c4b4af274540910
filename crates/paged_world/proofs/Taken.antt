-- A world with trees that were read in the place of its own.
use Rattle.std.proofs.Common.{◌≡◌, ◌∙◌, ℕ, Bool, true, false, cond, List, [], ◌∷◌, map, Some, refl, sym, ap, subst}
use Rattle.std.specs.Prelude.{All}
use Rattle.std.specs.List.{find}
use Rattle.std.specs.Option.{option_map}
use Rattle.std.proofs.lemmas.List.Elements.{All-nil, All-cons, All-head, All-tail, All-weaker}
use Rattle.enfilade_core.specs.declared.tree.Node.{Node}
use Rattle.enfilade_core.specs.Rows.{Shape}
use Rattle.poom.specs.Laid.{IsRoot}
use Rattle.spanfilade.specs.Index.{IndexTree}
use Rattle.doc_table.specs.DocumentRows.{is_of, root_in, with_roots}
use Rattle.page_tables.specs.declared.tables.TableDocument.{TableDocument}
use Rattle.page_tables.specs.Plain.{PlainLink}
use Rattle.page_trees.specs.Trees.{PlainTrees}
use Rattle.content_checks.specs.Sound.{IsShown}
use Rattle.green_flush.specs.Sound.{AreSound, content_tree, index_tree, link_row, link_rows, CoversText}
use Rattle.world_rules.specs.World.{LinkRow, is_same}
use Rattle.world_rules.specs.FlatView.{FlatView}
use Rattle.tree_world.specs.declared.going_on.OtherTrees.{OtherTrees}
use Rattle.tree_world.specs.OtherTrees.{with_others}
use Rattle.tree_world.specs.Trees.{Trees, text_at, links_at}
use Rattle.tree_world.specs.Standing.{Stands, IsCovered}
use Rattle.tree_world.proofs.Found.{address_is}
use Rattle.tree_world.proofs.Roots.{RootsStand}
use Rattle.world_pages.specs.Pages.{table_document, table_link, pages_of_world}
use Rattle.paged_world.specs.inside.Same.{root_of_row, without_root, AreRoots, HoldSame}
use Rattle.paged_world.proofs.Alike.{AreAlike, stands_alike}
use Rattle.paged_world.proofs.Alongside.{none_is}
use Rattle.paged_world.proofs.ReadRows.{Row, document_row, rows_read, Alike, tail_alike, alike_documents, alike_counts, alike_marks, alike_rooted, shown_alike, texts_alike, links_alike}

-- the world with these trees in the place of its own, and these marks of trees; what is published stays
abbrev pub with_plain : PlainTrees → List (List ℕ) → Trees → Trees
with_plain plain due trees = record trees {
  contents = content_tree plain.granfilade plain.tables.granfilade;
  nodes = plain.poom;
  documents = rows_read trees.documents plain.tables.documents;
  index = index_tree plain.spanfilade plain.tables.spanfilade;
  links = record { links = link_rows plain.tables; from = index_tree plain.from plain.tables.from; to = index_tree plain.to plain.tables.to; three = index_tree plain.three plain.tables.three };
  due = due;
}

-- the trees hold what the world's do
abbrev pub HoldsPlain : Trees → PlainTrees → Type 0
HoldsPlain world plain = HoldSame world (content_tree plain.granfilade plain.tables.granfilade) plain.poom plain.tables

-- ---- rows there and back

pub links_back : (links : List LinkRow) → map link_row (map table_link links) ≡ links
links_back [] = refl
links_back (link ∷ links) = ap (λ (others : List LinkRow). link ∷ others) (links_back links)

links_forth : (links : List PlainLink) → map table_link (map link_row links) ≡ links
links_forth [] = refl
links_forth (link ∷ links) = ap (λ (others : List PlainLink). link ∷ others) (links_forth links)

documents_forth : (rows : List Row) (read : List TableDocument) → Alike rows read → map table_document (rows_read rows read) ≡ read
documents_forth rows [] same = refl
documents_forth [] (other ∷ read) same = absurd (none_is (without_root other) (map without_root read) same)
documents_forth (row ∷ rows) (other ∷ read) same = ap (λ (others : List TableDocument). other ∷ others) (documents_forth rows read (tail_alike row rows other read same))

-- its pages are those
pub pages_taken : (plain : PlainTrees) (due : List (List ℕ)) (world : Trees) → HoldsPlain world plain → pages_of_world (with_plain plain due world) ≡ plain
pages_taken plain due world same =
    λ i. record plain { tables = record plain.tables { documents = documents_forth world.documents plain.tables.documents same.documents i; links = links_forth plain.tables.links i } }

-- ---- what was tested of them

pub roots_read : (plain : PlainTrees) → AreSound plain → AreRoots plain.poom plain.tables.documents
roots_read plain sound =
    All-weaker (λ (row : TableDocument). IsShown plain.poom plain.tables row.root) (λ (row : TableDocument). IsRoot plain.poom row.root) (λ row shown. shown.root) plain.tables.documents sound.contents.each

roots_taken : (nodes : List (Shape ℕ)) (rows : List Row) (read : List TableDocument) → AreRoots nodes read → RootsStand nodes (rows_read rows read)
roots_taken nodes rows [] all = All-nil (λ (row : Row). IsRoot nodes row.root.0)
roots_taken nodes [] (other ∷ read) all = All-nil (λ (row : Row). IsRoot nodes row.root.0)
roots_taken nodes (row ∷ rows) (other ∷ read) all =
    All-cons (λ (r : Row). IsRoot nodes r.root.0) (document_row row.published other) (rows_read rows read) (All-head (λ (r : TableDocument). IsRoot nodes r.root) other read all) (roots_taken nodes rows read (All-tail (λ (r : TableDocument). IsRoot nodes r.root) other read all))

-- what each document shows is in the index for it
covered_taken : (index : IndexTree) (nodes : List (Shape ℕ)) (rows : List Row) (read : List TableDocument) → All (CoversText index nodes) read → (d : List ℕ) → All (IsCovered index d) (text_at nodes (root_in (rows_read rows read) d))
covered_taken index nodes rows [] all d = All-nil (IsCovered index d)
covered_taken index nodes [] (other ∷ read) all d = All-nil (IsCovered index d)
covered_taken index nodes (row ∷ rows) (other ∷ read) all d = step (is_same other.document d) refl (covered_taken index nodes rows read (All-tail (CoversText index nodes) other read all) d)
  where
    step : (b : Bool) → is_same other.document d ≡ b → All (IsCovered index d) (text_at nodes (root_in (rows_read rows read) d))
        → All (IsCovered index d) (text_at nodes (option_map (λ (r : Row). r.root) (cond b (Some (document_row row.published other)) (find (is_of d) (rows_read rows read)))))
    step true own rest = subst (λ a. All (IsCovered index a) (text_at nodes (Some (root_of_row other)))) (address_is other.document d own) (All-head (CoversText index nodes) other read all)
    step false own rest = rest

-- ---- where they hold the same

module _ (plain : PlainTrees) (world : Trees) (same : HoldsPlain world plain) where
  pub links_same : world.links.links ≡ link_rows plain.tables
  links_same = sym (links_back world.links.links) ∙ ap (map link_row) same.links

  taken_alike : (due : List (List ℕ)) → AreAlike world (with_plain plain due world)
  taken_alike due = record {
    documents = alike_documents world.documents plain.tables.documents same.documents;
    counts = alike_counts world.documents plain.tables.documents same.documents;
    texts = shown_alike world.nodes plain.poom text_at refl (texts_alike world.nodes plain.poom) world.documents plain.tables.documents same.documents same.shown;
    links = shown_alike world.nodes plain.poom links_at refl (links_alike world.nodes plain.poom) world.documents plain.tables.documents same.documents same.shown;
    contents = sym same.bytes;
    link_table = sym links_same;
  }

  -- the world stands for what it stood for
  pub taken_stands : (due : List (List ℕ)) → AreSound plain → (view : FlatView) → Stands world view → Stands (with_plain plain due world) view
  taken_stands due sound view stand =
      stands_alike world (with_plain plain due world) (taken_alike due) (roots_taken plain.poom world.documents plain.tables.documents (roots_read plain sound)) (alike_marks world.documents plain.tables.documents same.documents)
      (covered_taken (index_tree plain.spanfilade plain.tables.spanfilade) plain.poom world.documents plain.tables.documents sound.covered)
      (record { from = sound.from; to = sound.to; three = sound.three }) refl refl refl refl view stand

  -- other trees that are these
  pub gone_on : (other : OtherTrees) (due : List (List ℕ)) → other.contents ≡ content_tree plain.granfilade plain.tables.granfilade → other.pooms ≡ plain.poom → other.roots.items ≡ map root_of_row plain.tables.documents
      → other.index ≡ index_tree plain.spanfilade plain.tables.spanfilade → other.from ≡ index_tree plain.from plain.tables.from → other.to ≡ index_tree plain.to plain.tables.to → other.three ≡ index_tree plain.three plain.tables.three
      → with_others other due world ≡ with_plain plain due world
  gone_on other due contents pooms roots index from to three =
      let rows : with_roots other.roots.items world.documents ≡ rows_read world.documents plain.tables.documents =
      ap (λ (rs : List Node). with_roots rs world.documents) roots ∙ alike_rooted world.documents plain.tables.documents same.documents in
      λ i. record world {
        contents = contents i;
        nodes = pooms i;
        documents = rows i;
        index = index i;
        links = record { links = links_same i; from = from i; to = to i; three = three i };
        due = due;
      }
