-- Indexes on pages hold what the world's do, and roots are there.
use Rattle.std.proofs.Common.{◌≡◌, ℕ, ◌<◌, List, [], ◌∷◌, length, map, refl, sym, ap, subst}
use Rattle.std.specs.List.{All, Contains}
use Rattle.std.proofs.lemmas.List.{get_or-map, length-map}
use Rattle.std.proofs.lemmas.List.Elements.{All-map, All-weaker, All-contains_itself, All-get_or}
use Rattle.enfilade_core.specs.declared.tree.Node.{Node}
use Rattle.poom.specs.Laid.{IsRoot, texts}
use Rattle.enfilade_core.specs.Rows.{rows_of}
use Rattle.spanfilade.specs.Index.{IndexTree}
use Rattle.doc_table.specs.declared.rows.DocumentRow.{DocumentRow}
use Rattle.doc_table.specs.DocumentRows.{documents_in, root_in}
use Rattle.links.specs.LinkLists.{LinkLists, HoldsRuns}
use Rattle.world_rules.specs.World.{LinkRow}
use Rattle.tree_world.specs.Trees.{Trees, text_at, text_in}
use Rattle.tree_world.specs.Standing.{EndsStand}
use Rattle.tree_world.specs.Standing as standing
use Rattle.page_tables.specs.declared.tables.TableDocument.{TableDocument}
use Rattle.page_trees.specs.Trees.{HaveRoots}
use Rattle.index_checks.specs.Covered.{IsCovered}
use Rattle.green_flush.specs.Sound.{index_tree, link_row, CoversText}
use Rattle.world_pages.specs.Pages.{table_document, table_link, pages_of_world}
use Rattle.world_pages.specs.Laws.{RootsAreBelow, HoldEnds}
use Rattle.world_pages.proofs.Listed.{Rise}
use Rattle.world_pages.proofs.Documents.{Rows, root_found}

-- ---- roots

rows_rooted : (trees : Trees) → All (λ (row : DocumentRow Node). IsRoot trees.nodes row.root.0) trees.documents → All (λ (row : TableDocument). row.root < length trees.nodes) (map table_document trees.documents)
rows_rooted trees roots =
    All-map (λ (row : TableDocument). row.root < length trees.nodes) table_document trees.documents
    (All-weaker (λ (row : DocumentRow Node). IsRoot trees.nodes row.root.0) (λ (row : DocumentRow Node). row.root.0 < length trees.nodes) (λ row is. is.there) trees.documents roots)

pub roots_there : (trees : Trees) → All (λ (row : DocumentRow Node). IsRoot trees.nodes row.root.0) trees.documents → RootsAreBelow trees → HaveRoots (pages_of_world trees)
roots_there trees roots below = record {
  documents = λ k row lt is. subst (λ (r : TableDocument). r.root < length trees.nodes) (sym is) (rows_rooted trees roots k row lt);
  granfilade = below.contents;
  spanfilade = below.index;
  from = below.from;
  to = below.to;
  three = below.three;
}

-- ---- ends

links_same : (links : List LinkRow) → map link_row (map table_link links) ≡ links
links_same [] = refl
links_same (link ∷ links) = ap (λ (ls : List LinkRow). link ∷ ls) (links_same links)

pub ends_held : (trees : Trees) → EndsStand trees.links → HoldEnds (pages_of_world trees)
ends_held trees stand = record {
  from = subst (λ (links : List LinkRow). HoldsRuns 1 links trees.links.from) (sym (links_same trees.links.links)) stand.from;
  to = subst (λ (links : List LinkRow). HoldsRuns 2 links trees.links.to) (sym (links_same trees.links.links)) stand.to;
  three = subst (λ (links : List LinkRow). HoldsRuns 3 links trees.links.three) (sym (links_same trees.links.links)) stand.three;
}

-- ---- what is shown

-- the text of a row's tree is that of its document
pub text_of_row : (trees : Trees) (row : DocumentRow Node) → Rise (documents_in trees.documents) → Contains trees.documents row → text_in trees row.document ≡ texts (rows_of trees.nodes row.root.0)
text_of_row trees row up c = ap (text_at trees.nodes) (root_found trees.documents row up c)

pub rows_covered : (trees : Trees) → Rise (documents_in trees.documents) → ((document : List ℕ) → All (standing.IsCovered trees.index document) (text_in trees document))
    → All (CoversText (index_tree trees.index.nodes trees.index.root.0) trees.nodes) (map table_document trees.documents)
rows_covered trees up covered =
    All-map (CoversText (index_tree trees.index.nodes trees.index.root.0) trees.nodes) table_document trees.documents
    (All-weaker (Contains trees.documents) (λ (row : DocumentRow Node). CoversText (index_tree trees.index.nodes trees.index.root.0) trees.nodes (table_document row))
    (λ row c. subst (All (standing.IsCovered trees.index row.document)) (text_of_row trees row up c) (covered row.document))
    trees.documents (All-contains_itself trees.documents))
