-- Trees of a world that may be saved.
use Rattle.std.proofs.Common.{◌≡◌, ◌∙◌, ℕ, ◌<◌, List, Option, Some, None, refl, ap, subst, inl, inr, length, arith}
use Rattle.std.specs.Prelude.{◌⊎◌, All}
use Rattle.std.specs.Ordering.{nat_cmp}
use Rattle.std.specs.Cmp.Lexicographic.{slice_cmp}
use Rattle.std.specs.List.Sorted.{IsStrictlySortedBy}
use Rattle.enfilade_core.specs.declared.tree.Node.{Node}
use Rattle.enfilade_core.specs.declared.tree.TreeMark.{TreeMark}
use Rattle.doc_table.specs.declared.rows.DocumentRow.{DocumentRow}
use Rattle.doc_table.specs.DocumentRows.{documents_in}
use Rattle.spanfilade.specs.Index.{IndexTree, mark_of}
use Rattle.links.specs.LinkLists.{LinkLists, IsLink, ids_in, index_at, marks_of}
use Rattle.links.specs.declared.row.LinkMarks.{LinkMarks}
use Rattle.granfilade.specs.Content.{ContentTree}
use Rattle.page_tables.specs.Plain.{PlainTables}
use Rattle.page_tables.specs.TableBytes.{AreTablesOf}
use Rattle.page_trees.specs.Trees.{PlainTrees, HaveRoots}
use Rattle.world_rules.specs.FlatView.{FlatView}
use Rattle.tree_world.specs.Trees as own
use Rattle.tree_world.specs.Standing.{Stands}
use Rattle.tree_world.specs.Nodes.{nodes_in}
use Rattle.world_pages.specs.Pages.{tables_of_world, pages_of_world}
use Rattle.world_pages.specs.Laws.{AreStored}
use Rattle.green_flush.specs.Sound.{AreSound}
use Rattle.green_flush.specs.Loads.{TreesAt}
use Rattle.green_flush.specs.declared.trees.Trees.{Trees}
use Rattle.green_flush.specs.Standing.{FlushView, HaveGrown, MayBeSaved}
use Rattle.paged_world.specs.Standing.{StandFor, IsOfPlaced, HaveGrownFrom, MayGoOn}

-- ---- what a store's trees are

-- a root is a node, as marks say
index_below : (tree shown : IndexTree) (mark : TreeMark) → shown ≡ tree → mark ≡ mark_of shown → mark.root.0 < mark.count → tree.root.0 < length tree.nodes
index_below tree shown mark is marked below = subst (λ (t : IndexTree). t.root.0 < length t.nodes) is (subst (λ (m : TreeMark). m.root.0 < m.count) marked below)

content_below : (tree shown : ContentTree) (mark : TreeMark) → shown ≡ tree → mark.root.0 ≡ shown.root → mark.count ≡ length shown.nodes → mark.root.0 < mark.count → tree.root < length tree.nodes
content_below tree shown mark is root count below =
    let here : shown.root < length shown.nodes = omega (arith, root, count, below) in
    subst (λ (t : ContentTree). t.root < length t.nodes) is here

pub stored_by : (trees : own.Trees) (view : FlatView) (documents : List (DocumentRow Node)) (links again : LinkLists) (contents : ContentTree) (index : IndexTree) (of_contents of_index : TreeMark) (of_links : LinkMarks) →
    Stands trees view → IsOfPlaced view → own.AreSound trees → documents ≡ trees.documents → IsStrictlySortedBy (slice_cmp nat_cmp) (documents_in documents) →
    links ≡ trees.links → IsStrictlySortedBy (slice_cmp nat_cmp) (ids_in links.links) → All IsLink links.links →
    contents ≡ trees.contents → of_contents.root.0 ≡ contents.root → of_contents.count ≡ length contents.nodes → of_contents.root.0 < of_contents.count →
    index ≡ trees.index → of_index ≡ mark_of index → of_index.root.0 < of_index.count →
    again ≡ trees.links → of_links ≡ marks_of again → (of_links.from.root.0 < of_links.from.count) × (of_links.to.root.0 < of_links.to.count) × (of_links.three.root.0 < of_links.three.count) → AreStored trees view
stored_by trees view documents links again contents index of_contents of_index of_links stands placed sound documents_are ascend links_are ids runs contents_are root count below index_is marked index_root again_are marks ends = record {
  history = placed.history;
  placed = placed.placed;
  world = placed.world;
  stands = stands;
  sound = sound;
  in_order = record {
    documents = subst (λ rows. IsStrictlySortedBy (slice_cmp nat_cmp) (documents_in rows)) documents_are ascend;
    links = subst (λ (lists : LinkLists). IsStrictlySortedBy (slice_cmp nat_cmp) (ids_in lists.links)) links_are ids;
    runs = subst (λ (lists : LinkLists). All IsLink lists.links) links_are runs;
  };
  roots = record {
    contents = content_below trees.contents contents of_contents contents_are root count below;
    index = index_below trees.index index of_index index_is marked index_root;
    from = index_below trees.links.from again.from of_links.from (λ i. (again_are i).from) (λ i. (marks i).from) ends.0;
    to = index_below trees.links.to again.to of_links.to (λ i. (again_are i).to) (λ i. (marks i).to) ends.1;
    three = index_below trees.links.three again.three of_links.three (λ i. (again_are i).three) (λ i. (marks i).three) ends.2;
  };
}

-- trees stand for what they stand for
pub stand_for : (trees : own.Trees) (view : FlatView) → Stands trees view → StandFor (pages_of_world trees) view.world
stand_for trees view stands = record {
  trees = trees;
  view = view;
  are = refl;
  stand = stands;
  same = record { documents = refl; rows = refl; bytes = refl; links = refl };
}

-- ---- what may be saved

-- the same growth, in the words of a flush
grown_on : (plain : PlainTrees) (trees : own.Trees) → HaveGrownFrom plain (nodes_in trees) → HaveGrown plain (pages_of_world trees)
grown_on plain trees grown = record {
  granfilade = grown.contents;
  poom = grown.documents;
  spanfilade = grown.index;
  from = grown.from;
  to = grown.to;
  three = grown.three;
}

may_go_on : (flush : FlushView) (now : Option TreesAt) (trees : own.Trees) → MayGoOn flush now (nodes_in trees) → (at : TreesAt) → now ≡ Some at → (flush.pages.kept ≡ None) ⊎ HaveGrown at.trees (pages_of_world trees)
may_go_on flush now trees may at is = either (may at is)
  where
    either : (flush.pages.kept ≡ None) ⊎ HaveGrownFrom at.trees (nodes_in trees) → (flush.pages.kept ≡ None) ⊎ HaveGrown at.trees (pages_of_world trees)
    either (inl none) = inl none
    either (inr grown) = inr (grown_on at.trees trees grown)

-- the world's own trees, with the bytes of their tables
pub may_be_saved : (flush : FlushView) (now : Option TreesAt) (trees : own.Trees) (given : Trees) (made : PlainTables) → given.granfilade ≡ trees.contents → given.poom ≡ trees.nodes → given.spanfilade ≡ trees.index
    → given.from ≡ trees.links.from → given.to ≡ trees.links.to → given.three ≡ trees.links.three → AreTablesOf made given.tables.items → made ≡ tables_of_world trees
    → HaveRoots (pages_of_world trees) → AreSound (pages_of_world trees) → MayGoOn flush now (nodes_in trees) → MayBeSaved flush now given (pages_of_world trees)
may_be_saved flush now trees given made granfilade poom spanfilade from to three spelled same roots sound may = record {
  are = record {
    granfilade = granfilade;
    poom = poom;
    spanfilade = spanfilade;
    from = from;
    to = to;
    three = three;
    tables = subst (λ (tables : PlainTables). AreTablesOf tables given.tables.items) same spelled;
  };
  roots = roots;
  sound = sound;
  grown = may_go_on flush now trees may;
}

-- the index of an end, as a world lends it
pub end_is : (end : ℕ) (links of_world : LinkLists) (index : IndexTree) → index ≡ index_at end links → links ≡ of_world → index ≡ index_at end of_world
end_is end links of_world index is same = is ∙ ap (index_at end) same
