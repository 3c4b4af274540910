-- What is told of trees that were read: whether they stand for what the world stands for.
use Rattle.std.proofs.Common.{◌≡◌, ◌∙◌, ℕ, List, [], ◌∷◌, length, map, Option, Some, refl, sym, ap, subst}
use Rattle.std.specs.Prelude.{All}
use Rattle.std.specs.Ordering.{nat_cmp}
use Rattle.std.specs.Cmp.Lexicographic.{slice_cmp}
use Rattle.std.specs.List.Sorted.{IsStrictlySortedBy}
use Rattle.std.proofs.lemmas.List.Elements.{All-map}
use Rattle.enfilade_core.specs.declared.tree.Node.{Node}
use Rattle.enfilade_core.specs.Rows.{Shape}
use Rattle.granfilade.specs.Content.{ContentTree, tree_rows}
use Rattle.granfilade.specs.Puts.{IsContent}
use Rattle.poom.specs.Laid.{IsRoot}
use Rattle.spanfilade.specs.Index.{IndexTree}
use Rattle.doc_table.specs.DocumentRows.{documents_in}
use Rattle.links.specs.LinkLists.{LinkLists, HoldsRuns, ids_in}
use Rattle.doc_table.specs.declared.rows.DocumentRow.{DocumentRow}
use Rattle.page_tables.specs.declared.tables.TableDocument.{TableDocument}
use Rattle.page_tables.specs.declared.tables.Tables.{Tables}
use Rattle.page_tables.specs.Laws.{OneTables}
use Rattle.page_tables.specs.Plain.{PlainTables, plain_tables}
use Rattle.page_tables.specs.TableBytes.{AreTablesOf, AreReadTables}
use Rattle.page_trees.specs.Trees.{PlainTrees}
use Rattle.table_checks.specs.TableRows.{ids_of}
use Rattle.green_flush.specs.declared.trees.Trees as flush
use Rattle.green_flush.specs.Loads.{ArePlain, AreLoaded}
use Rattle.green_flush.specs.Sound.{AreSound, content_tree, index_tree, link_rows}
use Rattle.world_rules.specs.World.{LinkRow}
use Rattle.world_rules.specs.FlatView.{FlatView}
use Rattle.tree_world.specs.declared.going_on.OtherTrees.{OtherTrees}
use Rattle.tree_world.specs.OtherTrees.{with_others}
use Rattle.tree_world.specs.Trees.{Trees}
use Rattle.tree_world.specs.Standing.{Stands}
use Rattle.tree_world.specs.Condition.{condition_of}
use Rattle.world_pages.specs.Pages.{table_link, pages_of_world}
use Rattle.world_pages.proofs.Documents.{addresses_same}
use Rattle.paged_world.specs.Standing.{StandFor, AreIn}
use Rattle.paged_world.specs.inside.Same.{root_of_row, HoldSame}
use Rattle.paged_world.proofs.Alike.{AreAlike, alike_if}
use Rattle.paged_world.proofs.FoundRows.{counted_alike, shown_if}
use Rattle.paged_world.proofs.Taken.{with_plain, HoldsPlain, pages_taken, roots_read, links_same, taken_stands, gone_on}
use Rattle.paged_world.proofs.ReadRows.{alike_long}

-- ---- what was read is these trees

-- the tables that were read are those
pub one_read : OneTables → (bytes items : List ℕ) (found : Option Tables) (read : Tables) → bytes ≡ items → AreReadTables bytes found → found ≡ Some read → (tables : PlainTables) → AreTablesOf tables items → plain_tables read ≡ tables
one_read law bytes items found read same has is tables are = law (plain_tables read) tables items (subst (AreTablesOf (plain_tables read)) same (subst (AreReadTables bytes) is has)) are

pub held_plain : (world : Trees) (loaded : flush.Trees) (tables : PlainTables) (plain : PlainTrees) → ArePlain loaded plain → tables ≡ plain.tables → HoldSame world loaded.granfilade loaded.poom tables → HoldsPlain world plain
held_plain world loaded tables plain are is same =
    subst (HoldSame world (content_tree plain.granfilade plain.tables.granfilade) plain.poom) is
    (subst (λ (nodes : List (Shape ℕ)). HoldSame world (content_tree plain.granfilade plain.tables.granfilade) nodes tables) are.poom
    (subst (λ (contents : ContentTree). HoldSame world contents loaded.poom tables) are.granfilade same))

plain_held : (world : Trees) (loaded : flush.Trees) (tables : PlainTables) (plain : PlainTrees) → ArePlain loaded plain → tables ≡ plain.tables → HoldsPlain world plain → HoldSame world loaded.granfilade loaded.poom tables
plain_held world loaded tables plain are is same =
    subst (λ (contents : ContentTree). HoldSame world contents loaded.poom tables) (sym are.granfilade)
    (subst (λ (nodes : List (Shape ℕ)). HoldSame world (content_tree plain.granfilade plain.tables.granfilade) nodes tables) (sym are.poom)
    (subst (HoldSame world (content_tree plain.granfilade plain.tables.granfilade) plain.poom) (sym is) same))

-- ---- trees that stand for the same hold the same

ids_same : (links : List LinkRow) → ids_of (map table_link links) ≡ ids_in links
ids_same [] = refl
ids_same (link ∷ links) = ap (λ (ids : List (List ℕ)). link.id ∷ ids) (ids_same links)

-- what is known of a world's own trees
pub record IsOrdered (world : Trees) : Type 0 where
  pub documents : IsStrictlySortedBy (slice_cmp nat_cmp) (documents_in world.documents)
  pub links : IsStrictlySortedBy (slice_cmp nat_cmp) (ids_in world.links.links)
  pub contents : IsContent (tree_rows world.contents)

pub ordered_own : (world : Trees) (documents : List (DocumentRow Node)) (links : LinkLists) → documents ≡ world.documents → links ≡ world.links → IsStrictlySortedBy (slice_cmp nat_cmp) (documents_in documents) → IsStrictlySortedBy (slice_cmp nat_cmp) (ids_in links.links)
    → IsContent (tree_rows world.contents) → IsOrdered world
ordered_own world documents links same also up ids contents = record {
  documents = subst (λ rows. IsStrictlySortedBy (slice_cmp nat_cmp) (documents_in rows)) same up;
  links = subst (λ (lists : LinkLists). IsStrictlySortedBy (slice_cmp nat_cmp) (ids_in lists.links)) also ids;
  contents = contents;
}

-- so are a world's whose pages pass the tests
ordered_by : (trees : Trees) → AreSound (pages_of_world trees) → IsOrdered trees
ordered_by trees sound = record {
  documents = subst (IsStrictlySortedBy (slice_cmp nat_cmp)) (addresses_same trees.documents) sound.tables.documents_ascend;
  links = subst (IsStrictlySortedBy (slice_cmp nat_cmp)) (ids_same trees.links.links) sound.tables.links_ascend;
  contents = sound.contents.content.content;
}

pub holds_alike : (world trees : Trees) → IsOrdered world → IsOrdered trees → AreAlike world trees → HoldsPlain world (pages_of_world trees)
holds_alike world trees own others same = record {
  documents = counted_alike world.documents trees.documents own.documents others.documents same.documents same.counts;
  links = ap (map table_link) (sym same.link_table);
  bytes = sym same.contents;
  shown = shown_if world.nodes trees.nodes world.documents trees.documents same.texts same.links own.documents others.documents same.documents;
}

pub stand_same : (world : Trees) (plain : PlainTrees) (view : FlatView) → IsOrdered world → AreSound plain → Stands world view → StandFor plain view.world → HoldsPlain world plain
stand_same world plain view ordered sound stand stood =
    let others = ordered_by stood.trees (subst AreSound (sym stood.are) sound) in
    subst (HoldsPlain world) stood.are
    (holds_alike world stood.trees ordered others
    (alike_if world stood.trees view stood.view stood.same stand stood.stand ordered.documents others.documents ordered.links others.links ordered.contents others.contents))

-- so trees that do not hold the same stand for something else
pub stand_other : (old : Trees) (loaded : flush.Trees) (tables : PlainTables) (plain : PlainTrees) (view : FlatView) → IsOrdered old → AreLoaded loaded plain → tables ≡ plain.tables → Stands old view → (HoldSame old loaded.granfilade loaded.poom tables → ⊥) → StandFor plain view.world → ⊥
stand_other old loaded tables plain view ordered loads is stand not stood = not (plain_held old loaded tables plain loads.are is (stand_same old plain view ordered loads.sound stand stood))

-- ---- what going on with them asks

-- their roots, through the list in which they were gathered
pub roots_are : (plain : PlainTrees) (tables : PlainTables) (slice : List TableDocument) (made items : List Node) → items ≡ made → made ≡ map root_of_row slice → slice ≡ tables.documents → tables ≡ plain.tables → items ≡ map root_of_row plain.tables.documents
roots_are plain tables slice made items same are whole is = same ∙ are ∙ ap (map root_of_row) (whole ∙ ap (λ (t : PlainTables). t.documents) is)

module _ (old : Trees) (loaded : flush.Trees) (plain : PlainTrees) (loads : AreLoaded loaded plain) (same : HoldsPlain old plain) where
  pub each_root : (roots : List Node) → roots ≡ map root_of_row plain.tables.documents → length roots ≡ length old.documents
  each_root roots are = ap length are ∙ alike_long old.documents plain.tables.documents same.documents

  pub roots_there : (nodes : List (Shape ℕ)) (roots : List Node) → nodes ≡ loaded.poom → roots ≡ map root_of_row plain.tables.documents → All (λ (root : Node). IsRoot nodes root.0) roots
  roots_there nodes roots there are =
      subst (λ (rs : List Node). All (λ (root : Node). IsRoot nodes root.0) rs) (sym are)
      (subst (λ (some : List (Shape ℕ)). All (λ (root : Node). IsRoot some root.0) (map root_of_row plain.tables.documents)) (sym (there ∙ loads.are.poom))
      (All-map (λ (root : Node). IsRoot plain.poom root.0) root_of_row plain.tables.documents (roots_read plain loads.sound)))

  end_held : (end : ℕ) (index : IndexTree) (nodes : IndexTree) → index ≡ nodes → HoldsRuns end (link_rows plain.tables) nodes → HoldsRuns end old.links.links index
  end_held end index nodes is runs =
      subst (λ (links : List LinkRow). HoldsRuns end links index) (sym (links_same plain old same)) (subst (HoldsRuns end (link_rows plain.tables)) (sym is) runs)

  pub from_held : (index : IndexTree) → index ≡ loaded.from → HoldsRuns 1 old.links.links index
  from_held index is = end_held 1 index (index_tree plain.from plain.tables.from) (is ∙ loads.are.from) loads.sound.from

  pub to_held : (index : IndexTree) → index ≡ loaded.to → HoldsRuns 2 old.links.links index
  to_held index is = end_held 2 index (index_tree plain.to plain.tables.to) (is ∙ loads.are.to) loads.sound.to

  pub three_held : (index : IndexTree) → index ≡ loaded.three → HoldsRuns 3 old.links.links index
  three_held index is = end_held 3 index (index_tree plain.three plain.tables.three) (is ∙ loads.are.three) loads.sound.three

-- ---- the world that goes on

-- the world has gone on with these trees
pub record HasGone (plain : PlainTrees) (old new : Trees) : Type 0 where
  pub due : List (List ℕ)
  pub same : HoldsPlain old plain
  pub sound : AreSound plain
  pub is : new ≡ with_plain plain due old

-- so it has with others that are these
pub gone_with : (plain : PlainTrees) (loaded : flush.Trees) (old new : Trees) (other : OtherTrees) → AreLoaded loaded plain → HoldsPlain old plain → new ≡ with_others other new.due old
    → other.contents ≡ loaded.granfilade → other.pooms ≡ loaded.poom → other.roots.items ≡ map root_of_row plain.tables.documents → other.index ≡ loaded.spanfilade → other.from ≡ loaded.from → other.to ≡ loaded.to → other.three ≡ loaded.three
    → HasGone plain old new
gone_with plain loaded old new other loads same is contents pooms roots index from to three = record {
  due = new.due;
  same = same;
  sound = loads.sound;
  is = is ∙ gone_on plain old same other new.due (contents ∙ loads.are.granfilade) (pooms ∙ loads.are.poom) roots (index ∙ loads.are.spanfilade) (from ∙ loads.are.from) (to ∙ loads.are.to) (three ∙ loads.are.three);
}

module _ (plain : PlainTrees) (old new : Trees) (gone : HasGone plain old new) where
  pub still_stands : (view : FlatView) → Stands old view → Stands new view
  still_stands view stand = subst (λ (trees : Trees). Stands trees view) (sym gone.is) (taken_stands plain old gone.same gone.due gone.sound view stand)

  pages_are : pages_of_world new ≡ plain
  pages_are = ap pages_of_world gone.is ∙ pages_taken plain gone.due old gone.same

  pub stand_for : (view : FlatView) → Stands old view → StandFor plain view.world
  stand_for view stand = record {
    trees = new;
    view = view;
    are = pages_are;
    stand = still_stands view stand;
    same = record { documents = refl; rows = refl; bytes = refl; links = refl };
  }

  pub in_condition : AreIn plain (condition_of new)
  in_condition = record { trees = new; are = pages_are; condition_is = refl }
