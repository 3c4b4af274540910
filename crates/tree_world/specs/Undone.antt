-- How an entry is taken back: what was kept before it, and what it did to trees and tables.
use Rattle.std.specs.Prelude.{◌≡◌, ℕ, ◌<◌, Bool, List, length, Some, IsTrue}
use Rattle.enfilade_core.specs.declared.tree.Node.{Node}
use Rattle.enfilade_core.specs.declared.tree.TreeMark.{TreeMark}
use Rattle.doc_table.specs.declared.rows.DocumentRow.{DocumentRow}
use Rattle.doc_table.specs.DocumentRows.{documents_in, has_in, root_in, content_in, published_in, removed, with_root, with_content, with_mark}
use Rattle.access_table.specs.AccessRows.{AccessRows, closed}
use Rattle.spanfilade.specs.Index.{mark_of}
use Rattle.links.specs.LinkLists as links
use Rattle.links.specs.LinkLists.{LinkLists, AllGrow, marks_of}
use Rattle.links.specs.declared.row.LinkMarks.{LinkMarks}
use Rattle.febe_data.specs.Plain.{PlainChange, document_created, version_made, copy_opened, text_inserted, span_deleted, blocks_swapped, specs_copied, link_made, document_published}
use Rattle.world_rules.specs.World.{is_same, link_address}
use Rattle.world_rules.specs.FlatView.{FlatView, with_entry}
use Rattle.tree_world.specs.declared.undoing.UndoRecord.{UndoRecord}
use Rattle.tree_world.specs.declared.undoing.Touched.{Touched}
use Rattle.tree_world.specs.declared.undoing.Touched.TheVariants as touched
use Rattle.tree_world.specs.Condition.{Condition, condition_of}
use Rattle.tree_world.specs.Trees.{Trees, is_marked, AreSound}
use Rattle.tree_world.specs.Nodes.{WorldNodes, nodes_in, AllGrown}
use Rattle.tree_world.specs.Standing.{Stands, CountsStand, EachOnce, EndsStand}

-- ---- what an entry does

-- no mark went
pub record MarksStay (before after : List (List ℕ)) : Type 0 where
  pub stay : (document : List ℕ) → IsTrue (is_marked before document) → IsTrue (is_marked after document)

-- in each tree nodes came in behind the others, and no mark of a document went
pub record NodesCame (before after : Trees) : Type 0 where
  pub grown : AllGrown (nodes_in before) (nodes_in after)
  pub due : MarksStay before.due after.due

-- the tables that an entry changes: documents, who has what open, and links
pub record Tables : Type 0 where
  pub documents : List (DocumentRow Node)
  pub access : AccessRows
  pub links : LinkLists

abbrev pub tables_of : Trees → Tables
tables_of trees = record { documents = trees.documents; access = trees.access; links = trees.links }

-- a document came in, and was opened by the session: without both the tables are as before
pub record DocumentCame (session : ℕ) (document : List ℕ) (before after : Tables) : Type 0 where
  pub there : IsTrue (has_in after.documents document)
  pub documents : removed after.documents document ≡ before.documents
  pub access : closed after.access session document ≡ before.access
  pub links : after.links ≡ before.links

-- a document was edited: the tables are as before but for its root and the number of its content bytes
pub record DocumentEdited (document : List ℕ) (before after : Tables) : Type 0 where
  pub there : IsTrue (has_in after.documents document)
  pub documents : (root : Node) (content : ℕ) → with_content (with_root after.documents document root) document content ≡ with_content (with_root before.documents document root) document content
  pub access : after.access ≡ before.access
  pub links : after.links ≡ before.links

-- a link came in: without it the tables are as before but for its home's root
pub record LinkCame (home id : List ℕ) (before after : Tables) : Type 0 where
  pub there : IsTrue (has_in after.documents home)
  pub documents : (root : Node) → with_root after.documents home root ≡ with_root before.documents home root
  pub access : after.access ≡ before.access
  pub links : links.removed after.links.links id ≡ before.links.links

-- a document was published: the tables are as before but for its mark
pub record DocumentMarked (document : List ℕ) (before after : Tables) : Type 0 where
  pub there : IsTrue (has_in after.documents document)
  pub documents : (mark : Bool) → with_mark after.documents document mark ≡ with_mark before.documents document mark
  pub access : after.access ≡ before.access
  pub links : after.links ≡ before.links

-- nodes came in, and the tables were changed like this
abbrev pub EntryCame : (Tables → Tables → Type 0) → Trees → Trees → Type 0
EntryCame IsChange before after = NodesCame before after × IsChange (tables_of before) (tables_of after)

-- what a session's change does to trees and tables, where the limits count it
abbrev pub ChangeCame : ℕ → PlainChange → Trees → Trees → Type 0
ChangeCame session (document_created document) before after = EntryCame (DocumentCame session document) before after
ChangeCame session (version_made source document) before after = EntryCame (DocumentCame session document) before after
ChangeCame session (copy_opened source document) before after = EntryCame (DocumentCame session document) before after
ChangeCame session (text_inserted document at first text) before after = EntryCame (DocumentEdited document) before after
ChangeCame session (span_deleted document span) before after = EntryCame (DocumentEdited document) before after
ChangeCame session (blocks_swapped document cuts) before after = EntryCame (DocumentEdited document) before after
ChangeCame session (specs_copied document at specs) before after = EntryCame (DocumentEdited document) before after
ChangeCame session (link_made home number place from to three) before after = EntryCame (LinkCame home (link_address home number)) before after
ChangeCame session (document_published document) before after = EntryCame (DocumentMarked document) before after
ChangeCame session other before after = Unit {0}

-- ---- what is kept

-- the root of a mark is one of its nodes
abbrev pub IsInside : TreeMark → Type 0
IsInside mark = mark.root.0 < mark.count

-- the marks of the links' indexes
pub record AreLinksKept (links : LinkLists) (marks : LinkMarks) : Type 0 where
  pub are : marks ≡ marks_of links
  pub from : IsInside marks.from
  pub to : IsInside marks.to
  pub three : IsInside marks.three

-- the marks of all trees, and the numbers
pub record IsKept (trees : Trees) (undo : UndoRecord) : Type 0 where
  pub contents_root : undo.contents.root.0 ≡ trees.contents.root
  pub contents_count : undo.contents.count ≡ length trees.contents.nodes
  pub contents_inside : IsInside undo.contents
  pub nodes : undo.nodes ≡ length trees.nodes
  pub index : undo.index ≡ mark_of trees.index
  pub index_inside : IsInside undo.index
  pub links : AreLinksKept trees.links undo.links
  pub content : undo.content ≡ trees.content
  pub counted : undo.counted ≡ trees.counted

-- the document's row: its root, and how many content bytes it has
pub record IsRow (trees : Trees) (document : List ℕ) (it : Touched) : Type 0 where
  pub root : Node
  pub is_root : root_in trees.documents document ≡ Some root
  pub is : it ≡ touched.Row document root (content_in trees.documents document)

-- the link's id, and the root of its home
pub record IsHome (trees : Trees) (home id : List ℕ) (it : Touched) : Type 0 where
  pub root : Node
  pub is_root : root_in trees.documents home ≡ Some root
  pub is : it ≡ touched.Link home root id

-- the document's mark
abbrev pub IsMark : Trees → List ℕ → Touched → Type 0
IsMark trees document it = it ≡ touched.Mark document (published_in trees.documents document)

-- what a change is to touch, with what stands there
abbrev pub IsTouched : Trees → PlainChange → Touched → Type 0
IsTouched trees (document_created document) it = it ≡ touched.Document document
IsTouched trees (version_made source document) it = it ≡ touched.Document document
IsTouched trees (copy_opened source document) it = it ≡ touched.Document document
IsTouched trees (text_inserted document at first text) it = IsRow trees document it
IsTouched trees (span_deleted document span) it = IsRow trees document it
IsTouched trees (blocks_swapped document cuts) it = IsRow trees document it
IsTouched trees (specs_copied document at specs) it = IsRow trees document it
IsTouched trees (link_made home number place from to three) it = IsHome trees home (link_address home number) it
IsTouched trees (document_published document) it = IsMark trees document it
IsTouched trees other it = ⊥

-- ---- how it goes back

-- with what was touched, and what stood there, the tables go back
abbrev pub TablesGoBack : ℕ → Touched → Tables → Tables → Type 0
TablesGoBack session (touched.Document document) before after = DocumentCame session document before after
TablesGoBack session (touched.Row document root content) before after = (root_in before.documents document ≡ Some root) × (content_in before.documents document ≡ content) × DocumentEdited document before after
TablesGoBack session (touched.Link home root id) before after = (root_in before.documents home ≡ Some root) × LinkCame home id before after
TablesGoBack session (touched.Mark document mark) before after = (published_in before.documents document ≡ mark) × DocumentMarked document before after

-- The same with what is kept of the links. No document stands twice, and the index of each end has exactly the runs of
-- that end.
pub record TablesWere (undo : UndoRecord) (before after : Tables) : Type 0 where
  pub back : TablesGoBack undo.session undo.touched before after
  pub once : EachOnce is_same (documents_in before.documents)
  pub ends : EndsStand before.links
  pub marks : AreLinksKept before.links undo.links
  pub grow : AllGrow before.links after.links

-- there were such tables
pub record TablesMayGoBack (undo : UndoRecord) (after : Tables) : Type 0 where
  pub before : Tables
  pub were : TablesWere undo before after

-- Taken back by this, trees stand for the view: they came of trees that stood for it and that were kept, and the one entry
-- more is counted for the session.
pub record ComesBack (after : Trees) (undo : UndoRecord) (view : FlatView) : Type 0 where
  pub before : Trees
  pub stood : Stands before view
  pub sound : AreSound before
  pub kept : IsKept before undo
  pub came : EntryCame (TablesGoBack undo.session undo.touched) before after
  pub entries : CountsStand after.sessions (with_entry undo.session view.sessions)

-- there is such a view
pub record MayComeBack (after : Trees) (undo : UndoRecord) : Type 0 where
  pub view : FlatView
  pub back : ComesBack after undo view

-- so it is, and the trees that they came of were in this condition
pub record ComesTo (after : Trees) (undo : UndoRecord) (condition : Condition) : Type 0 where
  pub may : MayComeBack after undo
  pub was : condition ≡ condition_of may.back.before

-- so it is, and these were the nodes of the trees that they came of
pub record ComesToNodes (after : Trees) (undo : UndoRecord) (nodes : WorldNodes) : Type 0 where
  pub may : MayComeBack after undo
  pub were : nodes ≡ nodes_in may.back.before
