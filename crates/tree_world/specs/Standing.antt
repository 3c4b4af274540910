-- Which worlds trees and tables stand for. Worlds differ in the order of their lists; of the rows of one part of one
-- document the order is fixed.
use Rattle.std.specs.Prelude.{◌≡◌, ℕ, ◌+◌, ◌==◌, ◌&&◌, false, Bool, List, [], ◌∷◌, length, map, All, Some, IsTrue, IsPermutation}
use Rattle.std.specs.List.{filter, list_any}
use Rattle.febe_data.specs.declared.access.Mode.TheVariants.{Write}
use Rattle.granfilade.specs.Content.{ByteAt, content}
use Rattle.enfilade_core.specs.declared.tree.Node.{Node}
use Rattle.poom.specs.Laid.{IsRoot}
use Rattle.doc_table.specs.declared.rows.DocumentRow.{DocumentRow}
use Rattle.doc_table.specs.DocumentRows.{documents_in, content_in, published_in}
use Rattle.access_table.specs.AccessRows.{mode_in, account_in}
use Rattle.enfilade_core.specs.declared.tree.Row as placed
use Rattle.spanfilade.specs.Index.{IndexTree, rows_in_index, row_end}
use Rattle.links.specs.LinkLists.{LinkLists, HoldsRuns, has_in}
use Rattle.world_rules.specs.declared.rows.Part.TheVariants.{Links}
use Rattle.world_rules.specs.declared.rows.Row.{Row}
use Rattle.world_rules.specs.declared.rows.ByteRow.{ByteRow}
use Rattle.world_rules.specs.declared.rows.OpenRow.{OpenRow}
use Rattle.world_rules.specs.declared.rows.AccountRow.{AccountRow}
use Rattle.world_rules.specs.declared.rows.SessionRow.{SessionRow}
use Rattle.world_rules.specs.World.{World, LinkRow, is_same, is_text_of, is_link_of, opens, mode_of, account_of_session, content_length}
use Rattle.world_rules.specs.Readable.{is_published}
use Rattle.world_rules.specs.Picking.{is_between}
use Rattle.world_rules.specs.Edits.{new_rows}
use Rattle.world_rules.specs.FlatView.{FlatView, entries_in}
use Rattle.tree_world.specs.Trees.{Trees, text_in, links_in}

-- one link row for each id, at n and on
abbrev pub link_rows : List ℕ → ℕ → List (List ℕ) → List Row
link_rows document n [] = []
link_rows document n (id ∷ ids) = record { document = document; part = Links; n = n; address = id } ∷ link_rows document (n + 1) ids

-- a byte of the tree of contents as a row of the world
abbrev pub byte_row : ByteAt → ByteRow
byte_row at = record { address = at.address; byte = at.byte }

-- the row of an index is the document's, and its span has the address
abbrev pub covers : List ℕ → List ℕ → placed.Row (List ℕ) → Bool
covers document address row = is_same row.second document && is_between row.first (row_end row) address

-- the index has the address for the document
abbrev pub IsCovered : IndexTree → List ℕ → List ℕ → Type 0
IsCovered index document address = IsTrue (list_any (covers document address) (rows_in_index index))

-- the index of each end has exactly the runs of that end
pub record EndsStand (links : LinkLists) : Type 0 where
  pub from : HoldsRuns 1 links.links links.from
  pub to : HoldsRuns 2 links.links links.to
  pub three : HoldsRuns 3 links.links links.three

-- no element is the same as one behind it
abbrev pub EachOnce : {X : Type 0} → (X → X → Bool) → List X → Type 0
EachOnce same [] = Unit {0}
EachOnce same (x ∷ xs) = (list_any (same x) xs ≡ false) × EachOnce same xs

-- no two links have one id
abbrev pub EachIdOnce : List LinkRow → Type 0
EachIdOnce [] = Unit {0}
EachIdOnce (link ∷ links) = (has_in links link.id ≡ false) × EachIdOnce links

-- no session has a document open twice
abbrev pub EachOpenedOnce : List OpenRow → Type 0
EachOpenedOnce [] = Unit {0}
EachOpenedOnce (row ∷ rows) = (list_any (opens row.session row.document) rows ≡ false) × EachOpenedOnce rows

-- no two sessions have one document open for writing
abbrev pub OneWriterEach : World → Type 0
OneWriterEach world = (document : List ℕ) (session other : ℕ) → mode_of world session document ≡ Some Write → mode_of world other document ≡ Some Write → session ≡ other

-- whether the session has an entry
abbrev pub is_known : List SessionRow → ℕ → Bool
is_known rows session = list_any (λ (row : SessionRow). row.session == session) rows

-- each session has as many entries, and one that has an entry in the view has its row here
pub record CountsStand (held rows : List SessionRow) : Type 0 where
  pub entries : (session : ℕ) → entries_in held session ≡ entries_in rows session
  pub known : (session : ℕ) → IsTrue (is_known rows session) → IsTrue (is_known held session)

-- What each session has open, and its account, are as in the world. No session has two accounts or one document open
-- twice, and no two have one document open for writing: a change that would make it so is refused for want of memory.
pub record SessionsStand (trees : Trees) (world : World) : Type 0 where
  pub modes : (session : ℕ) (document : List ℕ) → mode_in trees.access.open_rows session document ≡ mode_of world session document
  pub accounts : (session : ℕ) → account_in trees.access.accounts session ≡ account_of_session world session
  pub once : EachOpenedOnce world.open_rows
  pub account_once : EachOnce (λ (a b : AccountRow). a.session == b.session) world.accounts
  pub one_writer : OneWriterEach world

-- The tables and trees stand for a world and its numbers.
-- The documents are the world's, each once and with one root, whose rows are those of one document: text at `1.1` and on,
-- links at `2.1` and on. Laid out, they are the world's rows of the document, in V order; an address that is no document's
-- has none. All content that a document shows is in the index for it, which may have more. The bytes are the world's, each
-- address once, and so is how many of them each document has. A document is marked where the world has it as published. The
-- links are the world's, each id once, and the index of each end has exactly their runs.
pub record Stands (trees : Trees) (view : FlatView) : Type 0 where
  pub documents : IsPermutation (documents_in trees.documents) view.world.documents
  pub documents_once : EachOnce is_same view.world.documents
  pub roots : All (λ (row : DocumentRow Node). IsRoot trees.nodes row.root.0) trees.documents
  pub texts : (document : List ℕ) → filter (is_text_of document) view.world.rows ≡ new_rows document 1 (text_in trees document)
  pub links : (document : List ℕ) → filter (is_link_of document) view.world.rows ≡ link_rows document 1 (links_in trees document)
  pub covered : (document : List ℕ) → All (IsCovered trees.index document) (text_in trees document)
  pub bytes : IsPermutation (map byte_row (content trees.contents)) view.world.bytes
  pub bytes_once : EachOnce (λ (a b : ByteRow). is_same a.address b.address) view.world.bytes
  pub total : trees.content ≡ length view.world.bytes
  pub counts : (document : List ℕ) → content_in trees.documents document ≡ content_length view.world document
  pub marks : (document : List ℕ) → published_in trees.documents document ≡ is_published view.world document
  pub link_table : IsPermutation trees.links.links view.world.links
  pub ids : EachIdOnce trees.links.links
  pub ends : EndsStand trees.links
  pub access : SessionsStand trees view.world
  pub counted : trees.counted ≡ view.counted
  pub entries : (session : ℕ) → entries_in trees.sessions session ≡ entries_in view.sessions session
  pub known : (session : ℕ) → IsTrue (is_known view.sessions session) → IsTrue (is_known trees.sessions session)
