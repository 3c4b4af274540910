-- A world in trees and tables, as contracts see it.
use Rattle.std.specs.Prelude.{◌≡◌, ℕ, ◌≤◌, Bool, true, false, List, [], All, Option, Some, None, IsTrue}
use Rattle.std.specs.List.{list_any}
use Rattle.tumbler.specs.Address.{IsDocument}
use Rattle.enfilade_core.specs.declared.tree.Node.{Node}
use Rattle.enfilade_core.specs.Rows.{Shape, rows_of}
use Rattle.enfilade_core.specs.BalanceState.{tree_allows}
use Rattle.granfilade.specs.Content.{ContentTree, ByteAt, content, tree_rows}
use Rattle.granfilade.specs.Puts.{IsContent}
use Rattle.poom.specs.Laid as laid
use Rattle.doc_table.specs.declared.rows.DocumentRow.{DocumentRow}
use Rattle.doc_table.specs.DocumentRows.{root_in, content_in}
use Rattle.access_table.specs.AccessRows.{AccessRows}
use Rattle.spanfilade.specs.Index.{IndexTree}
use Rattle.links.specs.LinkLists.{LinkLists}
use Rattle.world_rules.specs.declared.rows.SessionRow.{SessionRow}
use Rattle.world_rules.specs.World.{is_same, content_address}

-- the tree of contents and how many bytes it has, the nodes of all documents' trees, the table of documents with their
-- roots, the index of documents by the content that came into them, the links and the indexes of their ends, what each
-- session has open and its account, how many entries are counted, how many each session has, and which documents are marked
-- as ones whose trees may allow a step of the balancer
pub record Trees : Type 0 where
  pub contents : ContentTree
  pub content : ℕ
  pub nodes : List (Shape ℕ)
  pub documents : List (DocumentRow Node)
  pub index : IndexTree
  pub links : LinkLists
  pub access : AccessRows
  pub counted : ℕ
  pub sessions : List SessionRow
  pub due : List (List ℕ)

-- the addresses of a tree's text, and of its links; where there is no tree there are none
abbrev pub text_at : List (Shape ℕ) → Option Node → List (List ℕ)
text_at nodes None = []
text_at nodes (Some root) = laid.texts (rows_of nodes root.0)

abbrev pub links_at : List (Shape ℕ) → Option Node → List (List ℕ)
links_at nodes None = []
links_at nodes (Some root) = laid.links (rows_of nodes root.0)

-- those of a document, and none where the address is no document's
abbrev pub text_in : Trees → List ℕ → List (List ℕ)
text_in trees document = text_at trees.nodes (root_in trees.documents document)

abbrev pub links_in : Trees → List ℕ → List (List ℕ)
links_in trees document = links_at trees.nodes (root_in trees.documents document)

-- a byte of a document is one of those that are counted for it
abbrev pub IsCounted : List (DocumentRow Node) → ByteAt → Type 0
IsCounted documents at = (document : List ℕ) (number : ℕ) → at.address ≡ content_address document number → number ≤ content_in documents document

-- all are
abbrev pub AreCounted : List (DocumentRow Node) → ContentTree → Type 0
AreCounted documents contents = All (IsCounted documents) (content contents)

-- whether a document's tree allows a step of the balancer: where there is no tree it does not
abbrev pub root_allows : List (Shape ℕ) → Option Node → Bool
root_allows nodes None = false
root_allows nodes (Some root) = tree_allows nodes root.0

abbrev pub document_allows : List (Shape ℕ) → List (DocumentRow Node) → List ℕ → Bool
document_allows nodes documents document = root_allows nodes (root_in documents document)

-- the document is marked
abbrev pub is_marked : List (List ℕ) → List ℕ → Bool
is_marked marks document = list_any (λ mark. is_same mark document) marks

-- each document whose tree allows a step is marked
pub record AreDue (nodes : List (Shape ℕ)) (documents : List (DocumentRow Node)) (due : List (List ℕ)) : Type 0 where
  pub marked : (document : List ℕ) → document_allows nodes documents document ≡ true → IsTrue (is_marked due document)

-- What the trees keep to by themselves: each document's root is one, each address a document's, each byte at an address
-- of content, and counted for its document, and each document whose tree allows a step is marked.
abbrev pub AreSound : Trees → Type 0
AreSound trees =
    All (λ (row : DocumentRow Node). laid.IsRoot trees.nodes row.root.0) trees.documents × All (λ (row : DocumentRow Node). IsDocument row.document) trees.documents × IsContent (tree_rows trees.contents) × AreCounted trees.documents trees.contents × AreDue trees.nodes trees.documents trees.due
