-- What holds of the trees alone, after a change.
use Rattle.std.proofs.Common.{◌≡◌, ℕ, ◌≤◌, Bool, true, false, cond, List, sym, subst}
use Rattle.std.specs.Prelude.{All}
use Rattle.std.proofs.lemmas.List.Elements.{All-weaker, All-map}
use Rattle.std.proofs.lemmas.Map.Views.{All-insert_key}
use Rattle.tumbler.specs.Address.{IsDocument}
use Rattle.enfilade_core.specs.declared.tree.Node.{Node}
use Rattle.enfilade_core.specs.Rows.{Shape}
use Rattle.enfilade_core.specs.Edits.{KeepsRows}
use Rattle.enfilade_core.specs.Exchange.{Grows}
use Rattle.granfilade.specs.Content.{ContentTree, content, tree_rows}
use Rattle.granfilade.specs.Puts.{IsContent}
use Rattle.poom.specs.Laid.{IsRoot}
use Rattle.doc_table.specs.declared.rows.DocumentRow.{DocumentRow}
use Rattle.doc_table.specs.DocumentRows.{is_of, has_in, row_cmp, added, with_root}
use Rattle.tree_world.specs.Trees.{IsCounted, AreCounted, AreDue}
use Rattle.tree_world.proofs.Tables.{root_contents, content_added}
use Rattle.tree_world.proofs.Roots.{roots_added, roots_set}

abbrev pub Holds : List (Shape ℕ) → List (DocumentRow Node) → ContentTree → Type 0
Holds nodes documents contents =
    All (λ (row : DocumentRow Node). IsRoot nodes row.root.0) documents × All (λ (row : DocumentRow Node). IsDocument row.document) documents × IsContent (tree_rows contents) × AreCounted documents contents

-- the same, and each document whose tree allows a step is marked
abbrev pub HoldsDue : List (Shape ℕ) → List (DocumentRow Node) → ContentTree → List (List ℕ) → Type 0
HoldsDue nodes documents contents due =
    All (λ (row : DocumentRow Node). IsRoot nodes row.root.0) documents × All (λ (row : DocumentRow Node). IsDocument row.document) documents × IsContent (tree_rows contents) × AreCounted documents contents × AreDue nodes documents due

pub unmarked : (nodes : List (Shape ℕ)) (documents : List (DocumentRow Node)) (contents : ContentTree) (due : List (List ℕ)) → HoldsDue nodes documents contents due → Holds nodes documents contents
unmarked nodes documents contents due holds = (holds.0, holds.1, holds.2, holds.3)

pub with_due : (nodes : List (Shape ℕ)) (documents : List (DocumentRow Node)) (contents : ContentTree) (due : List (List ℕ)) → Holds nodes documents contents → AreDue nodes documents due → HoldsDue nodes documents contents due
with_due nodes documents contents due holds is = (holds.0, holds.1, holds.2, holds.3, is)

module _ (nodes more : List (Shape ℕ)) (documents : List (DocumentRow Node)) (contents : ContentTree) (holds : Holds nodes documents contents) (kept : KeepsRows nodes more) (grows : Grows nodes more) (document : List ℕ) (made : Node) (root : IsRoot more made.0) where
  abbrev IsRooted : DocumentRow Node → Type 0
  IsRooted row = IsRoot more row.root.0

  abbrev IsAddressed : DocumentRow Node → Type 0
  IsAddressed row = IsDocument row.document

  pub holds_added : IsDocument document → has_in documents document ≡ false → Holds more (added documents document made) contents
  holds_added address none = (
    roots_added nodes more kept grows documents holds.0 document made root,
    All-insert_key row_cmp (record { document = document; root = made; content = 0; published = false }) IsAddressed documents holds.1 address,
    holds.2,
    All-weaker (IsCounted documents) (IsCounted (added documents document made)) (λ at h d n is. subst (λ k. n ≤ k) (sym (content_added documents document made none d)) (h d n is)) (content contents) holds.3,
  )

  pub holds_rooted : Holds more (with_root documents document made) contents
  holds_rooted = (
    roots_set nodes more kept grows documents holds.0 document made root,
    All-map IsAddressed (λ (row : DocumentRow Node). cond (is_of document row) (record row { root = made }) row) documents
        (All-weaker IsAddressed (λ (row : DocumentRow Node). IsAddressed (cond (is_of document row) (record row { root = made }) row)) (λ row h. by_address row (is_of document row) h) documents holds.1),
    holds.2,
    All-weaker (IsCounted documents) (IsCounted (with_root documents document made)) (λ at h d n is. subst (λ k. n ≤ k) (sym (root_contents documents document made d)) (h d n is)) (content contents) holds.3,
  )
    where
      by_address : (row : DocumentRow Node) (b : Bool) → IsAddressed row → IsAddressed (cond b (record row { root = made }) row)
      by_address row true h = h
      by_address row false h = h

pub holds_same : (nodes more : List (Shape ℕ)) (documents now : List (DocumentRow Node)) (contents : ContentTree) → more ≡ nodes → now ≡ documents → Holds nodes documents contents → Holds more now contents
holds_same nodes more documents now contents e f holds = subst (λ xs. Holds xs now contents) (sym e) (subst (λ ds. Holds nodes ds contents) (sym f) holds)
