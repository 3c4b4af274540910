-- Marks of all documents.
use Rattle.std.proofs.Common.{◌≡◌, ◌∙◌, ℕ, zero, suc, ◌+◌, ◌<◌, ◌≤◌, ◌||◌, Bool, true, false, cond, List, [], ◌∷◌, ◌++◌, length, take, get_or, slice_get, Some, refl, sym, ap, subst, true≢false, arith}
use Rattle.std.specs.Prelude.{All}
use Rattle.std.specs.List.{find}
use Rattle.std.proofs.lemmas.List.{map_more}
use Rattle.std.proofs.lemmas.List.Elements.{All-nil, All-cons, All-head, All-tail, All-weaker}
use Rattle.tumbler.specs.Address.{IsDocument}
use Rattle.granfilade.specs.Content.{content, tree_rows}
use Rattle.granfilade.specs.Puts.{IsContent}
use Rattle.poom.specs.Laid.{IsRoot}
use Rattle.std.specs.Option.{option_map}
use Rattle.enfilade_core.specs.declared.tree.Node.{Node}
use Rattle.enfilade_core.specs.Rows.{Shape}
use Rattle.doc_table.specs.declared.rows.DocumentRow.{DocumentRow}
use Rattle.doc_table.specs.DocumentRows.{is_of, documents_in, content_in, with_roots}
use Rattle.links.specs.LinkLists.{LinkLists}
use Rattle.tree_world.specs.declared.going_on.OtherTrees.{OtherTrees}
use Rattle.tree_world.specs.OtherTrees.{with_others}
use Rattle.tree_world.specs.Trees.{Trees, IsCounted, AreCounted, root_allows, document_allows, is_marked, AreDue}
use Rattle.tree_world.proofs.Options.{one_value, none_there}
use Rattle.tree_world.proofs.Swept.{rooted_documents, rooted_contents, rooted_stand}

-- a document whose tree allows a step is there
allows_among : (nodes : List (Shape ℕ)) (rows : List (DocumentRow Node)) (d : List ℕ) → document_allows nodes rows d ≡ true → is_marked (documents_in rows) d ≡ true
allows_among nodes [] d allows = absurd (true≢false (sym allows))
allows_among nodes (row ∷ rows) d allows = step (is_of d row) allows (allows_among nodes rows d)
  where
    step : (b : Bool) → root_allows nodes (option_map (λ (r : DocumentRow Node). r.root) (cond b (Some (row)) (find (is_of d) rows))) ≡ true → (document_allows nodes rows d ≡ true → is_marked (documents_in rows) d ≡ true) → (b || is_marked (documents_in rows) d) ≡ true
    step true some rest = refl
    step false some rest = rest some

-- where each document is marked, so is each whose tree allows a step, whatever the trees are
pub all_due : (nodes : List (Shape ℕ)) (rows : List (DocumentRow Node)) (due : List (List ℕ)) → due ≡ documents_in rows → AreDue nodes rows due
all_due nodes rows due is = record { marked = λ d allows. subst (λ marks. is_marked marks d ≡ true) (sym is) (allows_among nodes rows d allows) }

-- ---- one document more

-- the row at a place, where its document was found
record HasDocument (rows : List (DocumentRow Node)) (k : ℕ) (d : List ℕ) : Type 0 where
  row : DocumentRow Node
  lt : k < length rows
  here : get_or rows k row ≡ row
  is : d ≡ row.document

document_here : (rows : List (DocumentRow Node)) (k : ℕ) (d : List ℕ) → Some d ≡ slice_get (documents_in rows) k → HasDocument rows k d
document_here [] k d e = absurd (none_there d e)
document_here (row ∷ rows) zero d e = record { row = row; lt = omega arith; here = refl; is = one_value d row.document e }
document_here (row ∷ rows) (suc k) d e =
    let at = document_here rows k d e in
    let less = at.lt in
    record { row = at.row; lt = omega (arith, less); here = at.here; is = at.is }

pub marks_more : (rows : List (DocumentRow Node)) (k : ℕ) (d : List ℕ) (old new : List (List ℕ)) → Some d ≡ slice_get (documents_in rows) k → old ≡ documents_in (take k rows) → new ≡ old ++ d ∷ [] → new ≡ documents_in (take (k + 1) rows)
marks_more rows k d old new e before pushed =
    let at = document_here rows k d e in
    pushed ∙ (λ i. before i ++ (at.is ∙ ap (λ (row : DocumentRow Node). row.document) (sym at.here)) i ∷ []) ∙ sym (map_more (λ (row : DocumentRow Node). row.document) rows k at.row at.lt)

-- ---- a world with other trees

to_addresses : (rows : List (DocumentRow Node)) → All (λ (row : DocumentRow Node). IsDocument row.document) rows → All IsDocument (documents_in rows)
to_addresses [] all = All-nil IsDocument
to_addresses (row ∷ rows) all =
    All-cons IsDocument row.document (documents_in rows) (All-head (λ (r : DocumentRow Node). IsDocument r.document) row rows all) (to_addresses rows (All-tail (λ (r : DocumentRow Node). IsDocument r.document) row rows all))

from_addresses : (rows : List (DocumentRow Node)) → All IsDocument (documents_in rows) → All (λ (row : DocumentRow Node). IsDocument row.document) rows
from_addresses [] all = All-nil (λ (r : DocumentRow Node). IsDocument r.document)
from_addresses (row ∷ rows) all =
    All-cons (λ (r : DocumentRow Node). IsDocument r.document) row rows (All-head IsDocument row.document (documents_in rows) all) (from_addresses rows (All-tail IsDocument row.document (documents_in rows) all))

-- the world is as it is with the others
pub is_with : (other : OtherTrees) (due : List (List ℕ)) (before old : Trees) (documents : List (DocumentRow Node)) (links : LinkLists) → before ≡ old → documents ≡ with_roots other.roots.items before.documents
    → links ≡ record { links = before.links.links; from = other.from; to = other.to; three = other.three }
    → record before { contents = other.contents; nodes = other.pooms; documents = documents; index = other.index; links = links; due = due } ≡ with_others other due old
is_with other due before old documents links is now linked =
    (λ i. record before { contents = other.contents; nodes = other.pooms; documents = now i; index = other.index; links = linked i; due = due }) ∙ ap (with_others other due) is

-- and it is sound
pub sound_with : (other : OtherTrees) (due : List (List ℕ)) (before old : Trees) (documents : List (DocumentRow Node)) → before ≡ old → documents ≡ with_roots other.roots.items before.documents → due ≡ documents_in before.documents
    → IsContent (tree_rows other.contents) → AreCounted old.documents other.contents → length other.roots.items ≡ length old.documents → All (λ (root : Node). IsRoot other.pooms root.0) other.roots.items
    → All (λ (row : DocumentRow Node). IsDocument row.document) before.documents
    → All (λ (row : DocumentRow Node). IsRoot other.pooms row.root.0) documents × All (λ (row : DocumentRow Node). IsDocument row.document) documents × IsContent (tree_rows other.contents) × AreCounted documents other.contents × AreDue other.pooms documents due
sound_with other due before old documents is now are content_is counted long roots addresses =
    let names : documents_in documents ≡ documents_in before.documents = ap documents_in now ∙ rooted_documents before.documents other.roots.items in
    let had : AreCounted before.documents other.contents = subst (λ (t : Trees). AreCounted t.documents other.contents) (sym is) counted in
    let each : length other.roots.items ≡ length before.documents = subst (λ (t : Trees). length other.roots.items ≡ length t.documents) (sym is) long in (
      subst (λ rows. All (λ (row : DocumentRow Node). IsRoot other.pooms row.root.0) rows) (sym now) (rooted_stand other.pooms before.documents other.roots.items each roots),
      from_addresses documents (subst (λ ds. All IsDocument ds) (sym names) (to_addresses before.documents addresses)),
      content_is,
      All-weaker (IsCounted before.documents) (IsCounted documents) (λ at h d n e. subst (λ k. n ≤ k) (sym (ap (λ ds. content_in ds d) now ∙ rooted_contents before.documents other.roots.items d)) (h d n e)) (content other.contents) had,
      all_due other.pooms documents due (are ∙ sym names),
    )
