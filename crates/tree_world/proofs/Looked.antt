-- What look-ups in trees and tables come to in a world that they stand for.
use Rattle.std.proofs.Common.{◌≡◌, ◌∙◌, ℕ, suc, ◌+◌, ◌<◌, ◌++◌, Bool, true, false, List, [], ◌∷◌, length, Option, Some, None, cond, refl, sym, ap, subst, lt-ltb, IsPermutation}
use Rattle.std.specs.Prelude.{All, count_by}
use Rattle.std.specs.List.{find, list_any}
use Rattle.std.specs.Option.{option_map}
use Rattle.std.proofs.lemmas.List.Sorted.{list_any-IsPermutation, sum_by-IsPermutation}
use Rattle.std.proofs.lemmas.List.Sums.{length-filter}
use Rattle.std.proofs.lemmas.List.Elements.{All-head, All-tail}
use Rattle.tree_world.proofs.Options.{one_value, none_there}
use Rattle.enfilade_core.specs.declared.tree.Node.{Node}
use Rattle.doc_table.specs.declared.rows.DocumentRow.{DocumentRow}
use Rattle.tumbler.specs.Address.{IsDocumentOf}
use Rattle.doc_table.specs.DocumentRows.{version_address_in, documents_in, has_in, root_in, is_of}
use Rattle.poom.specs.Laid.{IsRoot}
use Rattle.enfilade_core.specs.Rows.{Shape}
use Rattle.links.specs.LinkLists.{count_of_home_in}
use Rattle.world_rules.specs.World.{LinkRow, is_same}
use Rattle.world_rules.proofs.Specs.{list_any-map}
use Rattle.world_rules.proofs.Accounts.{of_its_account}
use Rattle.world_rules.specs.World.{is_text_of, is_link_of, is_child_of, is_of_account, next_below, text_length, link_length}
use Rattle.world_rules.specs.Edits.{new_rows}
use Rattle.world_rules.specs.FlatView.{FlatView}
use Rattle.enfilade_core.specs.Rows.{rows_of}
use Rattle.poom.specs.Laid.{texts, links}
use Rattle.tree_world.specs.Trees.{Trees, text_at, links_at, text_in, links_in}
use Rattle.tree_world.specs.Standing.{Stands, link_rows}

-- ---- documents

pub document_seen : (rows : List (DocumentRow Node)) (documents : List (List ℕ)) (document : List ℕ) → IsPermutation (documents_in rows) documents → has_in rows document ≡ list_any (λ d. is_same d document) documents
document_seen rows documents document moved =
    sym (list_any-map (λ (row : DocumentRow Node). row.document) (λ d. is_same d document) rows) ∙ list_any-IsPermutation (λ d. is_same d document) (documents_in rows) documents moved

pub as_many : (p : List ℕ → Bool) (xs ys : List (List ℕ)) → IsPermutation xs ys → count_by p xs ≡ count_by p ys
as_many p xs ys moved = sym (sum_by-IsPermutation (λ x. cond (p x) 1 0) xs ys moved)

-- ---- links

pub made_in : (links others : List LinkRow) (home : List ℕ) → IsPermutation links others → count_of_home_in links home ≡ count_by (λ (l : LinkRow). is_same l.home home) others
made_in links others home moved = sym (sum_by-IsPermutation (λ (l : LinkRow). cond (is_same l.home home) 1 0) links others moved)

-- ---- versions

-- under a document's own account, its next version is the next below it
pub version_below : (documents others : List (List ℕ)) (document account : List ℕ) → IsDocumentOf document account → length document < 20 → IsPermutation documents others
    → version_address_in documents document account ≡ next_below others document
version_below documents others document account of room moved =
    let owned : is_of_account account document ≡ true = (of_its_account account document account of.account_address of).1 refl in
    rw (owned, lt-ltb (length document) 20 room) (ap (λ n. document ++ (n + 1) ∷ []) (as_many (is_child_of document) documents others moved))

-- ---- rows

length-new_rows : (document : List ℕ) (n : ℕ) (addresses : List (List ℕ)) → length (new_rows document n addresses) ≡ length addresses
length-new_rows document n [] = refl
length-new_rows document n (address ∷ addresses) = ap suc (length-new_rows document (n + 1) addresses)

length-link_rows : (document : List ℕ) (n : ℕ) (ids : List (List ℕ)) → length (link_rows document n ids) ≡ length ids
length-link_rows document n [] = refl
length-link_rows document n (id ∷ ids) = ap suc (length-link_rows document (n + 1) ids)

-- ---- roots

pub found_holds : (P : DocumentRow Node → Type 0) (rows : List (DocumentRow Node)) (document : List ℕ) (row : DocumentRow Node) → All P rows → find (is_of document) rows ≡ Some row → P row
found_holds P [] document row all e = absurd (none_there row (sym e))
found_holds P (r ∷ rows) document row all e = step (is_of document r) e (found_holds P rows document row (All-tail P r rows all))
  where
    step : (b : Bool) → cond b (Some r) (find (is_of document) rows) ≡ Some row → (find (is_of document) rows ≡ Some row → P row) → P row
    step true h later = subst P (one_value r row h) (All-head P r rows all)
    step false h later = later h

-- the root that is looked up is a document's
pub root_stands : (nodes : List (Shape ℕ)) (rows : List (DocumentRow Node)) (document : List ℕ) (root : Node) → All (λ (row : DocumentRow Node). IsRoot nodes row.root.0) rows → Some root ≡ root_in rows document → IsRoot nodes root.0
root_stands nodes rows document root all is = step (find (is_of document) rows) refl (sym is)
  where
    step : (found : Option (DocumentRow Node)) → find (is_of document) rows ≡ found → option_map (λ (row : DocumentRow Node). row.root) found ≡ Some root → IsRoot nodes root.0
    step None e h = absurd (none_there root (sym h))
    step (Some row) e h = subst (λ (r : Node). IsRoot nodes r.0) (one_value row.root root h) (found_holds (λ r. IsRoot nodes r.root.0) rows document row all e)

-- ---- lengths

module _ (trees shown : Trees) (view : FlatView) (document : List ℕ) where
  pub as_long_text : (root : Node) → trees ≡ shown → Some root ≡ root_in trees.documents document → Stands shown view → length (texts (rows_of trees.nodes root.0)) ≡ text_length view.world document
  as_long_text root same is stands =
      ap (λ (found : Option Node). length (text_at trees.nodes found)) is
      ∙ ap (λ (t : Trees). length (text_in t document)) same
      ∙ sym (length-new_rows document 1 (text_in shown document)) ∙ ap length (sym (stands.texts document)) ∙ length-filter (is_text_of document) view.world.rows

  pub no_text : trees ≡ shown → None ≡ root_in trees.documents document → Stands shown view → 0 ≡ text_length view.world document
  no_text same is stands =
      ap (λ (found : Option Node). length (text_at trees.nodes found)) is
      ∙ ap (λ (t : Trees). length (text_in t document)) same
      ∙ sym (length-new_rows document 1 (text_in shown document)) ∙ ap length (sym (stands.texts document)) ∙ length-filter (is_text_of document) view.world.rows

  pub as_many_links : (root : Node) → trees ≡ shown → Some root ≡ root_in trees.documents document → Stands shown view → length (links (rows_of trees.nodes root.0)) ≡ link_length view.world document
  as_many_links root same is stands =
      ap (λ (found : Option Node). length (links_at trees.nodes found)) is
      ∙ ap (λ (t : Trees). length (links_in t document)) same
      ∙ sym (length-link_rows document 1 (links_in shown document)) ∙ ap length (sym (stands.links document)) ∙ length-filter (is_link_of document) view.world.rows

  pub no_links : trees ≡ shown → None ≡ root_in trees.documents document → Stands shown view → 0 ≡ link_length view.world document
  no_links same is stands =
      ap (λ (found : Option Node). length (links_at trees.nodes found)) is
      ∙ ap (λ (t : Trees). length (links_in t document)) same
      ∙ sym (length-link_rows document 1 (links_in shown document)) ∙ ap length (sym (stands.links document)) ∙ length-filter (is_link_of document) view.world.rows
