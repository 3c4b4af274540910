-- Contents and documents' trees of a world are right beside its tables.
use Rattle.std.proofs.Common.{◌≡◌, ◌∙◌, ℕ, ◌+◌, ◌<◌, List, [], ◌∷◌, length, map, refl, sym, ap, subst}
use Rattle.std.specs.Prelude.{IsPermutation, filter}
use Rattle.std.specs.List.{All, Contains, list_any}
use Rattle.std.proofs.lemmas.List.Elements.{All-map, All-weaker, All-contains_itself, All-contains, All-nil, All-cons, All-head, All-tail}
use Rattle.std.proofs.lemmas.List.Sorted.{list_any-IsPermutation}
use Rattle.tumbler.specs.Address.{IsDocument}
use Rattle.enfilade_core.specs.declared.tree.Node.{Node}
use Rattle.enfilade_core.specs.Rows.{rows_of}
use Rattle.granfilade.specs.Content.{tree_rows, laid_out}
use Rattle.granfilade.specs.Puts.{IsContent}
use Rattle.poom.specs.Laid as laid
use Rattle.doc_table.specs.declared.rows.DocumentRow.{DocumentRow}
use Rattle.doc_table.specs.DocumentRows.{documents_in}
use Rattle.world_rules.specs.declared.rows.Part.TheVariants.{Text, Links}
use Rattle.world_rules.specs.declared.rows.Row.{Row}
use Rattle.world_rules.specs.World.{World, LinkRow, is_same}
use Rattle.world_rules.specs.Edits.{new_rows}
use Rattle.world_rules.specs.FlatView.{FlatView}
use Rattle.world_elders.specs.Whole.{IsByteThere, IsLinkThere}
use Rattle.tree_world.specs.Trees.{Trees, AreSound, text_in, links_in, links_at}
use Rattle.tree_world.specs.Standing.{Stands, link_rows}
use Rattle.tree_world.proofs.Lists.{any_map}
use Rattle.tree_world.proofs.Ordered.{contents_ascend}
use Rattle.page_tables.specs.declared.tables.TableDocument.{TableDocument}
use Rattle.page_tables.specs.Plain.{PlainLink}
use Rattle.content_checks.specs.Listed.{listed_bytes, listed_ids}
use Rattle.content_checks.specs.Sound.{AreContents, IsShown, byte_addresses}
use Rattle.content_checks.specs.Sound as contents
use Rattle.world_pages.specs.Pages.{table_document, table_link, tables_of_world}
use Rattle.world_pages.proofs.Listed.{Rise, has, same_lists, contains_has}
use Rattle.world_pages.proofs.Documents.{Rows, addresses_same, root_found}
use Rattle.world_pages.proofs.World.{IsKept}
use Rattle.world_pages.proofs.Bytes.{there_listed, same_bytes}
use Rattle.world_pages.proofs.Rising.{addresses_rise, listed_rise}
use Rattle.world_pages.proofs.Held.{text_of_row}

-- ---- what rows show

text_addresses : (P : List ℕ → Type 0) (d : List ℕ) (n : ℕ) (addresses : List (List ℕ)) → All (λ (row : Row). P row.address) (new_rows d n addresses) → All P addresses
text_addresses P d n [] all = All-nil P
text_addresses P d n (a ∷ addresses) all =
    let row : Row = record { document = d; part = Text; n = n; address = a } in
    All-cons P a addresses (All-head (λ (r : Row). P r.address) row (new_rows d (n + 1) addresses) all) (text_addresses P d (n + 1) addresses (All-tail (λ (r : Row). P r.address) row (new_rows d (n + 1) addresses) all))

link_addresses : (P : List ℕ → Type 0) (d : List ℕ) (n : ℕ) (ids : List (List ℕ)) → All (λ (row : Row). P row.address) (link_rows d n ids) → All P ids
link_addresses P d n [] all = All-nil P
link_addresses P d n (a ∷ ids) all =
    let row : Row = record { document = d; part = Links; n = n; address = a } in
    All-cons P a ids (All-head (λ (r : Row). P r.address) row (link_rows d (n + 1) ids) all) (link_addresses P d (n + 1) ids (All-tail (λ (r : Row). P r.address) row (link_rows d (n + 1) ids) all))

-- ---- one document

module _ (trees : Trees) (view : FlatView) (stands : Stands trees view) (sound : AreSound trees) (up : Rise (documents_in trees.documents)) (kept : IsKept view.world) where
  text_listed : (a : List ℕ) → IsByteThere view.world a → Contains (listed_bytes (map table_document trees.documents)) a
  text_listed a is = contains_has (listed_bytes (map table_document trees.documents)) a (there_listed trees.documents view.world stands.documents up stands.counts a is)

  text_shown : (row : DocumentRow Node) → Contains trees.documents row → All (Contains (listed_bytes (map table_document trees.documents))) (laid.texts (rows_of trees.nodes row.root.0))
  text_shown row c =
      let there : All (IsByteThere view.world) (text_in trees row.document) =
      text_addresses (IsByteThere view.world) row.document 1 (text_in trees row.document) (subst (All (λ (r : Row). IsByteThere view.world r.address)) (stands.texts row.document) (kept.shown row.document)) in
      subst (All (Contains (listed_bytes (map table_document trees.documents)))) (text_of_row trees row up c)
      (All-weaker (IsByteThere view.world) (Contains (listed_bytes (map table_document trees.documents))) text_listed (text_in trees row.document) there)

  link_listed : (a : List ℕ) → IsLinkThere view.world a → Contains (listed_ids (map table_link trees.links.links)) a
  link_listed a is =
      contains_has (listed_ids (map table_link trees.links.links)) a
      (any_map (λ x. is_same x a) (λ (link : PlainLink). link.id) (map table_link trees.links.links)
      ∙ any_map (λ (link : PlainLink). is_same link.id a) table_link trees.links.links
      ∙ list_any-IsPermutation (λ (link : LinkRow). is_same link.id a) trees.links.links view.world.links stands.link_table
      ∙ kept.links a is)

  link_shown : (row : DocumentRow Node) → Contains trees.documents row → All (Contains (listed_ids (map table_link trees.links.links))) (laid.links (rows_of trees.nodes row.root.0))
  link_shown row c =
      let there : All (IsLinkThere view.world) (links_in trees row.document) =
      link_addresses (IsLinkThere view.world) row.document 1 (links_in trees row.document) (subst (All (λ (r : Row). IsLinkThere view.world r.address)) (stands.links row.document) (kept.named row.document)) in
      subst (All (Contains (listed_ids (map table_link trees.links.links)))) (ap (links_at trees.nodes) (root_found trees.documents row up c))
      (All-weaker (IsLinkThere view.world) (Contains (listed_ids (map table_link trees.links.links))) link_listed (links_in trees row.document) there)

  each_shown : All (λ (row : TableDocument). IsShown trees.nodes (tables_of_world trees) row.root) (map table_document trees.documents)
  each_shown =
      All-map (λ (row : TableDocument). IsShown trees.nodes (tables_of_world trees) row.root) table_document trees.documents
      (All-weaker (Contains trees.documents) (λ (row : DocumentRow Node). IsShown trees.nodes (tables_of_world trees) row.root.0)
      (λ row c. record { root = All-contains (λ (r : DocumentRow Node). laid.IsRoot trees.nodes r.root.0) trees.documents row sound.0 c; text = text_shown row c; link = link_shown row c })
      trees.documents (All-contains_itself trees.documents))

  -- ---- all contents

  bytes_listed : byte_addresses (tree_rows trees.contents) ≡ listed_bytes (map table_document trees.documents)
  bytes_listed =
      same_lists (byte_addresses (tree_rows trees.contents)) (listed_bytes (map table_document trees.documents))
      (addresses_rise (laid_out (tree_rows trees.contents)) (contents_ascend (tree_rows trees.contents) sound.2))
      (listed_rise (map table_document trees.documents) (All-map (λ (row : TableDocument). IsDocument row.document) table_document trees.documents sound.1) (subst Rise (sym (addresses_same trees.documents)) up))
      (same_bytes trees.documents view.world stands.documents up stands.counts (tree_rows trees.contents) stands.bytes kept)

  pub contents_sound : trees.contents.root < length trees.contents.nodes → contents.AreSound trees.contents.nodes trees.nodes (tables_of_world trees)
  contents_sound below = record { there = below; content = record { content = sound.2; bytes = bytes_listed }; each = each_shown }
