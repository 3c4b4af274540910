-- Documents and links of a world, one after another as rows of tables.
use Rattle.std.proofs.Common.{◌≡◌, ◌∙◌, ℕ, ◌+◌, List, [], ◌∷◌, ◌++◌, map, take, Some, sym, ap}
use Rattle.std.specs.List.{slice_get}
use Rattle.std.specs.Option.{option_map}
use Rattle.std.proofs.lemmas.Option.{slice_get-map, slice_get_within, get_or_from_slice_get}
use Rattle.std.proofs.lemmas.List.{map_more, map-append}
use Rattle.enfilade_core.specs.declared.tree.Node.{Node}
use Rattle.doc_table.specs.DocumentRows.{documents_in, content_in}
use Rattle.page_tables.specs.declared.tables.TableDocument.{TableDocument}
use Rattle.page_tables.specs.declared.tables.TableLink.{TableLink}
use Rattle.page_tables.specs.Plain.{plain_link}
use Rattle.world_rules.specs.World.{LinkRow}
use Rattle.tree_world.proofs.Balanced.{Ascend, HasRoot, row_at}
use Rattle.tree_world.proofs.Options.{one_value}
use Rattle.world_pages.specs.Pages.{table_document, table_link}
use Rattle.world_pages.proofs.Documents.{content_found}
use Rattle.paged_world.proofs.ReadRows.{Row}

-- one more of a list, as another list has it
more : {X Y : Type 0} (f : X → Y) (xs : List X) (k : ℕ) (x : X) → slice_get xs k ≡ Some x → map f (take (k + 1) xs) ≡ map f (take k xs) ++ f x ∷ []
more f xs k x here = map_more f xs k x (slice_get_within xs k x here) ∙ ap (λ y. map f (take k xs) ++ f y ∷ []) (get_or_from_slice_get xs k x x here)

pub document_more : (rows : List Row) (k : ℕ) (document : List ℕ) (root : Node) (made new : List TableDocument) (item : TableDocument) → Ascend rows
    → Some document ≡ slice_get (documents_in rows) k → Some root ≡ option_map (λ (row : Row). row.root) (slice_get rows k) → item.document ≡ document → item.root ≡ root.0 → item.content ≡ content_in rows document
    → new ≡ made ++ item ∷ [] → made ≡ map table_document (take k rows) → new ≡ map table_document (take (k + 1) rows)
document_more rows k document root made new item up own rooted document_is root_is content_is pushed before =
    let at : HasRoot rows k root = row_at rows k root (sym rooted) in
    let same : document ≡ at.row.document = one_value document at.row.document (own ∙ slice_get-map (λ (row : Row). row.document) rows k ∙ ap (option_map (λ (row : Row). row.document)) at.here) in
    let content : item.content ≡ at.row.content =
    content_is ∙ ap (content_in rows) same ∙ content_found rows at.row up (k, slice_get_within rows k at.row at.here, get_or_from_slice_get rows k at.row at.row at.here) in
    let its : item.root ≡ at.row.root.0 = root_is ∙ ap (λ (node : Node). node.0) (sym at.is) in
    let name : item.document ≡ at.row.document = document_is ∙ same in
    pushed ∙ (λ i. before i ++ record { document = name i; root = its i; content = content i } ∷ []) ∙ sym (more table_document rows k at.row at.here)

pub link_more : (links : List LinkRow) (k : ℕ) (link : LinkRow) (made new : List TableLink) (last : TableLink) → Some link ≡ slice_get links k → plain_link last ≡ table_link link → new ≡ made ++ last ∷ [] → map plain_link made ≡ map table_link (take k links)
    → map plain_link new ≡ map table_link (take (k + 1) links)
link_more links k link made new last here is pushed before =
    ap (map plain_link) pushed ∙ map-append plain_link made (last ∷ []) ∙ (λ i. before i ++ is i ∷ []) ∙ sym (more table_link links k link (sym here))
