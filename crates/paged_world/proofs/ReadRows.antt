-- Documents of tables that were read, beside those of a world.
use Rattle.std.proofs.Common.{◌≡◌, ◌∙◌, ℕ, Bool, true, false, cond, List, [], ◌∷◌, length, map, Option, Some, None, refl, sym, ap, arith}
use Rattle.std.specs.List.{find}
use Rattle.std.specs.Option.{option_map, unwrap_or}
use Rattle.enfilade_core.specs.declared.tree.Node.{Node}
use Rattle.enfilade_core.specs.Rows.{Shape, rows_of}
use Rattle.doc_table.specs.declared.rows.DocumentRow.{DocumentRow}
use Rattle.doc_table.specs.DocumentRows.{is_of, documents_in, root_in, content_in, published_in, with_roots}
use Rattle.page_tables.specs.declared.tables.TableDocument.{TableDocument}
use Rattle.tree_compare.specs.RowAddresses.{ShowSame}
use Rattle.world_rules.specs.World.{is_same}
use Rattle.tree_world.specs.Trees.{text_at, links_at}
use Rattle.world_pages.specs.Pages.{table_document}
use Rattle.paged_world.specs.inside.Same.{root_of_row, without_root, ShowAllSame}
use Rattle.paged_world.proofs.Alongside.{heads, tails, none_is}

abbrev pub Row : Type 0
Row = DocumentRow Node

-- a document of tables, as a row of a world whose own row has this mark: pages hold none
abbrev pub document_row : Bool → TableDocument → Row
document_row mark row = record { document = row.document; root = root_of_row row; content = row.content; published = mark }

-- documents of tables beside the world's own rows, whose marks they get
abbrev pub rows_read : List Row → List TableDocument → List Row
rows_read rows [] = []
rows_read [] (other ∷ read) = []
rows_read (row ∷ rows) (other ∷ read) = document_row row.published other ∷ rows_read rows read

-- ---- the same documents with as many bytes

-- rows of a world, and of tables that were read, are of the same documents with as many bytes of content each
abbrev pub Alike : List Row → List TableDocument → Type 0
Alike rows read = map without_root (map table_document rows) ≡ map without_root read

module _ (row : Row) (rows : List Row) (other : TableDocument) (read : List TableDocument) (same : Alike (row ∷ rows) (other ∷ read)) where
  head_alike : without_root (table_document row) ≡ without_root other
  head_alike = heads (without_root (table_document row)) (without_root other) (map without_root (map table_document rows)) (map without_root read) same

  pub tail_alike : Alike rows read
  tail_alike = tails (without_root (table_document row)) (without_root other) (map without_root (map table_document rows)) (map without_root read) same

  address_alike_there : row.document ≡ other.document
  address_alike_there = ap (λ (r : TableDocument). r.document) head_alike

  content_alike : row.content ≡ other.content
  content_alike = ap (λ (r : TableDocument). r.content) head_alike

pub alike_documents : (rows : List Row) (read : List TableDocument) → Alike rows read → documents_in (rows_read rows read) ≡ documents_in rows
alike_documents [] [] same = refl
alike_documents [] (other ∷ read) same = absurd (none_is (without_root other) (map without_root read) same)
alike_documents (row ∷ rows) [] same = absurd (none_is (without_root (table_document row)) (map without_root (map table_document rows)) (sym same))
alike_documents (row ∷ rows) (other ∷ read) same = λ i. sym (address_alike_there row rows other read same) i ∷ alike_documents rows read (tail_alike row rows other read same) i

abbrev content_of : Option Row → ℕ
content_of found = unwrap_or (option_map (λ (row : Row). row.content) found) 0

pub alike_counts : (rows : List Row) (read : List TableDocument) → Alike rows read → (d : List ℕ) → content_in (rows_read rows read) d ≡ content_in rows d
alike_counts [] [] same d = refl
alike_counts [] (other ∷ read) same d = absurd (none_is (without_root other) (map without_root read) same)
alike_counts (row ∷ rows) [] same d = absurd (none_is (without_root (table_document row)) (map without_root (map table_document rows)) (sym same))
alike_counts (row ∷ rows) (other ∷ read) same d =
    ap (λ a. content_of (cond (is_same a d) (Some (document_row row.published other)) (find (is_of d) (rows_read rows read)))) (sym (address_alike_there row rows other read same))
    ∙ step (is_same row.document d) (alike_counts rows read (tail_alike row rows other read same) d)
  where
    step : (b : Bool) → content_in (rows_read rows read) d ≡ content_in rows d → content_of (cond b (Some (document_row row.published other)) (find (is_of d) (rows_read rows read))) ≡ content_of (cond b (Some row) (find (is_of d) rows))
    step true rest = sym (content_alike row rows other read same)
    step false rest = rest

abbrev mark_of : Option Row → Bool
mark_of found = unwrap_or (option_map (λ (row : Row). row.published) found) false

-- the marks stay those of the world
pub alike_marks : (rows : List Row) (read : List TableDocument) → Alike rows read → (d : List ℕ) → published_in (rows_read rows read) d ≡ published_in rows d
alike_marks [] [] same d = refl
alike_marks [] (other ∷ read) same d = absurd (none_is (without_root other) (map without_root read) same)
alike_marks (row ∷ rows) [] same d = absurd (none_is (without_root (table_document row)) (map without_root (map table_document rows)) (sym same))
alike_marks (row ∷ rows) (other ∷ read) same d =
    ap (λ a. mark_of (cond (is_same a d) (Some (document_row row.published other)) (find (is_of d) (rows_read rows read)))) (sym (address_alike_there row rows other read same))
    ∙ step (is_same row.document d) (alike_marks rows read (tail_alike row rows other read same) d)
  where
    step : (b : Bool) → published_in (rows_read rows read) d ≡ published_in rows d → mark_of (cond b (Some (document_row row.published other)) (find (is_of d) (rows_read rows read))) ≡ mark_of (cond b (Some row) (find (is_of d) rows))
    step true rest = refl
    step false rest = rest

-- the rows with other roots
pub alike_rooted : (rows : List Row) (read : List TableDocument) → Alike rows read → with_roots (map root_of_row read) rows ≡ rows_read rows read
alike_rooted [] [] same = refl
alike_rooted [] (other ∷ read) same = absurd (none_is (without_root other) (map without_root read) same)
alike_rooted (row ∷ rows) [] same = absurd (none_is (without_root (table_document row)) (map without_root (map table_document rows)) (sym same))
alike_rooted (row ∷ rows) (other ∷ read) same =
    λ i. record { document = address_alike_there row rows other read same i; root = root_of_row other; content = content_alike row rows other read same i; published = row.published } ∷ alike_rooted rows read (tail_alike row rows other read same) i

pub alike_long : (rows : List Row) (read : List TableDocument) → Alike rows read → length (map root_of_row read) ≡ length rows
alike_long [] [] same = refl
alike_long [] (other ∷ read) same = absurd (none_is (without_root other) (map without_root read) same)
alike_long (row ∷ rows) [] same = absurd (none_is (without_root (table_document row)) (map without_root (map table_document rows)) (sym same))
alike_long (row ∷ rows) (other ∷ read) same = omega (arith, alike_long rows read (tail_alike row rows other read same))

-- ---- what is read off a document's tree

module _ (nodes more : List (Shape ℕ)) where
  -- read off alike wherever two documents show the same
  abbrev pub ReadsAlike : (List (Shape ℕ) → Option Node → List (List ℕ)) → Type 0
  ReadsAlike reads = (one other : Node) → ShowSame (rows_of nodes one.0) (rows_of more other.0) → reads more (Some other) ≡ reads nodes (Some one)

  pub texts_alike : ReadsAlike text_at
  texts_alike one other same = sym same.texts

  pub links_alike : ReadsAlike links_at
  links_alike one other same = sym same.links

  module _ (reads : List (Shape ℕ) → Option Node → List (List ℕ)) (none : reads more None ≡ reads nodes None) (alike : ReadsAlike reads) where
    pub shown_alike : (rows : List Row) (read : List TableDocument) → Alike rows read → ShowAllSame nodes (map table_document rows) more read → (d : List ℕ) → reads more (root_in (rows_read rows read) d) ≡ reads nodes (root_in rows d)
    shown_alike [] [] same show d = none
    shown_alike [] (other ∷ read) same show d = absurd (none_is (without_root other) (map without_root read) same)
    shown_alike (row ∷ rows) [] same show d = absurd (none_is (without_root (table_document row)) (map without_root (map table_document rows)) (sym same))
    shown_alike (row ∷ rows) (other ∷ read) same show d =
        ap (λ a. reads more (option_map (λ (r : Row). r.root) (cond (is_same a d) (Some (document_row row.published other)) (find (is_of d) (rows_read rows read))))) (sym (address_alike_there row rows other read same))
        ∙ step (is_same row.document d) (shown_alike rows read (tail_alike row rows other read same) show.1 d)
      where
        step : (b : Bool) → reads more (root_in (rows_read rows read) d) ≡ reads nodes (root_in rows d)
            → reads more (option_map (λ (r : Row). r.root) (cond b (Some (document_row row.published other)) (find (is_of d) (rows_read rows read)))) ≡ reads nodes (option_map (λ (r : Row). r.root) (cond b (Some row) (find (is_of d) rows)))
        step true rest = alike row.root (root_of_row other) show.0
        step false rest = rest
