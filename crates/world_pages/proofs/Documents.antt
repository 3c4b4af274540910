-- Documents of a table: where their rows stand, and whether they are in a world.
use Rattle.std.proofs.Common.{◌≡◌, ◌∙◌, ℕ, zero, suc, ◌+◌, ◌<◌, Bool, true, false, cond, List, [], ◌∷◌, ◌++◌, length, map, get_or, Option, Some, None, refl, sym, ap, subst, arith, inl, inr, true≢false, Less}
use Rattle.std.specs.Prelude.{IsPermutation}
use Rattle.std.specs.Option.{option_map, unwrap_or}
use Rattle.std.specs.List.{All, Contains, list_any, find}
use Rattle.std.specs.List.Sorted.{IsStrictlySortedBy}
use Rattle.std.specs.Ordering.{nat_cmp, is_eq}
use Rattle.std.specs.Cmp.Lexicographic.{slice_cmp, texts_ties, bytes_decides}
use Rattle.std.proofs.lemmas.Bool.{or_cases}
use Rattle.std.proofs.lemmas.List.Elements.{Contains-append_right, All-contains}
use Rattle.std.proofs.lemmas.List.Folds.{list_any_at}
use Rattle.std.proofs.lemmas.List.Sorted.{list_any-IsPermutation}
use Rattle.std.proofs.lemmas.Map.Keys.{sorted_tail}
use Rattle.std.proofs.lemmas.Map.Views.{All-after_first}
use Rattle.tumbler.proofs.Alls.{All-unmapped}
use Rattle.enfilade_core.specs.declared.tree.Node.{Node}
use Rattle.doc_table.specs.declared.rows.DocumentRow.{DocumentRow}
use Rattle.doc_table.specs.DocumentRows.{is_of, documents_in, has_in, root_in, content_in}
use Rattle.world_rules.specs.World.{is_same}
use Rattle.world_rules.proofs.RowsWith.{same_itself}
use Rattle.tree_world.proofs.Lists.{any_map}
use Rattle.page_tables.specs.declared.tables.TableDocument.{TableDocument}
use Rattle.table_checks.specs.TableRows.{addresses_of, is_listed}
use Rattle.table_checks.specs.TableRows as tables
use Rattle.world_pages.specs.Pages.{table_document}
use Rattle.world_pages.proofs.Listed.{Rise}

abbrev pub Rows : Type 0
Rows = List (DocumentRow Node)

-- ---- the table on pages

pub addresses_same : (rows : Rows) → addresses_of (map table_document rows) ≡ documents_in rows
addresses_same [] = refl
addresses_same (row ∷ rows) = ap (λ (ds : List (List ℕ)). row.document ∷ ds) (addresses_same rows)

pub listed_same : (rows : Rows) (d : List ℕ) → is_listed (map table_document rows) d ≡ has_in rows d
listed_same rows d = any_map (tables.is_of d) table_document rows

-- ---- a row that is there

pub row_there : (rows : Rows) (row : DocumentRow Node) → Contains rows row → has_in rows row.document ≡ true
row_there rows row c = list_any_at (is_of row.document) rows c.0 row c.1 (ap (λ (r : DocumentRow Node). is_same r.document row.document) c.2 ∙ same_itself row.document)

-- the row of a document that is there
pub record RowOf (rows : Rows) (d : List ℕ) : Type 0 where
  pub row : DocumentRow Node
  pub there : Contains rows row
  pub own : row.document ≡ d

pub row_of : (rows : Rows) (d : List ℕ) → has_in rows d ≡ true → RowOf rows d
row_of [] d e = absurd (true≢false (sym e))
row_of (r ∷ rows) d e = elim (or_cases (is_of d r) (has_in rows d) e) [
  | inl here ↦ record { row = r; there = (0, omega arith, refl); own = (bytes_decides r.document d).0 here }
  | inr later ↦ let found = row_of rows d later in record { row = found.row; there = Contains-append_right (r ∷ []) rows found.row found.there; own = found.own }
]

-- ---- what is found for it

behind : (r : DocumentRow Node) (rows : Rows) (row : DocumentRow Node) → Rise (documents_in (r ∷ rows)) → Contains rows row → is_of row.document r ≡ false
behind r rows row up c =
    let less : slice_cmp nat_cmp r.document row.document ≡ Less =
    All-contains (λ (x : DocumentRow Node). slice_cmp nat_cmp r.document x.document ≡ Less) rows row
    (All-unmapped (λ (q : List ℕ). slice_cmp nat_cmp r.document q ≡ Less) (λ (x : DocumentRow Node). x.document) rows (All-after_first (slice_cmp nat_cmp) r.document (documents_in rows) up)) c in
    texts_ties r.document row.document ∙ ap is_eq less

found_at : (rows : Rows) (row : DocumentRow Node) (k : ℕ) → Rise (documents_in rows) → k < length rows → get_or rows k row ≡ row → find (is_of row.document) rows ≡ Some row
found_at [] row k up lt e = absurd (omega (arith, lt))
found_at (r ∷ rows) row zero up lt e =
    ap (λ (b : Bool). cond b (Some r) (find (is_of row.document) rows)) (ap (λ (x : DocumentRow Node). is_same x.document row.document) e ∙ same_itself row.document) ∙ ap Some e
found_at (r ∷ rows) row (suc k) up lt e =
    ap (λ (b : Bool). cond b (Some r) (find (is_of row.document) rows)) (behind r rows row up (k, omega (arith, lt), e))
    ∙ found_at rows row k (sorted_tail (slice_cmp nat_cmp) r.document (documents_in rows) up) (omega (arith, lt)) e

pub found : (rows : Rows) (row : DocumentRow Node) → Rise (documents_in rows) → Contains rows row → find (is_of row.document) rows ≡ Some row
found rows row up c = found_at rows row c.0 up c.1 c.2

pub root_found : (rows : Rows) (row : DocumentRow Node) → Rise (documents_in rows) → Contains rows row → root_in rows row.document ≡ Some row.root
root_found rows row up c = ap (option_map (λ (x : DocumentRow Node). x.root)) (found rows row up c)

pub content_found : (rows : Rows) (row : DocumentRow Node) → Rise (documents_in rows) → Contains rows row → content_in rows row.document ≡ row.content
content_found rows row up c = ap (λ (o : Option (DocumentRow Node)). unwrap_or (option_map (λ (x : DocumentRow Node). x.content) o) 0) (found rows row up c)

-- ---- the world's documents

pub there_same : (rows : Rows) (documents : List (List ℕ)) → IsPermutation (documents_in rows) documents → (d : List ℕ) → has_in rows d ≡ list_any (λ x. is_same x d) documents
there_same rows documents moved d =
    sym (any_map (λ x. is_same x d) (λ (row : DocumentRow Node). row.document) rows) ∙ list_any-IsPermutation (λ x. is_same x d) (documents_in rows) documents moved
