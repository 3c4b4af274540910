-- Rows of documents that ascend are found by their documents, so what is found for each document tells the rows.
use Rattle.std.proofs.Common.{◌≡◌, ◌∙◌, ℕ, cond, List, [], ◌∷◌, map, Option, Some, Less, nat_cmp, refl, sym, ap, subst}
use Rattle.std.specs.Prelude.{All}
use Rattle.std.specs.List.{AllByRecursion, find}
use Rattle.std.specs.Option.{option_map, unwrap_or}
use Rattle.std.specs.Ordering.{is_eq}
use Rattle.std.specs.Cmp.Lexicographic.{slice_cmp, texts_ties}
use Rattle.std.proofs.lemmas.List.Elements.{All-nil, All-cons, All-head, All-tail}
use Rattle.std.proofs.lemmas.Map.Keys.{sorted_head, sorted_tail}
use Rattle.enfilade_core.specs.Rows.{Shape, rows_of}
use Rattle.doc_table.specs.DocumentRows.{is_of, documents_in, root_in, content_in}
use Rattle.page_tables.specs.declared.tables.TableDocument.{TableDocument}
use Rattle.tree_compare.specs.RowAddresses.{ShowSame}
use Rattle.tree_world.specs.Trees.{text_at, links_at}
use Rattle.tree_world.proofs.Balanced.{Ascend}
use Rattle.tree_world.proofs.Found.{address_alike}
use Rattle.world_pages.specs.Pages.{table_document}
use Rattle.paged_world.specs.inside.Same.{without_root, ShowAllSame}
use Rattle.paged_world.proofs.Alongside.{heads, tails}
use Rattle.paged_world.proofs.ReadRows.{Row}

abbrev pub IsFound : List Row → Row → Type 0
IsFound whole row = find (is_of row.document) whole ≡ Some row

behind_found : (r : Row) (whole rows : List Row) → AllByRecursion (λ y. slice_cmp nat_cmp r.document y ≡ Less) (documents_in rows) → All (IsFound whole) rows → All (IsFound (r ∷ whole)) rows
behind_found r whole [] less found = All-nil (IsFound (r ∷ whole))
behind_found r whole (row ∷ rows) less found =
    All-cons (IsFound (r ∷ whole)) row rows
    (ap (λ b. cond b (Some r) (find (is_of row.document) whole)) (texts_ties r.document row.document ∙ ap is_eq less.0) ∙ All-head (IsFound whole) row rows found)
    (behind_found r whole rows less.1 (All-tail (IsFound whole) row rows found))

pub each_found : (rows : List Row) → Ascend rows → All (IsFound rows) rows
each_found [] ascend = All-nil (IsFound [])
each_found (row ∷ rows) ascend =
    All-cons (IsFound (row ∷ rows)) row rows (ap (λ b. cond b (Some row) (find (is_of row.document) rows)) (address_alike row.document))
    (behind_found row rows rows (sorted_head (slice_cmp nat_cmp) row.document (documents_in rows) ascend) (each_found rows (sorted_tail (slice_cmp nat_cmp) row.document (documents_in rows) ascend)))

-- ---- how many bytes

abbrev content_of : Option Row → ℕ
content_of found = unwrap_or (option_map (λ (row : Row). row.content) found) 0

-- a row but for its root, as its document and the table of contents' bytes say it
abbrev plain_row : (List ℕ → ℕ) → List ℕ → TableDocument
plain_row counts d = record { document = d; root = 0; content = counts d }

by_counts : (whole rows : List Row) → All (IsFound whole) rows → map without_root (map table_document rows) ≡ map (plain_row (content_in whole)) (documents_in rows)
by_counts whole [] found = refl
by_counts whole (row ∷ rows) found =
    λ i. record { document = row.document; root = 0; content = sym (ap content_of (All-head (IsFound whole) row rows found)) i } ∷ by_counts whole rows (All-tail (IsFound whole) row rows found) i

-- the same documents with as many bytes are the same rows but for the roots
pub counted_alike : (rows others : List Row) → Ascend rows → Ascend others → documents_in others ≡ documents_in rows → ((d : List ℕ) → content_in others d ≡ content_in rows d)
    → map without_root (map table_document rows) ≡ map without_root (map table_document others)
counted_alike rows others up also documents counts =
    by_counts rows rows (each_found rows up)
    ∙ (λ i. map (plain_row (λ d. sym (counts d) i)) (sym documents i))
    ∙ sym (by_counts others others (each_found others also))

-- ---- what is shown

module _ (nodes more : List (Shape ℕ)) (rows others : List Row) (texts : (d : List ℕ) → text_at more (root_in others d) ≡ text_at nodes (root_in rows d)) (links : (d : List ℕ) → links_at more (root_in others d) ≡ links_at nodes (root_in rows d)) where
  one_shown : (row other : Row) → IsFound rows row → IsFound others other → other.document ≡ row.document → ShowSame (rows_of nodes row.root.0) (rows_of more other.root.0)
  one_shown row other found there same =
      let own : root_in rows row.document ≡ Some row.root = ap (option_map (λ (r : Row). r.root)) found in
      let its : root_in others row.document ≡ Some other.root = subst (λ d. root_in others d ≡ Some other.root) same (ap (option_map (λ (r : Row). r.root)) there) in
      record {
        texts = sym (ap (text_at more) (sym its) ∙ texts row.document ∙ ap (text_at nodes) own);
        links = sym (ap (links_at more) (sym its) ∙ links row.document ∙ ap (links_at nodes) own);
      }

  all_shown : (some these : List Row) → All (IsFound rows) some → All (IsFound others) these → documents_in these ≡ documents_in some → ShowAllSame nodes (map table_document some) more (map table_document these)
  all_shown [] these found there same = tt
  all_shown (row ∷ some) [] found there same = tt
  all_shown (row ∷ some) (other ∷ these) found there same = (
    one_shown row other (All-head (IsFound rows) row some found) (All-head (IsFound others) other these there) (heads other.document row.document (documents_in these) (documents_in some) same),
    all_shown some these (All-tail (IsFound rows) row some found) (All-tail (IsFound others) other these there) (tails other.document row.document (documents_in these) (documents_in some) same),
  )

  -- each document shows what it shows in the other's place
  pub shown_if : Ascend rows → Ascend others → documents_in others ≡ documents_in rows → ShowAllSame nodes (map table_document rows) more (map table_document others)
  shown_if up also same = all_shown rows others (each_found rows up) (each_found others also) same
