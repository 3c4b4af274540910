-- Roots that were seen, and documents that were gone through.
use Rattle.std.proofs.Common.{◌≡◌, ◌↔◌, ℕ, ◌+◌, ◌<◌, ◌≤◌, min, Bool, true, false, not, cond, IsTrue, List, [], ◌∷◌, length, map, get_or, refl, arith, ap, sym, subst, ◌∙◌, inl, inr, true≢false}
use Rattle.std.proofs.Math.Nat.{eq-or-lt_of_le}
use Rattle.std.specs.List.{All, Contains, list_any}
use Rattle.std.specs.Ordering.{nat_cmp}
use Rattle.std.specs.BTreeSet.{BTreeSet, contains}
use Rattle.std.specs.BTreeMap.{is_at}
use Rattle.std.proofs.lemmas.List.{get_or_default, length-append}
use Rattle.std.proofs.lemmas.List.Elements.{All-get_or, All-head, All-tail}
use Rattle.std.proofs.lemmas.Bool.Decides.{nat_tests}
use Rattle.enfilade_core.specs.declared.tree.Row.{Row}
use Rattle.enfilade_core.specs.Rows.{Shape, rows_of}
use Rattle.enfilade_core.specs.Plain.{plain_row}
use Rattle.enfilade_core.specs.Summary.{most_count}
use Rattle.poom.specs.declared.piece.Piece.{Piece}
use Rattle.poom.specs.Pieces.{IsPiece, total, rows_from, pieces_in}
use Rattle.poom.proofs.Documents.{made_of}
use Rattle.page_tables.specs.declared.tables.TableDocument.{TableDocument}
use Rattle.page_tables.specs.Plain.{PlainTables}
use Rattle.poom.specs.Laid.{IsOneDocument, texts, links}
use Rattle.content_checks.specs.Listed.{listed_bytes, listed_ids}
use Rattle.content_checks.specs.Sound.{IsShown}
use Rattle.content_checks.specs.inside.Steps.{AreShown, AreRight}

-- ---- a root

pub same_rows : (rows : List (Row ℕ)) → map (plain_row (λ n. n)) rows ≡ rows
same_rows [] = refl
same_rows (row ∷ rows) = ap (λ (rs : List (Row ℕ)). row ∷ rs) (same_rows rows)

pub not_there : (nodes : List (Shape ℕ)) (tables : PlainTables) (k : ℕ) → length nodes ≤ k → IsTrue false ↔ IsShown nodes tables k
not_there nodes tables k le = (λ never. absurd cc, λ is. let lt = is.root.there in absurd (omega arith))

pub shown_there : (nodes : List (Shape ℕ)) (tables : PlainTables) (k : ℕ) (rows : List (Row ℕ)) (b : Bool) → k < length nodes → rows ≡ rows_of nodes k → IsTrue b ↔ AreShown tables rows → IsTrue b ↔ IsShown nodes tables k
shown_there nodes tables k rows b lt same test = (
  λ yes. let are = subst (AreShown tables) same (test.0 yes) in record { root = record { there = lt; document = are.document }; text = are.text; link = are.link },
  λ is. test.1 (subst (AreShown tables) (sym same) (record { document = is.root.document; text = is.text; link = is.link })),
)

-- no more rows than a document may show
rows_few : (part n : ℕ) (pieces : List Piece) → All IsPiece pieces → length (rows_from part n pieces) ≤ total pieces
rows_few part n [] each = omega arith
rows_few part n (piece ∷ pieces) each =
    let one = All-head IsPiece piece pieces each in
    let filled = one.filled in
    let rest = rows_few part (n + piece.count) pieces (All-tail IsPiece piece pieces each) in
    omega arith

pub too_many_rows : (nodes : List (Shape ℕ)) (tables : PlainTables) (k leaves : ℕ) → leaves ≡ min (length (rows_of nodes k)) most_count → 5368709118 < leaves → IsTrue false ↔ IsShown nodes tables k
too_many_rows nodes tables k leaves counted over = (
  λ never. absurd cc,
  λ is.
      let rows = rows_of nodes k in
      let made = made_of rows is.root.document in
      let text = rows_few 1 1 (pieces_in 1 rows) made.each in
      let link = rows_few 2 1 (pieces_in 2 rows) made.also in
      let few = made.few in
      let fewer = made.fewer in
      let long = ap length made.are ∙ length-append (rows_from 1 1 (pieces_in 1 rows)) (rows_from 2 1 (pieces_in 2 rows)) in
      absurd (omega arith),
)

-- ---- the set of those that were seen

equal_is : (k n : ℕ) → is_at (nat_cmp k) n ≡ true → n ≡ k
equal_is k n e = grind (arith, nat_tests)

module _ (nodes : List (Shape ℕ)) (tables : PlainTables) (root : ℕ) (old new : BTreeSet ℕ) where
  pub seen_before : (fresh : Bool) → fresh ≡ not (contains nat_cmp old root) → fresh ≡ false → AreRight nodes tables old → IsShown nodes tables root
  seen_before fresh is none right = right root (twice (contains nat_cmp old root) (sym is ∙ none))
    where
      twice : (t : Bool) → not t ≡ false → t ≡ true
      twice true e = refl
      twice false e = sym e

  pub seen_now : ((k : ℕ) → contains nat_cmp new k ≡ cond (is_at (nat_cmp root) k) true (contains nat_cmp old k)) → AreRight nodes tables old → IsShown nodes tables root → AreRight nodes tables new
  seen_now updates right is k has = by_test (is_at (nat_cmp root) k) refl (sym (updates k) ∙ has)
    where
      by_test : (t : Bool) → is_at (nat_cmp root) k ≡ t → cond t true (contains nat_cmp old k) ≡ true → IsShown nodes tables k
      by_test true e h = subst (IsShown nodes tables) (sym (equal_is root k e)) is
      by_test false e h = right k h

pub none_seen : (nodes : List (Shape ℕ)) (tables : PlainTables) (seen : BTreeSet ℕ) → seen.keys ≡ [] → AreRight nodes tables seen
none_seen nodes tables seen none k has = absurd (true≢false (sym has ∙ ap (list_any (is_at (nat_cmp k))) none))

-- ---- documents gone through

abbrev pub ShownBelow : List (Shape ℕ) → PlainTables → List TableDocument → ℕ → Type 0
ShownBelow nodes tables documents n = (k : ℕ) (d : TableDocument) → k < n → k < length documents → IsShown nodes tables (get_or documents k d).root

pub none_shown : (nodes : List (Shape ℕ)) (tables : PlainTables) (documents : List TableDocument) → ShownBelow nodes tables documents 0
none_shown nodes tables documents k d lt within = absurd (omega (arith, lt))

pub shown_more : (nodes : List (Shape ℕ)) (tables : PlainTables) (documents : List TableDocument) (n : ℕ) (row : TableDocument) → row ≡ get_or documents n row → IsShown nodes tables row.root → ShownBelow nodes tables documents n → ShownBelow nodes tables documents (n + 1)
shown_more nodes tables documents n row is shown so_far k d lt within =
    let le : k ≤ n = omega (arith, lt) in
    elim (eq-or-lt_of_le le) [
      | inl same ↦
          let at : get_or documents k d ≡ row = get_or_default documents k d row within ∙ (ap (λ (j : ℕ). get_or documents j row) same ∙ sym is) in
          subst (λ (r : TableDocument). IsShown nodes tables r.root) (sym at) shown
      | inr under ↦ so_far k d under within
    ]

pub not_shown : (nodes : List (Shape ℕ)) (tables : PlainTables) (documents : List TableDocument) (n : ℕ) (row : TableDocument) (b : Bool) → n < length documents → row ≡ get_or documents n row → b ≡ false → IsTrue b ↔ IsShown nodes tables row.root
    → IsTrue false ↔ All (λ (r : TableDocument). IsShown nodes tables r.root) documents
not_shown nodes tables documents n row b lt is none test = (
  λ never. absurd cc,
  λ all.
      let here = test.1 (subst (λ (r : TableDocument). IsShown nodes tables r.root) (sym is) (All-get_or (λ (r : TableDocument). IsShown nodes tables r.root) documents n row lt all)) in
      absurd (true≢false (sym here ∙ none)),
)

pub all_shown : (nodes : List (Shape ℕ)) (tables : PlainTables) (documents : List TableDocument) (n : ℕ) → length documents ≤ n → ShownBelow nodes tables documents n → IsTrue true ↔ All (λ (r : TableDocument). IsShown nodes tables r.root) documents
all_shown nodes tables documents n le so_far = (λ yes k d within. so_far k d (omega (arith, within, le)) within, λ all. refl)

-- ---- tests of one document's rows

pub no_document : (tables : PlainTables) (rows : List (Row ℕ)) (b : Bool) → b ≡ false → IsTrue b ↔ IsOneDocument rows → IsTrue false ↔ AreShown tables rows
no_document tables rows b none test = (λ never. absurd cc, λ are. absurd (true≢false (sym (test.1 are.document) ∙ none)))

pub no_bytes : (tables : PlainTables) (rows : List (Row ℕ)) (b : Bool) → b ≡ false → IsTrue b ↔ All (Contains (listed_bytes tables.documents)) (texts rows) → IsTrue false ↔ AreShown tables rows
no_bytes tables rows b none test = (λ never. absurd cc, λ are. absurd (true≢false (sym (test.1 are.text) ∙ none)))

pub last_test : (tables : PlainTables) (rows : List (Row ℕ)) (b l : Bool) → IsOneDocument rows → b ≡ true → IsTrue b ↔ All (Contains (listed_bytes tables.documents)) (texts rows) → IsTrue l ↔ All (Contains (listed_ids tables.links)) (links rows) → IsTrue l ↔ AreShown tables rows
last_test tables rows b l one bytes text link = (λ yes. record { document = one; text = text.0 bytes; link = link.0 yes }, λ are. link.1 are.link)
