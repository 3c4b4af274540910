-- What new text rows make of the rows of each document.
use Rattle.std.proofs.Common.{◌≡◌, ℕ, ◌+◌, ◌-◌, ◌≤◌, ◌∙◌, ◌&&◌, Bool, true, false, not, List, [], ◌∷◌, ◌++◌, length, map, take, drop, ap, sym, refl, subst, arith, append_assoc, append-nil}
use Rattle.std.specs.Prelude.{filter, nat_le}
use Rattle.std.specs.Cmp.Lexicographic.{bytes_decides}
use Rattle.std.proofs.lemmas.Bool.{and_parts, and_left, and_right, false_from_ne_true, true≢false}
use Rattle.std.proofs.lemmas.List.{length-take-le}
use Rattle.std.proofs.lemmas.List.Elements.{filter-append}
use Rattle.world_rules.specs.declared.rows.Part.{Part}
use Rattle.world_rules.specs.declared.rows.Part.TheVariants.{Text, Links}
use Rattle.world_rules.specs.declared.rows.Row.{Row}
use Rattle.world_rules.specs.World.{is_text_of, is_link_of, is_text, is_same}
use Rattle.world_rules.specs.Edits.{up_by, moves_up, new_rows, rows_with}
use Rattle.world_rules.proofs.Filters.{stay, move, all_stay, none_move}
use Rattle.world_rules.proofs.InRow.{InRow, row_from, row_append, row_take, row_drop, row_up, row_new, early_rows, late_rows}

-- ---- documents

-- a document is the same as itself
pub same_itself : (document : List ℕ) → is_same document document ≡ true
same_itself document = (bytes_decides document document).1 refl

pub differs_back : (a b : List ℕ) → is_same a b ≡ false → is_same b a ≡ false
differs_back a b differs = false_from_ne_true (is_same b a) (λ (e : is_same b a ≡ true). true≢false (sym ((bytes_decides a b).1 (sym ((bytes_decides b a).0 e))) ∙ differs))

-- no row is of two documents
pub one_document : (document other : List ℕ) → is_same other document ≡ false → (row : Row) → is_same row.document document ≡ true → is_same row.document other ≡ false
one_document document other differs row passes =
    false_from_ne_true (is_same row.document other) (λ (e : is_same row.document other ≡ true).
    let is_other : row.document ≡ other = (bytes_decides row.document other).0 e in
    let is_document : row.document ≡ document = (bytes_decides row.document document).0 passes in
    true≢false (sym ((bytes_decides other document).1 (sym is_other ∙ is_document)) ∙ differs))

-- no text row of one document is of another's text
pub text_apart : (document other : List ℕ) → is_same other document ≡ false → (row : Row) → is_text_of document row ≡ true → is_text_of other row ≡ false
text_apart document other differs row passes =
    and_right (is_text row.part) (is_same row.document other) (one_document document other differs row (and_parts (is_text row.part) (is_same row.document document) passes).1)

-- no row of one document is of another's text
pub of_another : (document other : List ℕ) → is_same other document ≡ false → (row : Row) → is_same row.document other ≡ true → is_text_of document row ≡ false
of_another document other differs row e = and_right (is_text row.part) (is_same row.document document) (one_document other document (differs_back other document differs) row e)

-- no link row is of a text
not_text : (part : Part) → not (is_text part) ≡ true → is_text part ≡ false
not_text Text e = absurd (true≢false (sym e))
not_text Links e = refl

pub links_apart : (document other : List ℕ) (row : Row) → is_link_of document row ≡ true → is_text_of other row ≡ false
links_apart document other row passes =
    and_left (is_text row.part) (is_same row.document other) (not_text row.part (and_parts (not (is_text row.part)) (is_same row.document document) passes).0)

-- ---- the new rows

pub new_rows_pass : (document : List ℕ) (n : ℕ) (addresses : List (List ℕ)) → filter (is_text_of document) (new_rows document n addresses) ≡ new_rows document n addresses
new_rows_pass document n [] = refl
new_rows_pass document n (address ∷ addresses) =
    rw (same_itself document) (ap (λ (rows : List Row). record { document = document; part = Text; n = n; address = address } ∷ rows) (new_rows_pass document (n + 1) addresses))

length-new_rows : (document : List ℕ) (n : ℕ) (addresses : List (List ℕ)) → length (new_rows document n addresses) ≡ length addresses
length-new_rows document n [] = refl
length-new_rows document n (address ∷ addresses) = rw (length-new_rows document (n + 1) addresses) refl

-- ---- rows that are none of the document's text

module _ (p : Row → Bool) (document : List ℕ) (apart : (row : Row) → p row ≡ true → is_text_of document row ≡ false) (same : (k : ℕ) (row : Row) → p (up_by k row) ≡ p row) where
  not_new : (row : Row) → is_text_of document row ≡ true → p row ≡ false
  not_new row e = false_from_ne_true (p row) (λ (passes : p row ≡ true). true≢false (sym e ∙ apart row passes))

  new_rows_fail : (n : ℕ) (addresses : List (List ℕ)) → filter p (new_rows document n addresses) ≡ []
  new_rows_fail n [] = refl
  new_rows_fail n (address ∷ addresses) =
      rw (not_new (record { document = document; part = Text; n = n; address = address }) (same_itself document)) (new_rows_fail (n + 1) addresses)

  pub not_moved : (n : ℕ) (row : Row) → p row ≡ true → moves_up document n row ≡ false
  not_moved n row e = and_left (is_text_of document row) (nat_le n row.n) (apart row e)

  -- they are as they were
  pub others_with : (rows : List Row) (n : ℕ) (addresses : List (List ℕ)) → filter p (rows_with rows document n addresses) ≡ filter p rows
  others_with rows n addresses =
      let stays : List Row = filter (λ row. not (moves_up document n row)) rows in
      let moves : List Row = map (up_by (length addresses)) (filter (moves_up document n) rows) in
      filter-append p (stays ++ new_rows document n addresses) moves
      ∙ ap (λ (ys : List Row). ys ++ filter p moves) (filter-append p stays (new_rows document n addresses))
      ∙ (λ i. (all_stay p (λ row. not (moves_up document n row)) (λ row e. ap not (not_moved n row e)) rows i ++ new_rows_fail n addresses i)
      ++ none_move p (moves_up document n) (not_moved n) (up_by (length addresses)) (same (length addresses)) rows i)
      ∙ append-nil (filter p rows ++ [])
      ∙ append-nil (filter p rows)

-- ---- the document's text

-- what of it passes a test with it is what passes the test
pub with_test : (p b : Row → Bool) (row : Row) → p row ≡ true → (p row && b row) ≡ b row
with_test p b row e = rw e refl

pub text_rows_with : (rows : List Row) (document : List ℕ) (n : ℕ) (addresses : List (List ℕ))
    → filter (is_text_of document) (rows_with rows document n addresses)
    ≡ filter (λ (row : Row). not (nat_le n row.n)) (filter (is_text_of document) rows)
    ++ (new_rows document n addresses ++ map (up_by (length addresses)) (filter (λ (row : Row). nat_le n row.n) (filter (is_text_of document) rows)))
text_rows_with rows document n addresses =
    let p : Row → Bool = is_text_of document in
    let late : Row → Bool = λ row. nat_le n row.n in
    let stays : List Row = filter (λ row. not (moves_up document n row)) rows in
    let moves : List Row = map (up_by (length addresses)) (filter (moves_up document n) rows) in
    filter-append p (stays ++ new_rows document n addresses) moves
    ∙ ap (λ (ys : List Row). ys ++ filter p moves) (filter-append p stays (new_rows document n addresses))
    ∙ (λ i. (stay p (λ row. not (moves_up document n row)) (λ row. not (late row)) (λ row e. ap not (with_test p late row e)) rows i ++ new_rows_pass document n addresses i)
    ++ move p (up_by (length addresses)) (λ row. refl) (moves_up document n) late (with_test p late) rows i)
    ∙ append_assoc (filter (λ (row : Row). not (nat_le n row.n)) (filter p rows)) (new_rows document n addresses) (map (up_by (length addresses)) (filter late (filter p rows)))

-- where it is in a row, and the new rows come in at a place of it
module _ (rows : List Row) (document : List ℕ) (n : ℕ) (addresses : List (List ℕ)) (from_one : 1 ≤ n) (row : InRow 1 (filter (is_text_of document) rows)) where
  pub text_with : filter (is_text_of document) (rows_with rows document n addresses)
      ≡ take (n - 1) (filter (is_text_of document) rows) ++ (new_rows document n addresses ++ map (up_by (length addresses)) (drop (n - 1) (filter (is_text_of document) rows)))
  text_with =
      let old : List Row = filter (is_text_of document) rows in
      text_rows_with rows document n addresses
      ∙ (λ i. early_rows n 1 (n - 1) old (omega arith) row i ++ (new_rows document n addresses ++ map (up_by (length addresses)) (late_rows n 1 (n - 1) old (omega arith) row i)))

  pub text_with_in_row : n ≤ length (filter (is_text_of document) rows) + 1 → InRow 1 (filter (is_text_of document) (rows_with rows document n addresses))
  text_with_in_row to_end =
      let old : List Row = filter (is_text_of document) rows in
      let i : ℕ = n - 1 in
      let k : ℕ = length addresses in
      let long : length (take (n - 1) (filter (is_text_of document) rows)) ≡ n - 1 = length-take-le (n - 1) (filter (is_text_of document) rows) (omega arith) in
      let new_long : length (new_rows document n addresses) ≡ length addresses = length-new_rows document n addresses in
      subst (InRow 1) (sym text_with)
      (row_append 1 (take i old) (new_rows document n addresses ++ map (up_by k) (drop i old)) (row_take 1 i old row)
      (row_append (1 + length (take i old)) (new_rows document n addresses) (map (up_by k) (drop i old))
      (row_from n (1 + length (take i old)) (new_rows document n addresses) (omega arith) (row_new document n addresses))
      (row_from (1 + i + k) (1 + length (take i old) + length (new_rows document n addresses)) (map (up_by k) (drop i old)) (omega arith)
      (row_up (1 + i) k (drop i old) (row_drop 1 i old (omega arith) row)))))
