-- Rows in a row stand by their places.
use Rattle.std.proofs.Common.{◌≡◌, ℕ, zero, suc, ◌+◌, ◌<◌, ◌∙◌, eqb, ◌&&◌, Bool, true, List, [], ◌∷◌, ◌++◌, length, ap, sym, refl, arith}
use Rattle.std.specs.Prelude.{filter}
use Rattle.std.specs.List.{list_any, flat_map}
use Rattle.std.proofs.lemmas.Bool.{ne_eqb, eq-eqb}
use Rattle.tumbler.specs.declared.span.Span.{Span}
use Rattle.world_rules.specs.declared.rows.Row.{Row}
use Rattle.world_rules.specs.World.{World, is_text_of, is_link_of}
use Rattle.world_rules.specs.Picking.{picks}
use Rattle.world_rules.specs.Apply.{world_of}
use Rattle.world_rules.specs.Laws.{text_rows, link_rows, numbers_from, IsNumbered}
use Rattle.world_rules.specs.VOrder.{by_place, IsPickedByPlace, PickedByPlace}
use Rattle.world_rules.proofs.Filters.{stay, both_tests}
use Rattle.world_rules.proofs.InRow.{InRow, row_head, row_tail, row_none}
use Rattle.world_rules.proofs.Inserted.{text_in_row, links_in_row}
use Rattle.world_rules.proofs.Orderly.{numbered_without_gaps}

-- the rows at one place
abbrev at_place : List Row → ℕ → List Row
at_place rows n = filter (λ (row : Row). eqb row.n n) rows

-- a row at another place is not read
skip_row : (x : Row) (xs : List Row) (n : ℕ) → x.n < n → at_place (x ∷ xs) n ≡ at_place xs n
skip_row x xs n lt = rw (ne_eqb x.n n (λ e. omega arith)) refl

skip_rows : (x : Row) (xs : List Row) (a k : ℕ) → x.n < a → flat_map (at_place (x ∷ xs)) (numbers_from a k) ≡ flat_map (at_place xs) (numbers_from a k)
skip_rows x xs a zero lt = refl
skip_rows x xs a (suc k) lt = λ i. skip_row x xs a lt i ++ skip_rows x xs (a + 1) k (omega arith) i

-- the first place has the first row alone
first_row : (x : Row) (xs : List Row) (a : ℕ) → x.n ≡ a → InRow (a + 1) xs → at_place (x ∷ xs) a ≡ x ∷ []
first_row x xs a here rest =
    let is_here : eqb x.n a ≡ true = eq-eqb x.n a here in
    let none : at_place xs a ≡ [] = row_none (λ n. eqb n a) (a + 1) xs rest (λ n low high. ne_eqb n a (λ e. omega arith)) in
    rw (is_here, none) refl

from_place : (a : ℕ) (rows : List Row) → InRow a rows → flat_map (at_place rows) (numbers_from a (length rows)) ≡ rows
from_place a [] row = refl
from_place a (x ∷ xs) row =
    let here : x.n ≡ a = row_head a x xs row in
    let rest : InRow (a + 1) xs = row_tail a x xs row in
    let first = first_row x xs a here rest in
    let others : flat_map (at_place (x ∷ xs)) (numbers_from (a + 1) (length xs)) ≡ xs = skip_rows x xs (a + 1) (length xs) (omega arith) ∙ from_place (a + 1) xs rest in
    λ i. first i ++ others i

-- rows that are numbered from 1 on
stand_by_place : (rows : List Row) → InRow 1 rows → by_place rows ≡ rows
stand_by_place rows row = from_place 1 rows row

-- what passes both tests, read by place
both_by_place : (part test : Row → Bool) (rows : List Row) → InRow 1 (filter part rows) → filter (λ (row : Row). part row && test row) rows ≡ filter test (by_place (filter part rows))
both_by_place part test rows row =
    sym (both_tests part test rows) ∙ stay part test test (λ x e. refl) rows ∙ ap (filter test) (sym (stand_by_place (filter part rows) row))

picked_by_place_in : (world : World) (document : List ℕ) → IsNumbered world document → IsPickedByPlace world document
picked_by_place_in world document numbered =
    let text : InRow 1 (text_rows world document) = text_in_row world document numbered.text in
    let links : InRow 1 (link_rows world document) = links_in_row world document numbered.links in
    record {
      text = λ span. both_by_place (is_text_of document) (picks span) world.rows text;
      links = λ span. both_by_place (is_link_of document) (picks span) world.rows links;
      once = λ spans. both_by_place (is_text_of document) (λ (row : Row). list_any (λ (span : Span). picks span row) spans) world.rows text;
      any_text = λ test. both_by_place (is_text_of document) test world.rows text;
    }

pub picked_by_place : PickedByPlace
picked_by_place history placed document = picked_by_place_in (world_of history) document (numbered_without_gaps history placed document)
