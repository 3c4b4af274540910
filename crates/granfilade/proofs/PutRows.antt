-- The rows of a tree after a put.
use Rattle.std.proofs.Common.{◌≡◌, ℕ, ◌<◌, Bool, true, false, cond, List, [], ◌∷◌, ◌++◌, length, refl, ap, ◌∙◌, sym, append_assoc, append-nil}
use Rattle.std.specs.List.{All}
use Rattle.std.proofs.lemmas.List.Elements.{All-nil, All-cons, All-head, All-tail, All-weaker}
use Rattle.tumbler.specs.Places.{IsBefore, IsUpTo, comes_before, width_at}
use Rattle.tumbler.proofs.Order.{upto_upto, upto_if_before}
use Rattle.tumbler.proofs.Before.{before_if_true, up_to_if_false}
use Rattle.tumbler.proofs.Sums.{sum-upto}
use Rattle.tumbler.proofs.Widths.{EndsWell-width_at}
use Rattle.enfilade_core.specs.Axes.{InOrder, IsWellFormedRow}
use Rattle.enfilade_core.specs.Planes.{content_widths}
use Rattle.enfilade_core.specs.Edits.{put_before}
use Rattle.std.proofs.lemmas.Grind.{flat_map-append}
use Rattle.enfilade_core.proofs.Orders.{All-unflat}
use Rattle.granfilade.specs.Content.{ByteAt, so_far_on, laid, laid_row, laid_out}
use Rattle.granfilade.specs.Puts.{IsByteOf, IsBelow, IsNext, IsLeaf, end_of_row, IsContent, ComesIn, put_in}
use Rattle.granfilade.specs.Leaves.{AreLeaves}
use Rattle.granfilade.proofs.WellFormedRows.{row_some}
use Rattle.granfilade.proofs.Beside.{StaysBelow, front-end, back-past, front-row}
use Rattle.granfilade.proofs.Putting.{RowOf, All-put, Parts, linked-put, linked_if_ordered, ordered_if_linked, linked-weaker, LaysBeside, laid-put}

pub all_both : (P Q R : RowOf → Type 0) → ((row : RowOf) → P row → Q row → R row) → (rows : List RowOf) → All P rows → All Q rows → All R rows
all_both P Q R both [] p q = All-nil R
all_both P Q R both (row ∷ rows) p q =
    All-cons R row rows (both row (All-head P row rows p) (All-head Q row rows q)) (all_both P Q R both rows (All-tail P row rows p) (All-tail Q row rows q))

pub stay_below : (start : List ℕ) (rows : List RowOf) (next : IsNext start (laid_out rows)) → All (StaysBelow start next.document) rows
stay_below start rows next = All-unflat (λ (at : ByteAt). IsBelow at.address next.document → IsBefore at.address start) laid_row rows next.above

pub first_up_to_end : (row : RowOf) → IsUpTo row.first (end_of_row row)
first_up_to_end row = sum-upto row.first (width_at (length row.first) (length row.leaf.items)) (EndsWell-width_at (length row.first) (length row.leaf.items))

-- new rows end at or before a row that is not before the start
past_all : (start document bytes : List ℕ) (new : List RowOf) (row : RowOf) → IsByteOf start document → 0 < length row.leaf.items → StaysBelow start document row → AreLeaves start bytes new → comes_before row.first start ≡ false
    → All (λ r. IsUpTo (end_of_row r) row.first) new
past_all start document bytes new row c some stays made e =
    let reach = so_far_on start (length bytes) in
    let past = back-past start document row (length bytes) c some stays (up_to_if_false row.first start e) in
    All-weaker (λ r. IsUpTo (end_of_row r) reach) (λ r. IsUpTo (end_of_row r) row.first) (λ r le. upto_upto (end_of_row r) reach row.first le past) new made.ended

behind_all : (start bytes place : List ℕ) (new : List RowOf) → IsUpTo place start → AreLeaves start bytes new → All (λ r. IsUpTo place r.first) new
behind_all start bytes place new le made = All-weaker (λ r. IsUpTo start r.first) (λ r. IsUpTo place r.first) (λ r past. upto_upto place start r.first le past) new made.past

pub put-ordered : (start bytes : List ℕ) (new rows : List RowOf) → IsNext start (laid_out rows) → All (IsWellFormedRow content_widths) rows → InOrder rows → AreLeaves start bytes new → InOrder (put_before start new rows)
put-ordered start bytes new rows next well_formed order made =
    let document = next.document in
    let first : RowOf → List ℕ = λ r. r.first in
    ordered_if_linked (put_before start new rows)
    (linked-put first start new rows (linked-weaker end_of_row first first_up_to_end new made.apart) (linked_if_ordered rows order) order
    (all_both (IsWellFormedRow content_widths) (StaysBelow start document) (Parts first start new)
    (λ row r stays. record {
      front = λ e. behind_all start bytes row.first new (upto_if_before row.first start (before_if_true row.first start e)) made;
      back = λ e. All-weaker (λ n. IsUpTo (end_of_row n) row.first) (λ n. IsUpTo n.first row.first) (λ n le. upto_upto n.first (end_of_row n) row.first (first_up_to_end n) le) new
          (past_all start document bytes new row next.address (row_some row r) stays made e);
    })
    rows well_formed (stay_below start rows next)))

pub put-content : (start bytes : List ℕ) (new rows : List RowOf) → IsNext start (laid_out rows) → InOrder rows → AreLeaves start bytes new → IsContent rows → IsContent (put_before start new rows)
put-content start bytes new rows next order made old =
    let document = next.document in
    record {
      leaves = All-put IsLeaf start new rows made.leaves old.leaves;
      apart = linked-put end_of_row start new rows made.apart old.apart order
          (all_both IsLeaf (StaysBelow start document) (Parts end_of_row start new)
          (λ row leaf stays. record {
            front = λ e. behind_all start bytes (end_of_row row) new (front-end start document row next.address leaf stays (before_if_true row.first start e)) made;
            back = λ e. past_all start document bytes new row next.address leaf.filled stays made e;
          })
          rows old.leaves (stay_below start rows next));
    }

pub put-laid : (start bytes : List ℕ) (new rows : List RowOf) → IsNext start (laid_out rows) → AreLeaves start bytes new → IsContent rows → laid_out (put_before start new rows) ≡ put_in start (laid start bytes) (laid_out rows)
put-laid start bytes new rows next made old =
    let document = next.document in
    laid-put start new rows
    (all_both IsLeaf (StaysBelow start document) (LaysBeside start)
    (λ row leaf stays. record { filled = leaf.filled; front = λ e. front-row start document row next.address leaf stays (before_if_true row.first start e) })
    rows old.leaves (stay_below start rows next))
    ∙ ap (λ (bs : List ByteAt). put_in start bs (laid_out rows)) made.are_laid

-- new rows come in between two others
pub put-comes_in : (start : List ℕ) (new rows : List RowOf) → ComesIn (laid_out new) (laid_out rows) (laid_out (put_before start new rows))
put-comes_in start new [] = record { front = []; back = []; was = refl; is = sym (append-nil (laid_out new)) }
put-comes_in start new (row ∷ rows) = by_test (comes_before row.first start) (put-comes_in start new rows)
  where
    by_test : (b : Bool) → ComesIn (laid_out new) (laid_out rows) (laid_out (put_before start new rows)) → ComesIn (laid_out new) (laid_row row ++ laid_out rows) (laid_out (cond b (row ∷ put_before start new rows) (new ++ row ∷ rows)))
    by_test true more = record {
      front = laid_row row ++ more.front;
      back = more.back;
      was = ap (λ (bs : List ByteAt). laid_row row ++ bs) more.was ∙ sym (append_assoc (laid_row row) more.front more.back);
      is =
          ap (λ (bs : List ByteAt). laid_row row ++ bs) more.is
          ∙ sym (append_assoc (laid_row row) (more.front ++ laid_out new) more.back)
          ∙ ap (λ (bs : List ByteAt). bs ++ more.back) (sym (append_assoc (laid_row row) more.front (laid_out new)));
    }
    by_test false more = record { front = []; back = laid_row row ++ laid_out rows; was = refl; is = flat_map-append laid_row new (row ∷ rows) }
