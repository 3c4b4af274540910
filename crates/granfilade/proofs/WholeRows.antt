-- Bytes that one row has whole: where that row stands among others, and that no other row has any of them.
use Rattle.std.proofs.Common.{◌≡◌, ◌≢◌, ℕ, ◌+◌, ◌-◌, ◌<◌, ◌≤◌, ◌&&◌, ltb, Bool, false, not, List, [], ◌∷◌, ◌++◌, length, get_or, take, drop, map, refl, arith, ap, ◌∙◌, sym, subst, inl, inr, append_assoc, append-nil}
use Rattle.std.specs.Prelude.{nat_eq}
use Rattle.std.specs.Cmp.Lexicographic.{pointwise}
use Rattle.std.specs.List.{All, flat_map}
use Rattle.std.proofs.lemmas.Bool.{cases_lt, lt-ltb, le-ltb, and_right}
use Rattle.std.proofs.lemmas.List.{map-append, drop-take}
use Rattle.std.proofs.lemmas.List.Elements.{All-head, All-tail}
use Rattle.std.proofs.lemmas.Grind.{flat_map-append}
use Rattle.tumbler.specs.ListView.{ListView}
use Rattle.tumbler.specs.Places.{IsUpTo, comes_before, sum, difference, width_at}
use Rattle.tumbler.specs.Span.{end_of}
use Rattle.tumbler.specs.declared.span.Span.{Span}
use Rattle.tumbler.proofs.Alls.{All-front, All-back}
use Rattle.tumbler.proofs.Order.{before_upto, upto_upto}
use Rattle.tumbler.proofs.Before.{true_if_before, false_if_up_to}
use Rattle.tumbler.proofs.Sums.{sums_associate}
use Rattle.tumbler.proofs.SumOrder.{length-sum_filled}
use Rattle.tumbler.proofs.Differences.{sum-difference}
use Rattle.enfilade_core.specs.declared.tree.Row.{Row}
use Rattle.enfilade_core.specs.declared.tree.Branch.{Branch}
use Rattle.enfilade_core.specs.Rows.{Shape, Rows, Branches, moved, rows_in, rows_table, rows_of, node_at, branch_rows}
use Rattle.enfilade_core.specs.Axes.{IsWellFormedRow}
use Rattle.enfilade_core.specs.WellFormed.{NamesBelow, AreWellFormed}
use Rattle.enfilade_core.specs.Plain.{plain_row}
use Rattle.enfilade_core.specs.Planes.{content_widths, plain_text}
use Rattle.enfilade_core.proofs.Parts.{names_below, rows-said, rows-well_formed}
use Rattle.enfilade_core.proofs.GoneThrough.{item-well_formed, mapped_at, around}
use Rattle.granfilade.specs.Content.{ContentTree, so_far_on, laid_row, laid_out, content, tree_rows, bytes_in}
use Rattle.granfilade.specs.Puts.{IsLeaf, IsContent, Linked, end_of_row}
use Rattle.granfilade.specs.Whole.{span_from, HasWhole}
use Rattle.granfilade.proofs.Stepping.{steps-before, steps-up_to}
use Rattle.granfilade.proofs.Counting.{same_places}
use Rattle.granfilade.proofs.Documents.{step-none, step-last, step-twice}
use Rattle.granfilade.proofs.Picking.{part, part-outside, bytes_in-append}
use Rattle.granfilade.proofs.Putting.{RowOf}
use Rattle.granfilade.proofs.LongerRow.{linked-back, linked-seam}

-- ---- of one row

-- an address that differs from another at the last place alone
pub step_to : (start first front beside : List ℕ) (begins wanted : ℕ) → first ≡ front ++ begins ∷ [] → start ≡ beside ++ wanted ∷ [] → not (pointwise nat_eq front beside) ≡ false → begins ≤ wanted → start ≡ so_far_on first (wanted - begins)
step_to start first front beside begins wanted is there test le =
    let reach : wanted ≡ begins + (wanted - begins) = omega (arith, le) in
    there
    ∙ ap (λ (places : List ℕ). places ++ wanted ∷ []) (sym (same_places front beside test))
    ∙ ap (λ (n : ℕ). front ++ n ∷ []) reach
    ∙ sym (ap (λ (a : List ℕ). so_far_on a (wanted - begins)) is ∙ step-last front begins (wanted - begins))

pub whole-here : (row : RowOf) (start held : List ℕ) (count from : ℕ) → held ≡ row.leaf.items → row.first ≢ [] → start ≡ so_far_on row.first from → from + count ≤ length held → HasWhole (plain_row plain_text row ∷ []) start count (take (from + count - from) (drop from held))
whole-here row start held count from is some begins within =
    let many : from + count - from ≡ count = omega arith in
    record {
      front = [];
      row = plain_row plain_text row;
      back = [];
      parts = refl;
      filled = some;
      from = from;
      begins = begins;
      within = subst (λ (items : List ℕ). from + count ≤ length items) is within;
      is = ap (λ (n : ℕ). take n (drop from held)) many ∙ ap (λ (items : List ℕ). take count (drop from items)) is;
    }

-- ---- where the row stands

pub whole-within : (rows before part after : List RowOf) (start : List ℕ) (count : ℕ) (bytes : List ℕ) → rows ≡ before ++ (part ++ after) → HasWhole part start count bytes → HasWhole rows start count bytes
whole-within rows before part after start count bytes is h = record {
  front = before ++ h.front;
  row = h.row;
  back = h.back ++ after;
  parts = is ∙ ap (λ (xs : List RowOf). before ++ (xs ++ after)) h.parts ∙ ap (λ (xs : List RowOf). before ++ xs) (append_assoc h.front (h.row ∷ h.back) after) ∙ sym (append_assoc before h.front (h.row ∷ (h.back ++ after)));
  filled = h.filled;
  from = h.from;
  begins = h.begins;
  within = h.within;
  is = h.is;
}

-- a row by its number
pub whole-at : (rows : List RowOf) (i : ℕ) (row : RowOf) (start : List ℕ) (count : ℕ) (bytes : List ℕ) → i < length rows → row ≡ get_or rows i row → HasWhole (plain_row plain_text row ∷ []) start count bytes → HasWhole (map (plain_row plain_text) rows) start count bytes
whole-at rows i row start count bytes lt at h =
    let m = mapped_at (plain_row plain_text) rows i row lt at in
    whole-within (map (plain_row plain_text) rows) (take i (map (plain_row plain_text) rows)) (plain_row plain_text row ∷ []) (drop (i + 1) (map (plain_row plain_text) rows)) start count bytes
    (around (map (plain_row plain_text) rows) i (plain_row plain_text row) m.short m.at) h

-- rows of a child, seen from its parent
pub whole-moved : (b s : List ℕ) (rows : List RowOf) (start seen : List ℕ) (count : ℕ) (bytes : List ℕ) → All (IsWellFormedRow content_widths) rows → IsUpTo b start → seen ≡ difference start b → HasWhole rows seen count bytes → HasWhole (map (moved b s) rows) start count bytes
whole-moved b s rows start seen count bytes well_formed le is h =
    let own = All-head (IsWellFormedRow content_widths) h.row h.back (All-back (IsWellFormedRow content_widths) h.front (h.row ∷ h.back) (subst (All (IsWellFormedRow content_widths)) h.parts well_formed)) in
    let long : length (sum b h.row.first) ≡ length h.row.first = length-sum_filled b h.row.first own.first_coordinate.ends h.filled in
    record {
      front = map (moved b s) h.front;
      row = moved b s h.row;
      back = map (moved b s) h.back;
      parts = ap (map (moved b s)) h.parts ∙ map-append (moved b s) h.front (h.row ∷ h.back);
      filled = λ none. h.filled (no_places h.row.first (sym long ∙ ap length none));
      from = h.from;
      begins = sym (sum-difference b start le) ∙ ap (sum b) (sym is ∙ h.begins) ∙ sym (sums_associate b h.row.first (width_at (length h.row.first) h.from)) ∙ ap (λ (n : ℕ). sum (sum b h.row.first) (width_at n h.from)) (sym long);
      within = h.within;
      is = h.is;
    }
  where
    no_places : (places : List ℕ) → length places ≡ 0 → places ≡ []
    no_places [] e = refl
    no_places (x ∷ places) e = absurd (omega (arith, e))

pub record ChildBelow (nodes : List (Shape (ListView ℕ))) (k : ℕ) (child : Branch) : Type 0 where
  pub there : child.node.0 < length nodes
  pub lesser : child.node.0 < k

pub child_below : (nodes : List (Shape (ListView ℕ))) (k i : ℕ) (branches : List Branch) (child : Branch) → AreWellFormed content_widths nodes → k < length nodes → node_at nodes k ≡ Branches branches → i < length branches → child ≡ get_or branches i child → ChildBelow nodes k child
child_below nodes k i branches child well_formed there is lt at =
    let less = item-well_formed (λ (c : Branch). c.node.0 < k) branches i child lt at (subst (NamesBelow k) is (names_below content_widths nodes k well_formed there)) in
    record { there = omega (arith, less, there); lesser = less }

pub whole-child : (nodes : List (Shape (ListView ℕ))) (k i : ℕ) (branches : List Branch) (child : Branch) (start seen : List ℕ) (count : ℕ) (bytes : List ℕ) → AreWellFormed content_widths nodes → k < length nodes → node_at nodes k ≡ Branches branches → i < length branches → child ≡ get_or branches i child
    → IsUpTo child.first start → seen ≡ difference start child.first → HasWhole (rows_of nodes child.node.0) seen count bytes → HasWhole (rows_of nodes k) start count bytes
whole-child nodes k i branches child start seen count bytes well_formed there is lt at le seen_is h =
    let told = rows_table nodes in
    let rows : Branch → List RowOf = branch_rows told in
    let below = child_below nodes k i branches child well_formed there is lt at in
    whole-within (rows_of nodes k) (flat_map rows (take i branches)) (rows child) (flat_map rows (drop (i + 1) branches)) start count bytes
    (rows-said content_widths nodes k well_formed there ∙ ap (rows_in told) is ∙ ap (flat_map rows) (around branches i child lt at) ∙ flat_map-append rows (take i branches) (child ∷ drop (i + 1) branches))
    (whole-moved child.first child.second (rows_of nodes child.node.0) start seen count bytes (rows-well_formed content_widths nodes child.node.0 well_formed below.there) le seen_is h)

pub whole-rows : (nodes : List (Shape (ListView ℕ))) (k : ℕ) (rows : List RowOf) (start : List ℕ) (count : ℕ) (bytes : List ℕ) → AreWellFormed content_widths nodes → k < length nodes → node_at nodes k ≡ Rows rows → HasWhole rows start count bytes → HasWhole (rows_of nodes k) start count bytes
whole-rows nodes k rows start count bytes well_formed there is h =
    subst (λ (rs : List RowOf). HasWhole rs start count bytes) (sym (rows-said content_widths nodes k well_formed there ∙ ap (rows_in (rows_table nodes)) is)) h

-- ---- no other row has any

not_none : (front : List ℕ) (x : ℕ) (back : List ℕ) → front ++ x ∷ back ≢ []
not_none [] x back e = cc
not_none (y ∷ front) x back e = cc

leaf_some : (row : RowOf) → IsLeaf row → row.first ≢ []
leaf_some row leaf none = not_none leaf.document 0 (1 ∷ leaf.address.number ∷ []) (sym leaf.address.parts ∙ none)

early : (span : Span) (row : RowOf) → row.first ≢ [] → IsUpTo (end_of_row row) span.start → bytes_in span (laid_row row) ≡ []
early span row some le =
    part-outside span row.first row.leaf.items (λ j lt.
    ap (λ (b : Bool). not b && comes_before (so_far_on row.first j) (end_of span))
    (true_if_before (so_far_on row.first j) span.start (before_upto (so_far_on row.first j) (end_of_row row) span.start (steps-before row.first j (length row.leaf.items) some lt) le)))

late : (span : Span) (row : RowOf) → row.first ≢ [] → IsUpTo (end_of span) row.first → bytes_in span (laid_row row) ≡ []
late span row some le =
    part-outside span row.first row.leaf.items (λ j lt.
    and_right (not (comes_before (so_far_on row.first j) span.start)) (comes_before (so_far_on row.first j) (end_of span))
    (false_if_up_to (so_far_on row.first j) (end_of span)
    (upto_upto (end_of span) row.first (so_far_on row.first j) le (subst (λ (a : List ℕ). IsUpTo a (so_far_on row.first j)) (step-none row.first) (steps-up_to row.first 0 j some (omega arith))))))

all_early : (span : Span) (at : List ℕ) (rows : List RowOf) → All IsLeaf rows → All (λ r. IsUpTo (end_of_row r) at) rows → IsUpTo at span.start → bytes_in span (laid_out rows) ≡ []
all_early span at [] leaves ends le = refl
all_early span at (row ∷ rows) leaves ends le =
    bytes_in-append span (laid_row row) (laid_out rows)
    ∙ (λ k. early span row (leaf_some row (All-head IsLeaf row rows leaves)) (upto_upto (end_of_row row) at span.start (All-head (λ r. IsUpTo (end_of_row r) at) row rows ends) le) k
    ++ all_early span at rows (All-tail IsLeaf row rows leaves) (All-tail (λ r. IsUpTo (end_of_row r) at) row rows ends) le k)

all_late : (span : Span) (at : List ℕ) (rows : List RowOf) → All IsLeaf rows → All (λ r. IsUpTo at r.first) rows → IsUpTo (end_of span) at → bytes_in span (laid_out rows) ≡ []
all_late span at [] leaves starts le = refl
all_late span at (row ∷ rows) leaves starts le =
    bytes_in-append span (laid_row row) (laid_out rows)
    ∙ (λ k. late span row (leaf_some row (All-head IsLeaf row rows leaves)) (upto_upto (end_of span) at row.first le (All-head (λ r. IsUpTo at r.first) row rows starts)) k
    ++ all_late span at rows (All-tail IsLeaf row rows leaves) (All-tail (λ r. IsUpTo at r.first) row rows starts) le k)

-- ---- what the row has of the span

steps_told : (a : List ℕ) (k n : ℕ) → a ≢ [] → comes_before (so_far_on a k) (so_far_on a n) ≡ ltb k n
steps_told a k n some = elim (cases_lt k n) [
  | inl lt ↦ true_if_before (so_far_on a k) (so_far_on a n) (steps-before a k n some lt) ∙ sym (lt-ltb k n lt)
  | inr ge ↦ false_if_up_to (so_far_on a k) (so_far_on a n) (steps-up_to a n k some ge) ∙ sym (le-ltb k n ge)
]

-- a row that has bytes whole has no others of the span
pub whole-read : (rows : List RowOf) (start : List ℕ) (count : ℕ) (bytes : List ℕ) → IsContent rows → HasWhole rows start count bytes → bytes ≡ bytes_in (span_from start count) (laid_out rows)
whole-read rows start count bytes content h =
    let span = span_from start count in
    let at = h.row.first in
    let items = h.row.leaf.items in
    let leaves = subst (All IsLeaf) h.parts content.leaves in
    let behind = All-back IsLeaf h.front (h.row ∷ h.back) leaves in
    let linked = subst (Linked end_of_row) h.parts content.apart in
    let leaf = All-head IsLeaf h.row h.back behind in
    let ends : end_of span ≡ so_far_on at (h.from + count) = ap (λ (a : List ℕ). so_far_on a count) h.begins ∙ step-twice at leaf.document leaf.address h.from count in
    let starts : IsUpTo at start = subst (IsUpTo at) (sym h.begins) (subst (λ (a : List ℕ). IsUpTo a (so_far_on at h.from)) (step-none at) (steps-up_to at 0 h.from h.filled (omega arith))) in
    let reach : IsUpTo (end_of span) (end_of_row h.row) = subst (λ (a : List ℕ). IsUpTo a (end_of_row h.row)) (sym ends) (steps-up_to at (h.from + count) (length items) h.filled h.within) in
    let own : bytes_in span (laid_row h.row) ≡ drop h.from (take (h.from + count) items) =
    part span at (end_of span) items h.from (h.from + count) refl (λ k lt. ap (comes_before (so_far_on at k)) h.begins ∙ steps_told at k h.from h.filled) (λ k lt. ap (comes_before (so_far_on at k)) ends ∙ steps_told at k (h.from + count) h.filled) in
    let before : bytes_in span (laid_out h.front) ≡ [] = all_early span at h.front (front_leaves h.front (h.row ∷ h.back) leaves) (linked-seam end_of_row h.front h.row h.back linked) starts in
    let after : bytes_in span (laid_out h.back) ≡ [] = all_late span (end_of_row h.row) h.back (All-tail IsLeaf h.row h.back behind) (linked-back end_of_row h.front (h.row ∷ h.back) linked).0 reach in
    h.is
    ∙ sym (drop-take h.from count items)
    ∙ sym (ap (bytes_in span) (ap laid_out h.parts ∙ flat_map-append laid_row h.front (h.row ∷ h.back))
    ∙ bytes_in-append span (laid_out h.front) (laid_out (h.row ∷ h.back))
    ∙ ap (λ (bs : List ℕ). bs ++ bytes_in span (laid_out (h.row ∷ h.back))) before
    ∙ bytes_in-append span (laid_row h.row) (laid_out h.back)
    ∙ ap (λ (bs : List ℕ). bytes_in span (laid_row h.row) ++ bs) after
    ∙ append-nil (bytes_in span (laid_row h.row))
    ∙ own)
  where
    front_leaves : (xs ys : List RowOf) → All IsLeaf (xs ++ ys) → All IsLeaf xs
    front_leaves xs ys all = All-front IsLeaf xs ys all

-- what was found in a tree's arena is what the tree has
pub whole-found : (tree : ContentTree) (nodes : List (Shape (ListView ℕ))) (root : ℕ) (start : List ℕ) (count : ℕ) (bytes : List ℕ) → nodes ≡ tree.nodes → root ≡ tree.root → IsContent (tree_rows tree) → HasWhole (rows_of nodes root) start count bytes → bytes ≡ bytes_in (span_from start count) (content tree)
whole-found tree nodes root start count bytes n r is h =
    whole-read (tree_rows tree) start count bytes is (subst (λ (rows : List RowOf). HasWhole rows start count bytes) (ap (λ (ns : List (Shape (ListView ℕ))). rows_of ns root) n ∙ ap (rows_of tree.nodes) r) h)
