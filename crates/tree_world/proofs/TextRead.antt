-- The text that a document's rows show between two positions, row by row and node by node.
use Rattle.std.proofs.Common.{◌≡◌, ◌≢◌, ℕ, ◌+◌, ◌-◌, ◌^◌, ◌<◌, ◌≤◌, Bool, false, List, [], ◌∷◌, ◌++◌, length, get_or, take, drop, map, min, refl, arith, ap, sym, subst, ◌∙◌, inl, inr, append_assoc, append-nil}
use Rattle.std.specs.Prelude.{◌⊎◌}
use Rattle.std.specs.List.{All, flat_map}
use Rattle.std.proofs.lemmas.List.{take_more, take_all, map-append}
use Rattle.std.proofs.lemmas.List.Elements.{All-nil, All-cons, All-head, All-tail, All-weaker, All-map, filter_map-append}
use Rattle.std.proofs.lemmas.Grind.{flat_map-append}
use Rattle.tumbler.specs.Places.{IsTumbler, IsUpTo, Fits, place, comes_before, sum, width_at}
use Rattle.tumbler.specs.Span.{SpanFits}
use Rattle.tumbler.proofs.Before.{up_to_if_false}
use Rattle.tumbler.proofs.Order.{upto_cases, upto_upto}
use Rattle.tumbler.proofs.Sums.{sum-upto}
use Rattle.enfilade_core.specs.declared.tree.Row.{Row}
use Rattle.enfilade_core.specs.declared.tree.Branch.{Branch}
use Rattle.enfilade_core.specs.Rows.{Shape, Branches, moved, rows_of, node_at}
use Rattle.enfilade_core.specs.Axes.{first_axis, end_on, greatest_end, IsWellFormedRow}
use Rattle.enfilade_core.specs.WellFormed.{AreWellFormed, IsWellFormedBranch}
use Rattle.enfilade_core.specs.Planes.{text_widths}
use Rattle.enfilade_core.specs.PlaneLaws.{text_widths_stay}
use Rattle.enfilade_core.specs.Laws.{rows_from}
use Rattle.enfilade_core.proofs.Parts.{rows-well_formed}
use Rattle.enfilade_core.proofs.GoneThrough.{item-well_formed, mapped_at}
use Rattle.enfilade_core.proofs.Orders.{All-unflat}
use Rattle.enfilade_core.proofs.Seen.{rows-not_moved}
use Rattle.enfilade_core.proofs.Tells.{Moves, MovesOn, all_move, moves_first, greatest_end-moved}
use Rattle.tumbler.proofs.SumOrder.{fits_if_tumbler}
use Rattle.enfilade_search.specs.Sought.{ChildFits}
use Rattle.enfilade_search.proofs.Children.{child_rows, rows_of_branches}
use Rattle.enfilade_search.proofs.Touching.{tumbler-later}
use Rattle.granfilade.specs.Content.{ByteAt, ContentTree, so_far_on, content, tree_rows, bytes_in}
use Rattle.granfilade.specs.Puts.{IsContent}
use Rattle.granfilade.specs.Whole.{span_from}
use Rattle.granfilade.proofs.ReadBytes.{ends_up_to}
use Rattle.poom.specs.declared.piece.Piece.{Piece}
use Rattle.poom.specs.Pieces.{IsPiece, address_in, addresses_from, piece_addresses, laid, piece_row, row_piece, pieces_in}
use Rattle.poom.specs.Pieces as pieces
use Rattle.poom.specs.Laid.{IsRoot, texts}
use Rattle.poom.specs.Edited.{IsContentRun}
use Rattle.poom.specs.Positions.{IsPieceRow, StandsBetween, clip}
use Rattle.poom.proofs.Back.{same_piece}
use Rattle.poom.proofs.Documents.{made_of}
use Rattle.poom.proofs.WellFormedRows.{sum-place}
use Rattle.poom.proofs.Showing.{document_rows}
use Rattle.poom.proofs.Betweens.{middle, middle-over, middle-own, middle-late, middle-early, no-middle}
use Rattle.links.proofs.RunPlaces.{run_fits_at}
use Rattle.tree_world.specs.inside.Seen.{byte_found, bytes_found, text_run}
use Rattle.tree_world.specs.inside.Wanted.{row_between, bytes_between}
use Rattle.tree_world.proofs.Runs.{is_run}
use Rattle.tree_world.proofs.Retrieved.{run_end, run_read}
use Rattle.poom.proofs.Back.{length-addresses}

abbrev shown : ℕ → ℕ → List (Row ℕ) → List (List ℕ)
shown from to rows = flat_map (row_between from to) rows

-- ---- what a row shows

nothing_clipped : (from to n : ℕ) (x : Piece) → min x.count (to - n) - (from - n) ≡ 0 → row_between from to (pieces.piece_row 1 n x) ≡ []
nothing_clipped from to n x none = ap (addresses_from 1 (row_piece (pieces.piece_row 1 n x)).document ((row_piece (pieces.piece_row 1 n x)).first + (from - n))) none

abbrev Nothing : ℕ → ℕ → Row ℕ → Type 0
Nothing from to row = row_between from to row ≡ []

-- a row among the links shows nothing there
by_links : (from to : ℕ) (row : Row ℕ) (part n : ℕ) (x : Piece) → (part ≡ 1) ⊎ (part ≡ 2) → row ≡ pieces.piece_row part n x → place row.first 0 ≢ 1 → Nothing from to row
by_links from to row part n x (inl one) is other = absurd (other (ap (λ (r : Row ℕ). place r.first 0) is ∙ one))
by_links from to row part n x (inr two) is other = subst (Nothing from to) (sym (is ∙ ap (λ (p : ℕ). pieces.piece_row p n x) two)) refl

row_links : (from to : ℕ) (row : Row ℕ) → IsPieceRow row → place row.first 0 ≢ 1 → Nothing from to row
row_links from to row r other = by_links from to row r.part r.n r.piece r.one_of_two r.is other

-- one that begins behind what is wanted, or ends before it, shows nothing
by_late : (from to : ℕ) (row : Row ℕ) (part n : ℕ) (x : Piece) → (part ≡ 1) ⊎ (part ≡ 2) → row ≡ pieces.piece_row part n x → to ≤ place row.first 1 → Nothing from to row
by_late from to row part n x (inr two) is le = subst (Nothing from to) (sym (is ∙ ap (λ (p : ℕ). pieces.piece_row p n x) two)) refl
by_late from to row part n x (inl one) is le =
    let at : place row.first 1 ≡ n = ap (λ (r : Row ℕ). place r.first 1) is in
    subst (Nothing from to) (sym (is ∙ ap (λ (p : ℕ). pieces.piece_row p n x) one)) (nothing_clipped from to n x (omega (arith, le, at)))

row_late : (from to : ℕ) (row : Row ℕ) → IsPieceRow row → to ≤ place row.first 1 → Nothing from to row
row_late from to row r le = by_late from to row r.part r.n r.piece r.one_of_two r.is le

by_early : (from to : ℕ) (row : Row ℕ) (part n : ℕ) (x : Piece) → (part ≡ 1) ⊎ (part ≡ 2) → row ≡ pieces.piece_row part n x → place row.first 1 + row.leaf ≤ from → Nothing from to row
by_early from to row part n x (inr two) is le = subst (Nothing from to) (sym (is ∙ ap (λ (p : ℕ). pieces.piece_row p n x) two)) refl
by_early from to row part n x (inl one) is le =
    let ends : place row.first 1 + row.leaf ≡ n + x.count = ap (λ (r : Row ℕ). place r.first 1 + r.leaf) is in
    subst (Nothing from to) (sym (is ∙ ap (λ (p : ℕ). pieces.piece_row p n x) one)) (nothing_clipped from to n x (omega (arith, le, ends)))

row_early : (from to : ℕ) (row : Row ℕ) → IsPieceRow row → place row.first 1 + row.leaf ≤ from → Nothing from to row
row_early from to row r le = by_early from to row r.part r.n r.piece r.one_of_two r.is le

-- by the V-addresses of what is wanted
first_late : (to part n : ℕ) → (part ≡ 1) ⊎ (part ≡ 2) → IsUpTo (1 ∷ to ∷ []) (part ∷ n ∷ []) → (part ≡ 1) → to ≤ n
first_late to part n one le is = elim (upto_cases 1 part (to ∷ []) (n ∷ []) le) [
  | inl less ↦ absurd (omega (arith, less, is))
  | inr same ↦ elim (upto_cases to n [] [] same.1) [
    | inl lt ↦ omega (arith, lt)
    | inr eq ↦ omega (arith, eq.0)
  ]
]

past_end : (from to : ℕ) (row : Row ℕ) → IsPieceRow row → IsUpTo (1 ∷ to ∷ []) row.first → Nothing from to row
past_end from to row r le = elim r.one_of_two [
  | inr two ↦ row_links from to row r (λ e. let at : 1 ≡ 2 = sym e ∙ ap (λ (w : Row ℕ). place w.first 0) r.is ∙ two in absurd (omega (arith, at)))
  | inl one ↦
      let at : place row.first 1 ≡ r.n = ap (λ (w : Row ℕ). place w.first 1) r.is in
      let n = first_late to r.part r.n r.one_of_two (subst (λ (w : Row ℕ). IsUpTo (1 ∷ to ∷ []) w.first) r.is le) one in
      row_late from to row r (omega (arith, n, at))
]

ends_early : (from part n : ℕ) → (part ≡ 1) → IsUpTo (part ∷ n ∷ []) (1 ∷ from ∷ []) → n ≤ from
ends_early from part n is le = elim (upto_cases part 1 (n ∷ []) (from ∷ []) le) [
  | inl less ↦ absurd (omega (arith, less, is))
  | inr same ↦ elim (upto_cases n from [] [] same.1) [
    | inl lt ↦ omega (arith, lt)
    | inr eq ↦ omega (arith, eq.0)
  ]
]

before_start : (from to : ℕ) (row : Row ℕ) → IsPieceRow row → IsUpTo (end_on (first_axis text_widths) row) (1 ∷ from ∷ []) → Nothing from to row
before_start from to row r le = elim r.one_of_two [
  | inr two ↦ row_links from to row r (λ e. let at : 1 ≡ 2 = sym e ∙ ap (λ (w : Row ℕ). place w.first 0) r.is ∙ two in absurd (omega (arith, at)))
  | inl one ↦
      let filled = r.is_piece.filled in
      let ends : end_on (first_axis text_widths) row ≡ r.part ∷ (r.n + r.piece.count) ∷ [] = ap (end_on (first_axis text_widths)) r.is ∙ sum-place r.part r.n r.piece.count filled in
      let n = ends_early from r.part (r.n + r.piece.count) one (subst (λ (a : List ℕ). IsUpTo a (1 ∷ from ∷ [])) ends le) in
      let at : place row.first 1 + row.leaf ≡ r.n + r.piece.count = ap (λ (w : Row ℕ). place w.first 1 + w.leaf) r.is in
      row_early from to row r (omega (arith, n, at))
]

-- ---- what a document shows

links_between : (from to n : ℕ) (zs : List Piece) → shown from to (pieces.rows_from 2 n zs) ≡ []
links_between from to n [] = refl
links_between from to n (z ∷ zs) = links_between from to (n + z.count) zs

texts_between : (from to n : ℕ) (xs : List Piece) → from < to → All IsPiece xs → shown from to (pieces.rows_from 1 n xs) ≡ middle from to n (laid 1 xs)
texts_between from to n [] h each = sym (no-middle from to n)
texts_between from to n (x ∷ xs) h each =
    let is = All-head IsPiece x xs each in
    let filled = is.filled in
    let long = length-addresses 1 x.document x.first x.count in
    let here = row_between from to (pieces.piece_row 1 n x) in
    let rest = texts_between from to (n + x.count) xs h (All-tail IsPiece x xs each) in
    let whole : middle from to n (laid 1 (x ∷ xs)) ≡ middle from to n (piece_addresses 1 x) ++ middle from to (n + x.count) (laid 1 xs) = middle-over from to n (n + x.count) (piece_addresses 1 x) (laid 1 xs) (omega arith) in
    let own : here ≡ middle from to n (piece_addresses 1 x) = own_part is.filled long in
    (λ i. own i ++ rest i) ∙ sym whole
  where
    own_part : 1 ≤ x.count → length (piece_addresses 1 x) ≡ x.count → row_between from to (pieces.piece_row 1 n x) ≡ middle from to n (piece_addresses 1 x)
    own_part filled long =
        let split : (to ≤ n) ⊎ ((n + x.count ≤ from) ⊎ ((n < to) × (from < n + x.count))) = grind arith in
        elim split [
          | inl late ↦ nothing_clipped from to n x (omega (arith, late)) ∙ sym (middle-late from to n (piece_addresses 1 x) late)
          | inr sooner ↦ elim sooner [
            | inl early ↦ nothing_clipped from to n x (omega (arith, early)) ∙ sym (middle-early from to n (piece_addresses 1 x) (omega (arith, early, long)))
            | inr there ↦ sym (middle-own 1 from to n x h there.0 there.1)
          ]
        ]

text_shown : (nodes : List (Shape ℕ)) (k from to : ℕ) → IsRoot nodes k → 1 ≤ from → from < to → shown from to (rows_of nodes k) ≡ take (to - from) (drop (from - 1) (texts (rows_of nodes k)))
text_shown nodes k from to root one h =
    let all = rows_of nodes k in
    let made = made_of all root.document in
    let xs = pieces_in 1 all in
    let zs = pieces_in 2 all in
    let count : to - (1 + (from - 1)) ≡ to - from = omega (arith, one) in
    ap (shown from to) made.are
    ∙ flat_map-append (row_between from to) (pieces.rows_from 1 1 xs) (pieces.rows_from 2 1 zs)
    ∙ ap (λ (rest : List (List ℕ)). shown from to (pieces.rows_from 1 1 xs) ++ rest) (links_between from to 1 zs)
    ∙ append-nil (shown from to (pieces.rows_from 1 1 xs))
    ∙ texts_between from to 1 xs h made.each
    ∙ ap (λ (c : ℕ). take c (drop (from - 1) (laid 1 xs))) count

-- ---- one row after the other

bytes-joined : (held : List ByteAt) (from to : ℕ) (xs ys : List (Row ℕ)) → bytes_between held from to (xs ++ ys) ≡ bytes_between held from to xs ++ bytes_between held from to ys
bytes-joined held from to xs ys = ap (bytes_found held) (flat_map-append (row_between from to) xs ys) ∙ filter_map-append (byte_found held) (shown from to xs) (shown from to ys)

-- what is appended behind what rows gave
more_read : (held : List ByteAt) (from to : ℕ) (xs ys : List (Row ℕ)) (start old new : List ℕ) → old ≡ start ++ bytes_between held from to xs → new ≡ old ++ bytes_between held from to ys → new ≡ start ++ bytes_between held from to (xs ++ ys)
more_read held from to xs ys start old new before pushed =
    pushed ∙ ap (λ (bs : List ℕ). bs ++ bytes_between held from to ys) before ∙ append_assoc start (bytes_between held from to xs) (bytes_between held from to ys) ∙ ap (λ (bs : List ℕ). start ++ bs) (sym (bytes-joined held from to xs ys))

pub row_read_next : (held : List ByteAt) (from to : ℕ) (a b : List ℕ) (rows : List (Row ℕ)) (i : ℕ) (row : Row ℕ) (start old new : List ℕ) → i < length rows → row ≡ get_or rows i row → old ≡ start ++ bytes_between held from to (map (moved a b) (take i rows))
    → new ≡ old ++ bytes_found held (row_between from to (moved a b row)) → new ≡ start ++ bytes_between held from to (map (moved a b) (take (i + 1) rows))
row_read_next held from to a b rows i row start old new lt at before pushed =
    more_read held from to (map (moved a b) (take i rows)) (moved a b row ∷ []) start old new before
    (pushed ∙ ap (λ (xs : List (List ℕ)). old ++ bytes_found held xs) (sym (append-nil (row_between from to (moved a b row)))))
    ∙ ap (λ (rs : List (Row ℕ)). start ++ bytes_between held from to rs)
    (ap (λ (r : Row ℕ). map (moved a b) (take i rows) ++ moved a b r ∷ []) at ∙ sym (map-append (moved a b) (take i rows) (get_or rows i row ∷ [])) ∙ ap (map (moved a b)) (sym (take_more rows i row lt)))

pub child_read_next : (held : List ByteAt) (from to : ℕ) (rows_of_child : Branch → List (Row ℕ)) (children : List Branch) (i : ℕ) (child : Branch) (start old new : List ℕ) → i < length children → child ≡ get_or children i child
    → old ≡ start ++ bytes_between held from to (flat_map rows_of_child (take i children)) → new ≡ old ++ bytes_between held from to (rows_of_child child) → new ≡ start ++ bytes_between held from to (flat_map rows_of_child (take (i + 1) children))
child_read_next held from to rows children i child start old new lt at before pushed =
    more_read held from to (flat_map rows (take i children)) (rows child) start old new before pushed
    ∙ ap (λ (rs : List (Row ℕ)). start ++ bytes_between held from to rs)
    (ap (λ (c : Branch). flat_map rows (take i children) ++ rows c) at
    ∙ ap (λ (rs : List (Row ℕ)). flat_map rows (take i children) ++ rs) (sym (append-nil (rows (get_or children i child))))
    ∙ sym (flat_map-append rows (take i children) (get_or children i child ∷ [])) ∙ ap (flat_map rows) (sym (take_more children i child lt)))

pub children_read_all : (held : List ByteAt) (from to : ℕ) (nodes : List (Shape ℕ)) (k : ℕ) (a b : List ℕ) (children : List Branch) (i : ℕ) (start now : List ℕ) → AreWellFormed text_widths nodes → k < length nodes → node_at nodes k ≡ Branches children → length children ≤ i
    → now ≡ start ++ bytes_between held from to (flat_map (child_rows nodes a b) (take i children)) → now ≡ start ++ bytes_between held from to (rows_from nodes k a b)
children_read_all held from to nodes k a b children i start now well_formed there is le so_far =
    so_far ∙ ap (λ (cs : List Branch). start ++ bytes_between held from to (flat_map (child_rows nodes a b) cs)) (take_all i children le)
    ∙ ap (λ (rs : List (Row ℕ)). start ++ bytes_between held from to rs) (sym (rows_of_branches text_widths nodes k a b children well_formed there is))

-- nothing is appended where there is nothing
none_read : (held : List ByteAt) (old : List ℕ) (addresses : List (List ℕ)) → addresses ≡ [] → old ≡ old ++ bytes_found held addresses
none_read held old addresses none = sym (ap (λ (xs : List (List ℕ)). old ++ bytes_found held xs) none ∙ append-nil old)

-- ---- where a child ends

text_end : (nodes : List (Shape ℕ)) (child : Branch) (a b : List ℕ) → AreWellFormed text_widths nodes → IsWellFormedBranch text_widths nodes child → sum a child.first_extent ≡ greatest_end (first_axis text_widths) (rows_from nodes child.node.0 a b)
text_end nodes child a b well_formed branch =
    let rows = rows_of nodes child.node.0 in
    let own = rows-well_formed text_widths nodes child.node.0 well_formed branch.below in
    ap (sum a) branch.first_extent
    ∙ sym (greatest_end-moved (first_axis text_widths) a (moved a b) rows branch.filled (All-weaker (Moves text_widths) (MovesOn (first_axis text_widths) a (moved a b)) (moves_first text_widths a b) rows (all_move text_widths text_widths_stay rows own)))

end_tumbler : (rows : List (Row ℕ)) → All (IsWellFormedRow text_widths) rows → IsTumbler (greatest_end (first_axis text_widths) rows)
end_tumbler [] well_formed = record { few = omega arith; small = All-nil (λ p. p < 2 ^ 32); ends = λ _. refl }
end_tumbler (row ∷ rows) well_formed =
    tumbler-later (end_on (first_axis text_widths) row) (greatest_end (first_axis text_widths) rows) (All-head (IsWellFormedRow text_widths) row rows well_formed).first_end (end_tumbler rows (All-tail (IsWellFormedRow text_widths) row rows well_formed))

pub text_extent_fits : (nodes : List (Shape ℕ)) (child : Branch) (a b first : List ℕ) → AreWellFormed text_widths nodes → ChildFits text_widths nodes child a b → first ≡ sum a child.first → Fits first child.first_extent
text_extent_fits nodes child a b first well_formed fits f =
    fits_if_tumbler first child.first_extent
    (subst IsTumbler (sym (ap (λ (x : List ℕ). sum x child.first_extent) f ∙ text_end nodes child (sum a child.first) (sum b child.second) well_formed fits.branch)) (end_tumbler (child_rows nodes a b child) fits.below.rows))

-- a row as the node has it
pub row_item : (P : Row ℕ → Type 0) (a b : List ℕ) (rows : List (Row ℕ)) (i : ℕ) (row : Row ℕ) → All P (map (moved a b) rows) → i < length rows → row ≡ get_or rows i row → P (moved a b row)
row_item P a b rows i row all lt at = let m = mapped_at (moved a b) rows i row lt at in item-well_formed P (map (moved a b) rows) i (moved a b row) m.short m.at all

-- the rows of one child of those that a node has
pub child_item : (P : Row ℕ → Type 0) (nodes : List (Shape ℕ)) (k : ℕ) (a b : List ℕ) (children : List Branch) (i : ℕ) (child : Branch) → AreWellFormed text_widths nodes → k < length nodes → node_at nodes k ≡ Branches children → All P (rows_from nodes k a b) → i < length children → child ≡ get_or children i child
    → All P (child_rows nodes a b child)
child_item P nodes k a b children i child well_formed there is all lt at =
    item-well_formed (λ c. All P (child_rows nodes a b c)) children i child lt at (All-unflat P (child_rows nodes a b) children (subst (All P) (rows_of_branches text_widths nodes k a b children well_formed there is) all))

-- ---- a child that is not opened

all_nothing : (from to : ℕ) (rows : List (Row ℕ)) → All (Nothing from to) rows → shown from to rows ≡ []
all_nothing from to [] none = refl
all_nothing from to (row ∷ rows) none = λ i. All-head (Nothing from to) row rows none i ++ all_nothing from to rows (All-tail (Nothing from to) row rows none) i

both_all : (P Q R : Row ℕ → Type 0) (rows : List (Row ℕ)) → ((row : Row ℕ) → P row → Q row → R row) → All P rows → All Q rows → All R rows
both_all P Q R [] f p q = All-nil R
both_all P Q R (row ∷ rows) f p q = All-cons R row rows (f row (All-head P row rows p) (All-head Q row rows q)) (both_all P Q R rows f (All-tail P row rows p) (All-tail Q row rows q))

pub child_late : (held : List ByteAt) (from to : ℕ) (nodes : List (Shape ℕ)) (child : Branch) (a b first end old : List ℕ) (is_before : Bool) → AreWellFormed text_widths nodes → ChildFits text_widths nodes child a b → All IsPieceRow (child_rows nodes a b child)
    → first ≡ sum a child.first → end ≡ 1 ∷ to ∷ [] → is_before ≡ comes_before first end → is_before ≡ false → old ≡ old ++ bytes_between held from to (child_rows nodes a b child)
child_late held from to nodes child a b first end old is_before well_formed fits each f e is ends =
    let at = sum a child.first in
    let over : IsUpTo (1 ∷ to ∷ []) at = up_to_if_false at (1 ∷ to ∷ []) ((λ k. comes_before (sym f k) (sym e k)) ∙ sym is ∙ ends) in
    let own = rows-well_formed text_widths nodes child.node.0 well_formed fits.branch.below in
    let rows = child_rows nodes a b child in
    let past : All (λ r. IsUpTo at r.first) rows = All-map (λ r. IsUpTo at r.first) (moved at (sum b child.second)) (rows_of nodes child.node.0)
    (All-weaker (IsWellFormedRow text_widths) (λ r. IsUpTo at (sum at r.first)) (λ r h. sum-upto at r.first h.first_coordinate.ends) (rows_of nodes child.node.0) own) in
    none_read held old (shown from to rows) (all_nothing from to rows (both_all IsPieceRow (λ r. IsUpTo at r.first) (Nothing from to) rows (λ row p le. past_end from to row p (upto_upto (1 ∷ to ∷ []) at row.first over le)) each past))

pub child_early : (held : List ByteAt) (from to : ℕ) (nodes : List (Shape ℕ)) (child : Branch) (a b first limit start old : List ℕ) (is_before : Bool) → AreWellFormed text_widths nodes → ChildFits text_widths nodes child a b → All IsPieceRow (child_rows nodes a b child)
    → first ≡ sum a child.first → limit ≡ sum first child.first_extent → start ≡ 1 ∷ from ∷ [] → is_before ≡ comes_before start limit → is_before ≡ false → old ≡ old ++ bytes_between held from to (child_rows nodes a b child)
child_early held from to nodes child a b first limit start old is_before well_formed fits each f l s is ends =
    let at = sum a child.first in
    let rows = child_rows nodes a b child in
    let over : IsUpTo limit (1 ∷ from ∷ []) = up_to_if_false (1 ∷ from ∷ []) limit ((λ k. comes_before (sym s k) limit) ∙ sym is ∙ ends) in
    let reach = l ∙ ap (λ (x : List ℕ). sum x child.first_extent) f ∙ text_end nodes child at (sum b child.second) well_formed fits.branch in
    let up_to = subst (λ (x : List ℕ). All (λ r. IsUpTo (end_on (first_axis text_widths) r) x) rows) (sym reach) (ends_up_to (first_axis text_widths) rows) in
    none_read held old (shown from to rows)
    (all_nothing from to rows (both_all IsPieceRow (λ r. IsUpTo (end_on (first_axis text_widths) r) limit) (Nothing from to) rows (λ row p le. before_start from to row p (upto_upto (end_on (first_axis text_widths) row) limit (1 ∷ from ∷ []) le over)) each up_to))

-- ---- the bytes of a piece

-- some of a piece's bytes, read from the address of the first of them
pub record IsPart (tree : ContentTree) (from to n count : ℕ) (address start : List ℕ) (many : ℕ) : Type 0 where
  pub fits : SpanFits (span_from start many)
  pub read : bytes_in (span_from start many) (content tree) ≡ bytes_found (content tree) (piece_addresses 1 (clip from to (record { first = 1 ∷ n ∷ []; second = address; leaf = count })))

part_of_piece : (tree : ContentTree) (from to n m : ℕ) (x : Piece) (start : List ℕ) (many : ℕ) → IsContent (tree_rows tree) → (row : Row ℕ) → row ≡ pieces.piece_row m n x → m ≡ 1 → IsPiece x → from < to → n < to → from < n + x.count
    → start ≡ address_in 1 x.document (x.first + (from - n)) → many ≡ min x.count (to - n) - (from - n)
    → SpanFits (span_from start many) × (bytes_in (span_from start many) (content tree) ≡ bytes_found (content tree) (piece_addresses 1 (clip from to row)))
part_of_piece tree from to n m x start many content_is row is one piece h b e s c =
    let run = text_run x.document (x.first + (from - n)) many in
    let begins = piece.from_one in
    let room = piece.fits in
    let good : IsContentRun run = record { document = piece.document; from_one = omega (arith, begins); filled = omega (arith, c, h, b, e); fits = omega (arith, c, room, e) } in
    let clipped : piece_addresses 1 (clip from to row) ≡ addresses_from 1 x.document (x.first + (from - n)) many =
    ap (λ (r : Row ℕ). piece_addresses 1 (clip from to r)) (is ∙ ap (λ (p : ℕ). pieces.piece_row p n x) one)
    ∙ ap (λ (p : Piece). addresses_from 1 p.document (p.first + (from - n)) (min p.count (to - n) - (from - n))) (same_piece 1 n x)
    ∙ ap (addresses_from 1 x.document (x.first + (from - n))) (sym c) in (
      run_fits_at run start start (width_at (length start) many) (is_run run good) s refl refl,
      ap (λ (a : List ℕ). bytes_in (span_from a many) (content tree)) s ∙ run_read tree run content_is good ∙ ap (bytes_found (content tree)) (sym clipped),
    )

first_place : (p n : ℕ) (row : Row ℕ) (x : Piece) (k : ℕ) → row ≡ pieces.piece_row p k x → row.first ≡ 1 ∷ n ∷ [] → (p ≡ 1) × (k ≡ n)
first_place p n row x k is at = (sym (ap (λ (r : Row ℕ). place r.first 0) is) ∙ ap (λ (a : List ℕ). place a 0) at, sym (ap (λ (r : Row ℕ). place r.first 1) is) ∙ ap (λ (a : List ℕ). place a 1) at)

abbrev here : ℕ → List ℕ → ℕ → Row ℕ
here n address count = record { first = 1 ∷ n ∷ []; second = address; leaf = count }

pub piece_part : (tree : ContentTree) (from to n count : ℕ) (address start : List ℕ) (many : ℕ) → IsContent (tree_rows tree) → StandsBetween 1 from to (here n address count) → start ≡ so_far_on address (from - n) → many ≡ min count (to - n) - (from - n)
    → IsPart tree from to n count address start many
piece_part tree from to n count address start many content_is s begins c =
    let x = s.piece in
    let at : n ≡ s.n = ap (λ (r : Row ℕ). place r.first 1) s.is in
    let address_is : address ≡ address_in 1 x.document x.first = ap (λ (r : Row ℕ). r.second) s.is in
    let count_is : count ≡ x.count = ap (λ (r : Row ℕ). r.leaf) s.is in
    let b = s.begins in
    let e = s.ends in
    let there : start ≡ address_in 1 x.document (x.first + (from - n)) = begins ∙ ap (λ (a : List ℕ). so_far_on a (from - n)) address_is ∙ run_end (text_run x.document x.first (from - n)) in
    let both = part_of_piece tree from to n 1 x start many content_is (here n address count) (s.is ∙ ap (λ (k : ℕ). pieces.piece_row 1 k x) (sym at)) refl s.is_piece s.order (omega (arith, b, at)) (omega (arith, e, at)) there (c ∙ ap (λ (k : ℕ). min k (to - n) - (from - n)) count_is) in
    record { fits = both.0; read = both.1 }

-- the step to the first of those that are wanted
pub step_has_room : (from to n count before : ℕ) (address slice width : List ℕ) → StandsBetween 1 from to (here n address count) → before ≡ from - n → before ≢ 0 → slice ≡ address → width ≡ width_at (length slice) before → Fits address width
step_has_room from to n count before address slice width s b some slices widths =
    let x = s.piece in
    let at : n ≡ s.n = ap (λ (r : Row ℕ). place r.first 1) s.is in
    let address_is : address ≡ address_in 1 x.document x.first = ap (λ (r : Row ℕ). r.second) s.is in
    let begins = s.is_piece.from_one in
    let room = s.is_piece.fits in
    let ends = s.ends in
    let run = text_run x.document x.first before in
    let good : IsContentRun run = record { document = s.is_piece.document; from_one = begins; filled = omega (arith, some); fits = omega (arith, b, at, ends, room) } in
    run_fits_at run address slice width (is_run run good) address_is slices widths

-- ---- from the root

pub root_pieces : (nodes arena : List (Shape ℕ)) (k : ℕ) (zero_place : List ℕ) → arena ≡ nodes → zero_place ≡ [] → IsRoot nodes k → All IsPieceRow (rows_from arena k zero_place zero_place)
root_pieces nodes arena k zero_place same none root =
    subst (λ (ns : List (Shape ℕ)). All IsPieceRow (rows_from ns k zero_place zero_place)) (sym same)
    (subst (λ (o : List ℕ). All IsPieceRow (rows_from nodes k o o)) (sym none) (subst (All IsPieceRow) (sym (rows-not_moved (rows_of nodes k))) (document_rows (rows_of nodes k) root.document)))

pub text_read : (held : List ByteAt) (from to : ℕ) (nodes arena : List (Shape ℕ)) (k : ℕ) (zero_place text made : List ℕ) → arena ≡ nodes → zero_place ≡ [] → IsRoot nodes k → 1 ≤ from → from < to → text ≡ [] → made ≡ text ++ bytes_between held from to (rows_from arena k zero_place zero_place)
    → made ≡ bytes_found held (take (to - from) (drop (from - 1) (texts (rows_of nodes k))))
text_read held from to nodes arena k zero_place text made same none root one h empty is =
    is ∙ ap (λ (bs : List ℕ). bs ++ bytes_between held from to (rows_from arena k zero_place zero_place)) empty
    ∙ ap (λ (ns : List (Shape ℕ)). bytes_between held from to (rows_from ns k zero_place zero_place)) same
    ∙ ap (λ (o : List ℕ). bytes_between held from to (rows_from nodes k o o)) none
    ∙ ap (bytes_between held from to) (rows-not_moved (rows_of nodes k))
    ∙ ap (bytes_found held) (text_shown nodes k from to root one h)
