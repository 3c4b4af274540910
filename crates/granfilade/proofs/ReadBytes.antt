-- Bytes that are read: row by row, and node by node.
use Rattle.std.proofs.Common.{◌≡◌, ◌≢◌, ℕ, ◌+◌, ◌^◌, ◌<◌, ◌≤◌, Bool, true, false, List, [], ◌∷◌, ◌++◌, length, get_or, take, drop, map, refl, arith, ap, ◌∙◌, sym, subst, append_assoc, append-nil}
use Rattle.std.specs.List.{All, flat_map}
use Rattle.std.specs.Io.{StartsWith}
use Rattle.std.proofs.Math.Seq.{take-append_seam}
use Rattle.std.proofs.lemmas.Bool.{false_from_ne_true}
use Rattle.std.proofs.lemmas.List.{take_more, take_all, take-map, take-append-drop}
use Rattle.std.proofs.lemmas.List.Elements.{All-head, All-tail, All-nil, All-cons, All-weaker, All-map}
use Rattle.std.proofs.lemmas.Grind.{flat_map-append}
use Rattle.tumbler.specs.ListView.{ListView}
use Rattle.tumbler.specs.Places.{place_bound, IsTumbler, IsBefore, IsUpTo, Fits, comes_before, sum}
use Rattle.tumbler.specs.Span.{end_of}
use Rattle.tumbler.specs.declared.span.Span.{Span}
use Rattle.tumbler.proofs.Alls.{All-back}
use Rattle.tumbler.proofs.Before.{before_if_true, up_to_if_false}
use Rattle.tumbler.proofs.Order.{upto_before, upto_upto, upto_itself, never_before_itself}
use Rattle.tumbler.proofs.Sums.{sum-upto}
use Rattle.tumbler.proofs.SumOrder.{fits_if_tumbler}
use Rattle.enfilade_core.specs.declared.tree.Row.{Row}
use Rattle.enfilade_core.specs.declared.tree.Branch.{Branch}
use Rattle.enfilade_core.specs.Rows.{Shape, Branches, moved, rows_of, node_at}
use Rattle.enfilade_core.specs.Axes.{Axis, first_axis, end_on, greatest_end, InOrder, IsWellFormedRow}
use Rattle.enfilade_core.specs.WellFormed.{IsWellFormedBranch, AreWellFormed}
use Rattle.enfilade_core.specs.Plain.{plain_row}
use Rattle.enfilade_core.specs.Planes.{content_widths, plain_text}
use Rattle.enfilade_core.specs.PlaneLaws.{content_widths_stay}
use Rattle.enfilade_core.specs.Laws.{rows_from}
use Rattle.enfilade_core.proofs.Tells.{first_coordinate, Moves, MovesOn, all_move, moves_first, greatest_end-moved}
use Rattle.enfilade_core.proofs.Orders.{past_first, InOrder-back}
use Rattle.enfilade_core.proofs.Parts.{rows-well_formed}
use Rattle.enfilade_core.proofs.GoneThrough.{item-well_formed, mapped_at, around}
use Rattle.enfilade_search.specs.Sought.{FitsAt, ChildFits}
use Rattle.enfilade_search.proofs.Children.{child_rows, rows_of_branches, ordered_from}
use Rattle.enfilade_search.proofs.Placing.{first_fits}
use Rattle.enfilade_search.proofs.Touching.{first_up_to_later, second_up_to_later, tumbler-later, touches-ends}
use Rattle.granfilade.specs.Content.{laid_row, laid_out, bytes_in}
use Rattle.granfilade.specs.Steps.{last_of}
use Rattle.granfilade.proofs.Picking.{bytes_in-append}
use Rattle.granfilade.proofs.WellFormedRows.{row_filled, row_room}
use Rattle.granfilade.proofs.Finding.{is_met, no_part}

abbrev ContentRow : Type 0
ContentRow = Row (ListView ℕ)

abbrev WellFormedRow : ContentRow → Type 0
WellFormedRow = IsWellFormedRow content_widths

abbrev read : Span → List ContentRow → List ℕ
read span rows = bytes_in span (laid_out rows)

-- rows as a node has them, from where the node is seen
abbrev placed : List ℕ → List ℕ → List ContentRow → List ContentRow
placed a b rows = map (moved a b) (map (plain_row plain_text) rows)

read-append : (span : Span) (xs ys : List ContentRow) → read span (xs ++ ys) ≡ read span xs ++ read span ys
read-append span xs ys = ap (bytes_in span) (flat_map-append laid_row xs ys) ∙ bytes_in-append span (laid_out xs) (laid_out ys)

-- rows of which the last have no byte in the span
read-front : (span : Span) (xs ys : List ContentRow) → read span ys ≡ [] → read span (xs ++ ys) ≡ read span xs
read-front span xs ys none = read-append span xs ys ∙ ap (λ (bs : List ℕ). read span xs ++ bs) none ∙ append-nil (read span xs)

-- ---- rows that have no byte in the span

no-bytes : (span : Span) → IsTumbler span.start → (rows : List ContentRow) → All WellFormedRow rows → All (λ r. is_met span r ≡ false) rows → read span rows ≡ []
no-bytes span t [] well_formed out = refl
no-bytes span t (row ∷ rows) well_formed out =
    bytes_in-append span (laid_row row) (laid_out rows)
    ∙ (λ k. no_part span row t (All-head WellFormedRow row rows well_formed) (All-head (λ r. is_met span r ≡ false) row rows out) k ++ no-bytes span t rows (All-tail WellFormedRow row rows well_formed) (All-tail (λ r. is_met span r ≡ false) row rows out) k)

-- they stand where the span ends, or past it
past-met : (span : Span) (at : List ℕ) (row : ContentRow) → IsUpTo (end_of span) at → IsUpTo at row.first → is_met span row ≡ false
past-met span at row ends le = false_from_ne_true (is_met span row) (λ is.
    let lt = (touches-ends span.start (end_of span) row.first (content_widths.first row) is).0 in
    never_before_itself (end_of span) (upto_before (end_of span) row.first (end_of span) (upto_upto (end_of span) at row.first ends le) lt))

read-past : (span : Span) (at : List ℕ) (rows : List ContentRow) → IsTumbler span.start → IsUpTo (end_of span) at → All WellFormedRow rows → All (λ r. IsUpTo at r.first) rows → read span rows ≡ []
read-past span at rows t ends well_formed le = no-bytes span t rows well_formed (All-weaker (λ r. IsUpTo at r.first) (λ r. is_met span r ≡ false) (λ r. past-met span at r ends) rows le)

-- they end before it starts
before-met : (span : Span) (limit : List ℕ) (row : ContentRow) → IsBefore limit span.start → IsUpTo (end_on (first_axis content_widths) row) limit → is_met span row ≡ false
before-met span limit row lt le = false_from_ne_true (is_met span row) (λ is.
    let end = end_on (first_axis content_widths) row in
    let ge = (touches-ends span.start (end_of span) row.first (content_widths.first row) is).1 in
    never_before_itself span.start (upto_before span.start limit span.start (upto_upto span.start end limit ge le) lt))

read-before : (span : Span) (limit : List ℕ) (rows : List ContentRow) → IsTumbler span.start → IsBefore limit span.start → All WellFormedRow rows → All (λ r. IsUpTo (end_on (first_axis content_widths) r) limit) rows → read span rows ≡ []
read-before span limit rows t lt well_formed le = no-bytes span t rows well_formed (All-weaker (λ r. IsUpTo (end_on (first_axis content_widths) r) limit) (λ r. is_met span r ≡ false) (λ r. before-met span limit r lt) rows le)

-- ---- in a bottom node

-- a row as the node has it, from where the node is seen
well_formed_at : (a b : List ℕ) (rows : List ContentRow) (i : ℕ) (row : ContentRow) → All WellFormedRow (placed a b rows) → i < length rows → row ≡ get_or rows i row → WellFormedRow (moved a b (plain_row plain_text row))
well_formed_at a b rows i row well_formed lt at =
    let once = mapped_at (plain_row plain_text) rows i row lt at in
    let twice = mapped_at (moved a b) (map (plain_row plain_text) rows) i (plain_row plain_text row) once.short once.at in
    item-well_formed WellFormedRow (placed a b rows) i (moved a b (plain_row plain_text row)) twice.short twice.at well_formed

-- from a row on that stands where the span ends, or past it, there is nothing more
pub rows-end : (span : Span) (a b : List ℕ) (rows : List ContentRow) (i : ℕ) (row : ContentRow) (first end held now : List ℕ) (is_before : Bool) → IsTumbler span.start → All WellFormedRow (placed a b rows) → InOrder (placed a b rows) → i < length rows → row ≡ get_or rows i row
    → first ≡ sum a row.first → end ≡ end_of span → is_before ≡ comes_before first end → is_before ≡ false → now ≡ held ++ read span (placed a b (take i rows)) → now ≡ held ++ read span (placed a b rows)
rows-end span a b rows i row first end held now is_before t well_formed ordered lt at f e is ends so_far =
    let here = moved a b (plain_row plain_text row) in
    let whole = placed a b rows in
    let place = sum a row.first in
    let once = mapped_at (plain_row plain_text) rows i row lt at in
    let twice = mapped_at (moved a b) (map (plain_row plain_text) rows) i (plain_row plain_text row) once.short once.at in
    let split = around whole i here twice.short twice.at in
    let rest = here ∷ drop (i + 1) whole in
    let over : IsUpTo (end_of span) place = up_to_if_false place (end_of span) ((λ k. comes_before (sym f k) (sym e k)) ∙ sym is ∙ ends) in
    let behind = past_first place rest (InOrder-back (take i whole) rest (subst InOrder split ordered)) (λ _. upto_itself place) in
    let none = read-past span place rest t over (All-back WellFormedRow (take i whole) rest (subst (All WellFormedRow) split well_formed)) behind in
    let front : take i whole ≡ placed a b (take i rows) = take-map (moved a b) i (map (plain_row plain_text) rows) ∙ ap (map (moved a b)) (take-map (plain_row plain_text) i rows) in
    so_far ∙ ap (λ (bs : List ℕ). held ++ bs) (sym (ap (read span) split ∙ read-front span (take i whole) rest none ∙ ap (read span) front))

-- what a row asks for where it is read
pub record RowReads (first bytes : List ℕ) : Type 0 where
  pub filled : first ≢ []
  pub room : last_of first + length bytes < place_bound

pub row_fits : (a b : List ℕ) (rows : List ContentRow) (i : ℕ) (row : ContentRow) → All WellFormedRow (placed a b rows) → i < length rows → row ≡ get_or rows i row → Fits a row.first
row_fits a b rows i row well_formed lt at = first_fits content_widths a b (plain_row plain_text row) (well_formed_at a b rows i row well_formed lt at)

pub row_reads : (a b : List ℕ) (rows : List ContentRow) (i : ℕ) (row : ContentRow) (first bytes : List ℕ) → All WellFormedRow (placed a b rows) → i < length rows → row ≡ get_or rows i row → first ≡ sum a row.first → bytes ≡ row.leaf.items → RowReads first bytes
row_reads a b rows i row first bytes well_formed lt at f is =
    let here = moved a b (plain_row plain_text row) in
    let one = well_formed_at a b rows i row well_formed lt at in
    record {
      filled = subst (λ (x : List ℕ). x ≢ []) (sym f) (row_filled here one);
      room = subst (λ (x : List ℕ). last_of x + length bytes < place_bound) (sym f) (subst (λ (bs : List ℕ). last_of (sum a row.first) + length bs < place_bound) (sym is) (row_room here one));
    }

-- ---- one child

pub ends_up_to : {L : Type 0} (axis : Axis L) (rows : List (Row L)) → All (λ r. IsUpTo (end_on axis r) (greatest_end axis rows)) rows
ends_up_to axis [] = All-nil (λ r. IsUpTo (end_on axis r) (greatest_end axis []))
ends_up_to axis (row ∷ rows) =
    let P : Row _ → Type 0 = λ r. IsUpTo (end_on axis r) (greatest_end axis (row ∷ rows)) in
    let rest = greatest_end axis rows in
    All-cons P row rows (first_up_to_later (end_on axis row) rest)
    (All-weaker (λ r. IsUpTo (end_on axis r) rest) P (λ r le. upto_upto (end_on axis r) rest (greatest_end axis (row ∷ rows)) le (second_up_to_later (end_on axis row) rest)) rows (ends_up_to axis rows))

end-tumbler : (rows : List ContentRow) → All WellFormedRow rows → IsTumbler (greatest_end (first_axis content_widths) rows)
end-tumbler [] well_formed = record { few = omega arith; small = All-nil (λ p. p < 2 ^ 32); ends = λ _. refl }
end-tumbler (row ∷ rows) well_formed =
    tumbler-later (end_on (first_axis content_widths) row) (greatest_end (first_axis content_widths) rows) (All-head WellFormedRow row rows well_formed).first_end (end-tumbler rows (All-tail WellFormedRow row rows well_formed))

-- the end of a child is the greatest end of its rows
child-end : (nodes : List (Shape (ListView ℕ))) (child : Branch) (a b : List ℕ) → AreWellFormed content_widths nodes → IsWellFormedBranch content_widths nodes child → sum a child.first_extent ≡ greatest_end (first_axis content_widths) (rows_from nodes child.node.0 a b)
child-end nodes child a b well_formed branch =
    let w = content_widths in
    let rows = rows_of nodes child.node.0 in
    let own = rows-well_formed w nodes child.node.0 well_formed branch.below in
    ap (sum a) branch.first_extent
    ∙ sym (greatest_end-moved (first_axis w) a (moved a b) rows branch.filled (All-weaker (Moves w) (MovesOn (first_axis w) a (moved a b)) (moves_first w a b) rows (all_move w content_widths_stay rows own)))

pub extent_fits : (nodes : List (Shape (ListView ℕ))) (child : Branch) (a b first : List ℕ) → AreWellFormed content_widths nodes → ChildFits content_widths nodes child a b → first ≡ sum a child.first → Fits first child.first_extent
extent_fits nodes child a b first well_formed fits f =
    fits_if_tumbler first child.first_extent
    (subst IsTumbler (sym (ap (λ (x : List ℕ). sum x child.first_extent) f ∙ child-end nodes child (sum a child.first) (sum b child.second) well_formed fits.branch)) (end-tumbler (child_rows nodes a b child) fits.below.rows))

-- rows that are seen from a place stand there or past it
at-or-past : (at b : List ℕ) (rows : List ContentRow) → All WellFormedRow rows → All (λ r. IsUpTo at r.first) (map (moved at b) rows)
at-or-past at b rows well_formed = All-map (λ r. IsUpTo at r.first) (moved at b) rows (All-weaker WellFormedRow (λ r. IsUpTo at (sum at r.first)) (λ r h. sum-upto at r.first h.first_coordinate.ends) rows well_formed)

-- a child that stands where the span ends, or past it
pub child-past : (span : Span) (nodes : List (Shape (ListView ℕ))) (child : Branch) (a b first end held : List ℕ) (is_before : Bool) → IsTumbler span.start → AreWellFormed content_widths nodes → ChildFits content_widths nodes child a b
    → first ≡ sum a child.first → end ≡ end_of span → is_before ≡ comes_before first end → is_before ≡ false → held ≡ held ++ read span (child_rows nodes a b child)
child-past span nodes child a b first end held is_before t well_formed fits f e is ends =
    let place = sum a child.first in
    let over : IsUpTo (end_of span) place = up_to_if_false place (end_of span) ((λ k. comes_before (sym f k) (sym e k)) ∙ sym is ∙ ends) in
    let own = rows-well_formed content_widths nodes child.node.0 well_formed fits.branch.below in
    let none = read-past span place (child_rows nodes a b child) t over fits.below.rows (at-or-past place (sum b child.second) (rows_of nodes child.node.0) own) in
    sym (ap (λ (bs : List ℕ). held ++ bs) none ∙ append-nil held)

-- a child that ends before the span starts
pub child-before : (span : Span) (nodes : List (Shape (ListView ℕ))) (child : Branch) (a b first limit held : List ℕ) (is_before : Bool) → IsTumbler span.start → AreWellFormed content_widths nodes → ChildFits content_widths nodes child a b
    → first ≡ sum a child.first → limit ≡ sum first child.first_extent → is_before ≡ comes_before limit span.start → is_before ≡ true → held ≡ held ++ read span (child_rows nodes a b child)
child-before span nodes child a b first limit held is_before t well_formed fits f l is starts =
    let rows = child_rows nodes a b child in
    let ends : limit ≡ greatest_end (first_axis content_widths) rows = l ∙ ap (λ (x : List ℕ). sum x child.first_extent) f ∙ child-end nodes child (sum a child.first) (sum b child.second) well_formed fits.branch in
    let none =
    read-before span limit rows t (before_if_true limit span.start (sym is ∙ starts)) fits.below.rows
    (subst (λ (x : List ℕ). All (λ r. IsUpTo (end_on (first_axis content_widths) r) x) rows) (sym ends) (ends_up_to (first_axis content_widths) rows)) in
    sym (ap (λ (bs : List ℕ). held ++ bs) none ∙ append-nil held)

-- ---- in an inner node

pub children-more : (span : Span) (rows : Branch → List ContentRow) (children : List Branch) (i : ℕ) (child : Branch) (held so_far now : List ℕ) → i < length children → child ≡ get_or children i child
    → so_far ≡ held ++ read span (flat_map rows (take i children)) → now ≡ so_far ++ read span (rows child) → now ≡ held ++ read span (flat_map rows (take (i + 1) children))
children-more span rows children i child held so_far now lt at before more =
    let front = flat_map rows (take i children) in
    let next : flat_map rows (take (i + 1) children) ≡ front ++ rows child =
    ap (flat_map rows) (take_more children i child lt ∙ ap (λ (c : Branch). take i children ++ c ∷ []) (sym at)) ∙ flat_map-append rows (take i children) (child ∷ []) ∙ ap (λ (rs : List ContentRow). front ++ rs) (append-nil (rows child)) in
    more ∙ ap (λ (bs : List ℕ). bs ++ read span (rows child)) before ∙ append_assoc held (read span front) (read span (rows child))
    ∙ ap (λ (bs : List ℕ). held ++ bs) (sym (read-append span front (rows child)) ∙ ap (read span) (sym next))

pub children-all : (span : Span) (nodes : List (Shape (ListView ℕ))) (k : ℕ) (a b : List ℕ) (children : List Branch) (i : ℕ) (held now : List ℕ) → AreWellFormed content_widths nodes → k < length nodes → node_at nodes k ≡ Branches children → length children ≤ i
    → now ≡ held ++ read span (flat_map (child_rows nodes a b) (take i children)) → now ≡ held ++ read span (rows_from nodes k a b)
children-all span nodes k a b children i held now well_formed there is le so_far =
    so_far ∙ ap (λ (cs : List Branch). held ++ read span (flat_map (child_rows nodes a b) cs)) (take_all i children le)
    ∙ ap (λ (rs : List ContentRow). held ++ read span rs) (sym (rows_of_branches content_widths nodes k a b children well_formed there is))

first-past : (at b : List ℕ) (rows rest : List ContentRow) → All WellFormedRow rows → rows ≢ [] → IsUpTo at (first_coordinate (map (moved at b) rows ++ rest))
first-past at b [] rest well_formed some = absurd (some refl)
first-past at b (row ∷ rows) rest well_formed some = sum-upto at row.first (All-head WellFormedRow row rows well_formed).first_coordinate.ends

-- behind a child that stands where the span ends, or past it, there is nothing more
pub children-end : (span : Span) (nodes : List (Shape (ListView ℕ))) (k : ℕ) (a b : List ℕ) (children : List Branch) (i : ℕ) (child : Branch) (held before now : List ℕ) (more : Bool) → IsTumbler span.start → AreWellFormed content_widths nodes → FitsAt content_widths nodes k a b
    → node_at nodes k ≡ Branches children → ChildFits content_widths nodes child a b → i < length children → child ≡ get_or children i child → more ≡ comes_before (sum a child.first) (end_of span) → more ≡ false
    → before ≡ held ++ read span (flat_map (child_rows nodes a b) (take i children)) → now ≡ before ++ read span (child_rows nodes a b child) → now ≡ held ++ read span (rows_from nodes k a b)
children-end span nodes k a b children i child held before now more t well_formed fits is fits_here lt at goes_on ends so_far here =
    let w = content_widths in
    let rows = child_rows nodes a b in
    let place = sum a child.first in
    let own = rows-well_formed w nodes child.node.0 well_formed fits_here.branch.below in
    let rest = flat_map rows (drop (i + 1) children) in
    let front = flat_map rows (take i children) in
    let up_to = flat_map rows (take (i + 1) children) in
    let whole = rows_of_branches w nodes k a b children well_formed fits.there is in
    let split : rows_from nodes k a b ≡ front ++ (rows child ++ rest) = whole ∙ ap (flat_map rows) (around children i child lt at) ∙ flat_map-append rows (take i children) (child ∷ drop (i + 1) children) in
    let parts : rows_from nodes k a b ≡ up_to ++ rest = whole ∙ ap (flat_map rows) (sym (take-append-drop (i + 1) children)) ∙ flat_map-append rows (take (i + 1) children) (drop (i + 1) children) in
    let over : IsUpTo (end_of span) place = up_to_if_false place (end_of span) (sym goes_on ∙ ends) in
    let ordered = InOrder-back front (rows child ++ rest) (subst InOrder split (ordered_from w nodes k a b well_formed fits.there)) in
    let behind = past_first place (rows child ++ rest) ordered (λ _. first-past place (sum b child.second) (rows_of nodes child.node.0) rest own fits_here.branch.filled) in
    let none =
    read-past span place rest t over (All-back WellFormedRow up_to rest (subst (All WellFormedRow) parts fits.rows)) (All-back (λ r. IsUpTo place r.first) (rows child) rest behind) in
    children-more span rows children i child held before now lt at so_far here ∙ ap (λ (bs : List ℕ). held ++ bs) (sym (ap (read span) parts ∙ read-front span up_to rest none))

-- what began with more begins with what that began with
pub front-more : (held more so_far now : List ℕ) → so_far ≡ held ++ more → StartsWith now so_far → StartsWith now held
front-more held more so_far now is starts =
    let rest = drop (length so_far) now in
    ap (take (length held)) (sym (take-append-drop (length so_far) now) ∙ ap (λ (xs : List ℕ). xs ++ rest) (starts ∙ is) ∙ append_assoc held more rest) ∙ take-append_seam held (more ++ rest)

pub ruleset fronts = (front-more)
