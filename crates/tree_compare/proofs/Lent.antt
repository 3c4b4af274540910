-- The bytes of a tree's rows, lent row by row.
use Rattle.std.proofs.Common.{◌≡◌, ◌≢◌, ℕ, ◌+◌, ◌<◌, ◌≤◌, List, [], ◌∷◌, ◌++◌, length, get_or, take, map, refl, arith, ap, ◌∙◌, sym, subst, append_assoc, append-nil}
use Rattle.std.specs.List.{All, flat_map}
use Rattle.std.proofs.lemmas.List.{take_more, take_all, flat_map_more, map-append}
use Rattle.std.proofs.lemmas.List.Concat.{flat_map-append}
use Rattle.std.proofs.lemmas.List.Elements.{All-nil, All-weaker, All-push}
use Rattle.tumbler.specs.ListView.{ListView}
use Rattle.tumbler.specs.Places.{place_bound, IsTumbler, sum, Fits}
use Rattle.tumbler.proofs.Alls.{All-unmapped}
use Rattle.tumbler.proofs.SumOrder.{fits_if_tumbler}
use Rattle.tumbler.proofs.Sums.{sums_associate, sum-from_zero}
use Rattle.enfilade_core.specs.declared.tree.Row.{Row}
use Rattle.enfilade_core.specs.declared.tree.Branch.{Branch}
use Rattle.enfilade_core.specs.Rows.{Shape, Rows, Branches, moved, branch_rows, rows_in, rows_table, rows_of, node_at}
use Rattle.enfilade_core.specs.Axes.{IsWellFormedRow}
use Rattle.enfilade_core.specs.WellFormed.{AreWellFormed}
use Rattle.enfilade_core.specs.Plain.{plain_row}
use Rattle.enfilade_core.specs.Planes.{content_widths, plain_text}
use Rattle.enfilade_core.proofs.Parts.{rows-said}
use Rattle.enfilade_core.proofs.GoneThrough.{item-well_formed, mapped_at}
use Rattle.enfilade_search.specs.Sought.{FitsAt, ChildFits}
use Rattle.enfilade_search.proofs.Children.{child_at, bottom_fits, root_fits}
use Rattle.granfilade.specs.Content.{ContentTree, ByteAt, laid, laid_out, content}
use Rattle.granfilade.proofs.WellFormedRows.{row_filled, row_some, row_room}
use Rattle.granfilade.specs.Steps.{last_of}
use Rattle.tree_compare.specs.declared.stretch.Stretch.{Stretch}
use Rattle.tree_compare.specs.Stretches.{laid_stretch, laid_stretches, IsStretch, laid_row_at, laid_at, LiesAt}

abbrev ContentRow : Type 0
ContentRow = Row (ListView ℕ)

abbrev WellFormedRow : ContentRow → Type 0
WellFormedRow = IsWellFormedRow content_widths

-- ---- rows of a bottom node

lies : (a b : List ℕ) (row : ContentRow) → WellFormedRow (moved a b row) → LiesAt a row
lies a b row well_formed = record {
  fits = fits_if_tumbler a row.first well_formed.first_coordinate;
  placed = row_filled (moved a b row) well_formed;
  filled = row_some (moved a b row) well_formed;
  room = row_room (moved a b row) well_formed;
}

pub rows-lie : (nodes : List (Shape (ListView ℕ))) (k : ℕ) (a b : List ℕ) (rows : List ContentRow) → AreWellFormed content_widths nodes → node_at nodes k ≡ Rows rows → FitsAt content_widths nodes k a b → All (LiesAt a) rows
rows-lie nodes k a b rows well_formed is fits =
    All-weaker (λ (row : ContentRow). WellFormedRow (moved a b row)) (LiesAt a) (lies a b) rows (All-unmapped WellFormedRow (moved a b) rows (bottom_fits content_widths nodes k a b rows well_formed is fits).there)

-- a row by its number
pub row-lies : (first : List ℕ) (rows : List ContentRow) (i : ℕ) (row : ContentRow) → All (LiesAt first) (map (plain_row plain_text) rows) → i < length rows → row ≡ get_or rows i row → LiesAt first (plain_row plain_text row)
row-lies first rows i row all lt at = item-well_formed (λ (r : ContentRow). LiesAt first (plain_row plain_text r)) rows i row lt at (All-unmapped (LiesAt first) (plain_row plain_text) rows all)

pub stretch-is : (first : List ℕ) (row : ContentRow) (stretch : Stretch) → LiesAt first (plain_row plain_text row) → stretch.start ≡ sum first row.first → stretch.bytes.now ≡ row.leaf.items → IsStretch stretch
stretch-is first row stretch lies start bytes = record {
  placed = λ none. lies.placed (sym start ∙ none);
  filled = subst (λ (bs : List ℕ). 1 ≤ length bs) (sym bytes) lies.filled;
  room = subst (λ (s : List ℕ). last_of s + length stretch.bytes.now < place_bound) (sym start) (subst (λ (bs : List ℕ). last_of (sum first row.first) + length bs < place_bound) (sym bytes) lies.room);
}

pub stretches-more : (now more : List Stretch) (stretch : Stretch) → All IsStretch now → IsStretch stretch → more ≡ now ++ stretch ∷ [] → All IsStretch more
stretches-more now more stretch each one is = subst (All IsStretch) (sym is) (All-push IsStretch now stretch each one)

-- one more row
pub rows-more : (first : List ℕ) (rows : List ContentRow) (i : ℕ) (row : ContentRow) (stretch : Stretch) (held : List ByteAt) (now more : List Stretch) → i < length rows → row ≡ get_or rows i row → stretch.start ≡ sum first row.first → stretch.bytes.now ≡ row.leaf.items
    → laid_stretches now ≡ held ++ laid_at first (map (plain_row plain_text) (take i rows)) → more ≡ now ++ stretch ∷ [] → laid_stretches more ≡ held ++ laid_at first (map (plain_row plain_text) (take (i + 1) rows))
rows-more first rows i row stretch held now more lt at start bytes before is =
    let plain : List ContentRow → List ContentRow = map (plain_row plain_text) in
    let own : laid_stretch stretch ≡ laid_row_at first (plain_row plain_text row) = ap (λ (s : List ℕ). laid s stretch.bytes.now) start ∙ ap (laid (sum first row.first)) bytes in
    let last : laid_stretches (now ++ stretch ∷ []) ≡ laid_stretches now ++ laid_stretch stretch = sym (flat_map_more laid_stretch [] now stretch) in
    let front : plain (take (i + 1) rows) ≡ plain (take i rows) ++ plain_row plain_text row ∷ [] =
    ap plain (take_more rows i row lt ∙ ap (λ (r : ContentRow). take i rows ++ r ∷ []) (sym at)) ∙ map-append (plain_row plain_text) (take i rows) (row ∷ []) in
    ap laid_stretches is ∙ last ∙ ap (λ (bs : List ByteAt). bs ++ laid_stretch stretch) before ∙ ap (λ (bs : List ByteAt). (held ++ laid_at first (plain (take i rows))) ++ bs) own
    ∙ flat_map_more (laid_row_at first) held (plain (take i rows)) (plain_row plain_text row) ∙ ap (λ (rs : List ContentRow). held ++ laid_at first rs) (sym front)

pub rows-all : (first : List ℕ) (rows : List ContentRow) (i : ℕ) (held : List ByteAt) (now : List Stretch) → length rows ≤ i → laid_stretches now ≡ held ++ laid_at first (map (plain_row plain_text) (take i rows)) → laid_stretches now ≡ held ++ laid_at first (map (plain_row plain_text) rows)
rows-all first rows i held now le before = before ∙ ap (λ (rs : List ContentRow). held ++ laid_at first (map (plain_row plain_text) rs)) (take_all i rows le)

-- ---- a node's rows

pub bottom-laid : (nodes : List (Shape (ListView ℕ))) (k : ℕ) (a : List ℕ) (rows : List ContentRow) → AreWellFormed content_widths nodes → k < length nodes → node_at nodes k ≡ Rows rows → laid_at a rows ≡ laid_at a (rows_of nodes k)
bottom-laid nodes k a rows well_formed there is = ap (laid_at a) (sym (rows-said content_widths nodes k well_formed there ∙ ap (rows_in (rows_table nodes)) is))

-- the bytes below a child
abbrev pub child_laid : List (Shape (ListView ℕ)) → List ℕ → Branch → List ByteAt
child_laid nodes a child = laid_at (sum a child.first) (rows_of nodes child.node.0)

moved-laid : (a c d : List ℕ) (rows : List ContentRow) → laid_at a (map (moved c d) rows) ≡ laid_at (sum a c) rows
moved-laid a c d [] = refl
moved-laid a c d (row ∷ rows) =
    ap (λ (s : List ℕ). laid s row.leaf.items ++ laid_at a (map (moved c d) rows)) (sym (sums_associate a c row.first)) ∙ ap (λ (bs : List ByteAt). laid (sum (sum a c) row.first) row.leaf.items ++ bs) (moved-laid a c d rows)

branches-laid : (nodes : List (Shape (ListView ℕ))) (a : List ℕ) (branches : List Branch) → laid_at a (flat_map (branch_rows (rows_table nodes)) branches) ≡ flat_map (child_laid nodes a) branches
branches-laid nodes a [] = refl
branches-laid nodes a (child ∷ branches) =
    flat_map-append (laid_row_at a) (branch_rows (rows_table nodes) child) (flat_map (branch_rows (rows_table nodes)) branches)
    ∙ ap (λ (bs : List ByteAt). bs ++ laid_at a (flat_map (branch_rows (rows_table nodes)) branches)) (moved-laid a child.first child.second (rows_of nodes child.node.0))
    ∙ ap (λ (bs : List ByteAt). child_laid nodes a child ++ bs) (branches-laid nodes a branches)

-- one more child
pub children-more : (nodes : List (Shape (ListView ℕ))) (a b : List ℕ) (children : List Branch) (i : ℕ) (child : Branch) (held so_far now : List ByteAt) → i < length children → child ≡ get_or children i child → b ≡ sum a child.first
    → so_far ≡ held ++ flat_map (child_laid nodes a) (take i children) → now ≡ so_far ++ laid_at b (rows_of nodes child.node.0) → now ≡ held ++ flat_map (child_laid nodes a) (take (i + 1) children)
children-more nodes a b children i child held so_far now lt at from before more =
    more ∙ ap (λ (bs : List ByteAt). bs ++ laid_at b (rows_of nodes child.node.0)) before
    ∙ ap (λ (s : List ℕ). (held ++ flat_map (child_laid nodes a) (take i children)) ++ laid_at s (rows_of nodes child.node.0)) from
    ∙ flat_map_more (child_laid nodes a) held (take i children) child
    ∙ ap (λ (cs : List Branch). held ++ flat_map (child_laid nodes a) cs) (ap (λ (c : Branch). take i children ++ c ∷ []) at ∙ sym (take_more children i child lt))

pub children-all : (nodes : List (Shape (ListView ℕ))) (k : ℕ) (a : List ℕ) (children : List Branch) (i : ℕ) (held now : List ByteAt) → AreWellFormed content_widths nodes → k < length nodes → node_at nodes k ≡ Branches children → length children ≤ i
    → now ≡ held ++ flat_map (child_laid nodes a) (take i children) → now ≡ held ++ laid_at a (rows_of nodes k)
children-all nodes k a children i held now well_formed there is le before =
    before ∙ ap (λ (cs : List Branch). held ++ flat_map (child_laid nodes a) cs) (take_all i children le)
    ∙ ap (λ (bs : List ByteAt). held ++ bs) (sym (ap (laid_at a) (rows-said content_widths nodes k well_formed there ∙ ap (rows_in (rows_table nodes)) is) ∙ branches-laid nodes a children))

-- ---- a whole tree

from_zero : (rows : List ContentRow) → laid_at [] rows ≡ laid_out rows
from_zero [] = refl
from_zero (row ∷ rows) = ap (λ (s : List ℕ). laid s row.leaf.items ++ laid_at [] rows) (sum-from_zero row.first) ∙ ap (λ (bs : List ByteAt). laid row.first row.leaf.items ++ bs) (from_zero rows)

pub whole-laid : (zero : List ℕ) (rows : List ContentRow) (held now : List Stretch) → zero ≡ [] → held ≡ [] → laid_stretches now ≡ laid_stretches held ++ laid_at zero rows → laid_stretches now ≡ laid_out rows
whole-laid zero rows held now none empty is =
    is ∙ ap (λ (ss : List Stretch). laid_stretches ss ++ laid_at zero rows) empty ∙ ap (λ (z : List ℕ). laid_at z rows) none ∙ from_zero rows

pub fits-whole : (nodes : List (Shape (ListView ℕ))) (k : ℕ) (zero : List ℕ) → AreWellFormed content_widths nodes → k < length nodes → zero ≡ [] → (second : List ℕ) × FitsAt content_widths nodes k zero second
fits-whole nodes k zero well_formed there is = (zero, root_fits content_widths nodes k zero well_formed there is)

pub whole-told : (tree : ContentTree) (nodes : List (Shape (ListView ℕ))) (k : ℕ) (zero : List ℕ) (held now : List Stretch) → nodes ≡ tree.nodes → k ≡ tree.root → zero ≡ [] → held ≡ [] → laid_stretches now ≡ laid_stretches held ++ laid_at zero (rows_of nodes k) → laid_stretches now ≡ content tree
whole-told tree nodes k zero held now are at none empty is =
    whole-laid zero (rows_of nodes k) held now none empty is ∙ ap (λ (ns : List (Shape (ListView ℕ))). laid_out (rows_of ns k)) are ∙ ap (λ (j : ℕ). laid_out (rows_of tree.nodes j)) at

-- none are right
pub none-each : (held : List Stretch) → held ≡ [] → All IsStretch held
none-each held empty = subst (All IsStretch) (sym empty) (All-nil IsStretch)
