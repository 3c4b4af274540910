-- The children of a node, moved to where they stand from a base.
use Rattle.std.proofs.Common.{◌≡◌, ◌≢◌, ℕ, ◌+◌, ◌<◌, List, [], ◌∷◌, ◌++◌, length, get_or, map, fold, refl, ap, ◌∙◌, sym, subst}
use Rattle.std.specs.List.{All, flat_map}
use Rattle.std.proofs.lemmas.List.{map-append}
use Rattle.std.proofs.lemmas.List.Folds.{flat_map-map}
use Rattle.std.proofs.lemmas.List.Elements.{All-map, All-weaker, All-nil, All-cons, All-head, All-tail}
use Rattle.tumbler.specs.ListView.{ListView}
use Rattle.tumbler.specs.Places.{IsTumbler, EndsWell, sum}
use Rattle.tumbler.proofs.Alls.{All-unmapped, All-front, All-back}
use Rattle.tumbler.proofs.Sums.{sums_associate, sum-from_zero}
use Rattle.enfilade_core.specs.declared.tree.Row.{Row}
use Rattle.enfilade_core.specs.declared.tree.Branch.{Branch}
use Rattle.enfilade_core.specs.declared.tree.Children.{Children}
use Rattle.enfilade_core.specs.declared.tree.Children.TheVariants.{Bottom, Inner}
use Rattle.enfilade_core.specs.declared.summary.Summary.{Summary}
use Rattle.enfilade_core.specs.Rows.{Shape, Rows, Branches, moved, branch_rows, rows_in, rows_table, rows_of, node_at}
use Rattle.enfilade_core.specs.Axes.{Widths, Axis, first_axis, second_axis, InOrder, IsWellFormedRow}
use Rattle.enfilade_core.specs.WellFormed.{NamesBelow, branch_origins, origins_in, origins_table, IsWellFormedBranch, AreWellFormedBranches, IsWellFormed, AreWellFormed, IsWellFormedPart}
use Rattle.enfilade_core.specs.Summary.{no_summary, row_summary, branch_summary, summary_joined, summary_in, summaries, height_of}
use Rattle.enfilade_core.specs.Laws.{below_from}
use Rattle.enfilade_core.specs.Plain.{shape, plain_row}
use Rattle.enfilade_core.specs.Exchange.{IsWellFormedAt, branch_at, IsOpened}
use Rattle.enfilade_core.proofs.GoneThrough.{item-well_formed}
use Rattle.enfilade_core.proofs.Orders.{InOrder-moved}
use Rattle.enfilade_core.proofs.Parts.{rows-said, origins-said, summary-said, well_formed-now, rows-well_formed, rows-ordered, origins-well_formed, names_below}
use Rattle.enfilade_core.proofs.Seen.{rows-not_moved, rows_of_children}

-- ---- where a node fits

-- a part's node fits where the part stands
pub at-of_part : {L : Type 0} (w : Widths L) (nodes : List (Shape L)) (part : Branch) → IsWellFormedPart w nodes part → IsWellFormedAt w nodes part.node.0 part.first part.second
at-of_part w nodes part p = record {
  below = p.branch.below;
  first_origins = All-tail IsTumbler part.first (map (sum part.first) (get_or (origins_table (first_axis w) nodes) part.node.0 [])) p.first_origins;
  second_origins = All-tail IsTumbler part.second (map (sum part.second) (get_or (origins_table (second_axis w) nodes) part.node.0 [])) p.second_origins;
  rows = p.rows;
}

places-not_moved : (places : List (List ℕ)) → map (sum []) places ≡ places
places-not_moved [] = refl
places-not_moved (coordinate ∷ places) = ap (λ (x : List ℕ). x ∷ map (sum []) places) (sum-from_zero coordinate) ∙ ap (λ (xs : List (List ℕ)). coordinate ∷ xs) (places-not_moved places)

-- a root fits at zero
pub at-of_root : {L : Type 0} (w : Widths L) (nodes : List (Shape L)) (k : ℕ) → AreWellFormed w nodes → k < length nodes → IsWellFormedAt w nodes k [] []
at-of_root w nodes k well_formed lt = record {
  below = lt;
  first_origins = subst (All IsTumbler) (sym (places-not_moved (get_or (origins_table (first_axis w) nodes) k []))) (origins-well_formed w nodes k well_formed lt).0;
  second_origins = subst (All IsTumbler) (sym (places-not_moved (get_or (origins_table (second_axis w) nodes) k []))) (origins-well_formed w nodes k well_formed lt).1;
  rows = subst (All (IsWellFormedRow w)) (sym (rows-not_moved (rows_of nodes k))) (rows-well_formed w nodes k well_formed lt);
}

-- ---- rows of a bottom node

rows_level : {L : Type 0} (w : Widths L) (rows : List (Row L)) (s : Summary) → s.height ≡ 0 → (fold summary_joined s (map (row_summary w) rows)).height ≡ 0
rows_level w [] s h = h
rows_level w (row ∷ rows) s h = rows_level w rows (summary_joined s (row_summary w row)) refl

rows_end : {L : Type 0} (w : Widths L) (nodes : List (Shape L)) (k : ℕ) → AreWellFormed w nodes → k < length nodes → All (λ (r : Row L). EndsWell r.first) (rows_of nodes k)
rows_end {L} w nodes k well_formed lt = All-weaker (IsWellFormedRow w) (λ (r : Row L). EndsWell r.first) (λ r p. p.first_coordinate.ends) (rows_of nodes k) (rows-well_formed w nodes k well_formed lt)

-- the rows of a node stay in order where all are moved
pub ordered-at : {L : Type 0} (w : Widths L) (nodes : List (Shape L)) (k : ℕ) (a b : List ℕ) → AreWellFormed w nodes → k < length nodes → InOrder (map (moved a b) (rows_of nodes k))
ordered-at w nodes k a b well_formed lt = InOrder-moved a b (rows_of nodes k) (rows_end w nodes k well_formed lt) (rows-ordered w nodes k well_formed lt)

pub rows-at : {L : Type 0} (w : Widths L) (nodes : List (Shape L)) (k : ℕ) (a b : List ℕ) (rows : List (Row L)) → AreWellFormed w nodes → IsWellFormedAt w nodes k a b → node_at nodes k ≡ Rows rows → rows_of nodes k ≡ rows
rows-at w nodes k a b rows well_formed at is = rows-said w nodes k well_formed at.below ∙ ap (rows_in (rows_table nodes)) is

pub bottom-fits : {L : Type 0} (w : Widths L) (nodes : List (Shape L)) (k : ℕ) (a b : List ℕ) (rows : List (Row L)) → AreWellFormed w nodes → IsWellFormedAt w nodes k a b → node_at nodes k ≡ Rows rows → All (IsWellFormedRow w) (map (moved a b) rows)
bottom-fits w nodes k a b rows well_formed at is = subst (λ rs. All (IsWellFormedRow w) (map (moved a b) rs)) (rows-at w nodes k a b rows well_formed at is) at.rows

pub bottom-opened : {L : Type 0} (w : Widths L) (nodes : List (Shape L)) (k : ℕ) (a b : List ℕ) (rows made : List (Row L)) → AreWellFormed w nodes → IsWellFormedAt w nodes k a b → node_at nodes k ≡ Rows rows → made ≡ map (moved a b) rows → IsOpened w nodes k a b (Rows made)
bottom-opened w nodes k a b rows made well_formed at is value =
    let said = rows-at w nodes k a b rows well_formed at is in
    rw value record {
      well_formed = record {
        branches = tt;
        first_origins = All-nil IsTumbler;
        second_origins = All-nil IsTumbler;
        rows = bottom-fits w nodes k a b rows well_formed at is;
        ordered = subst (λ rs. InOrder (map (moved a b) rs)) said (ordered-at w nodes k a b well_formed at.below);
      };
      named = tt;
      rows = ap (map (moved a b)) (sym said);
      level = rows_level w (map (moved a b) rows) no_summary refl ∙ sym (ap (λ (s : Summary). s.height) (summary-said w nodes k well_formed at.below ∙ ap (summary_in w (summaries w nodes)) is) ∙ rows_level w rows no_summary refl);
    }

-- what holds of all items, each mapped twice, holds of item i
pub row-fits : {A B C : Type 0} (P : C → Type 0) (f : A → B) (g : B → C) (xs : List A) (i : ℕ) (x : A) → i < length xs → x ≡ get_or xs i x → All P (map g (map f xs)) → P (g (f x))
row-fits P f g xs i x lt at h = item-well_formed (λ (y : _). P (g (f y))) xs i x lt at (All-unmapped (λ (y : _). P (g y)) f xs (All-unmapped P g (map f xs) h))

-- ---- branches of an inner node

origins_twice : (a c : List ℕ) (places : List (List ℕ)) → map (sum (sum a c)) places ≡ map (sum a) (map (sum c) places)
origins_twice a c [] = refl
origins_twice a c (coordinate ∷ places) = ap (λ (x : List ℕ). x ∷ map (sum (sum a c)) places) (sums_associate a c coordinate) ∙ ap (λ (xs : List (List ℕ)). sum a (sum c coordinate) ∷ xs) (origins_twice a c places)

-- on an axis on which a move adds d
origins-moved : {L : Type 0} (axis : Axis L) (told : List (List (List ℕ))) (d : List ℕ) (move : Branch → Branch) → ((branch : Branch) → axis.origin (move branch) ≡ sum d (axis.origin branch)) → ((branch : Branch) → (move branch).node.0 ≡ branch.node.0) → (branches : List Branch) → flat_map (branch_origins axis told) (map move branches) ≡ map (sum d) (flat_map (branch_origins axis told) branches)
origins-moved axis told d move coordinate node [] = refl
origins-moved axis told d move coordinate node (branch ∷ branches) =
    let below = get_or told branch.node.0 [] in
    let own : branch_origins axis told (move branch) ≡ map (sum d) (branch_origins axis told branch) =
    ap (λ (n : ℕ). axis.origin (move branch) ∷ map (sum (axis.origin (move branch))) (get_or told n [])) (node branch)
    ∙ ap (λ (o : List ℕ). o ∷ map (sum o) below) (coordinate branch)
    ∙ ap (λ (os : List (List ℕ)). sum d (axis.origin branch) ∷ os) (origins_twice d (axis.origin branch) below) in
    ap (λ (os : List (List ℕ)). os ++ flat_map (branch_origins axis told) (map move branches)) own
    ∙ ap (λ (os : List (List ℕ)). map (sum d) (branch_origins axis told branch) ++ os) (origins-moved axis told d move coordinate node branches)
    ∙ sym (map-append (sum d) (branch_origins axis told branch) (flat_map (branch_origins axis told) branches))

pub first-moved : {L : Type 0} (w : Widths L) (nodes : List (Shape L)) (k : ℕ) (a b : List ℕ) (branches : List Branch) → AreWellFormed w nodes → IsWellFormedAt w nodes k a b → node_at nodes k ≡ Branches branches → All IsTumbler (flat_map (branch_origins (first_axis w) (origins_table (first_axis w) nodes)) (map (branch_at a b) branches))
first-moved w nodes k a b branches well_formed at is =
    let axis = first_axis w in
    subst (All IsTumbler) (ap (map (sum a)) (origins-said w axis nodes k well_formed at.below ∙ ap (origins_in axis (origins_table axis nodes)) is) ∙ sym (origins-moved axis (origins_table axis nodes) a (branch_at a b) (λ _. refl) (λ _. refl) branches)) at.first_origins

pub second-moved : {L : Type 0} (w : Widths L) (nodes : List (Shape L)) (k : ℕ) (a b : List ℕ) (branches : List Branch) → AreWellFormed w nodes → IsWellFormedAt w nodes k a b → node_at nodes k ≡ Branches branches → All IsTumbler (flat_map (branch_origins (second_axis w) (origins_table (second_axis w) nodes)) (map (branch_at a b) branches))
second-moved w nodes k a b branches well_formed at is =
    let axis = second_axis w in
    subst (All IsTumbler) (ap (map (sum b)) (origins-said w axis nodes k well_formed at.below ∙ ap (origins_in axis (origins_table axis nodes)) is) ∙ sym (origins-moved axis (origins_table axis nodes) b (branch_at a b) (λ _. refl) (λ _. refl) branches)) at.second_origins

-- the first of each branch's origins is its own
own_first : {L : Type 0} (w : Widths L) (told : List (List (List ℕ))) (a b : List ℕ) (branches : List Branch) → All IsTumbler (flat_map (branch_origins (first_axis w) told) (map (branch_at a b) branches)) → All (λ branch. IsTumbler (sum a branch.first)) branches
own_first w told a b [] h = All-nil (λ branch. IsTumbler (sum a branch.first))
own_first w told a b (branch ∷ branches) h =
    let own = branch_origins (first_axis w) told (branch_at a b branch) in
    let rest = flat_map (branch_origins (first_axis w) told) (map (branch_at a b) branches) in
    All-cons (λ branch. IsTumbler (sum a branch.first)) branch branches
    (All-head IsTumbler (sum a branch.first) (map (sum (sum a branch.first)) (get_or told branch.node.0 [])) (All-front IsTumbler own rest h))
    (own_first w told a b branches (All-back IsTumbler own rest h))

own_second : {L : Type 0} (w : Widths L) (told : List (List (List ℕ))) (a b : List ℕ) (branches : List Branch) → All IsTumbler (flat_map (branch_origins (second_axis w) told) (map (branch_at a b) branches)) → All (λ branch. IsTumbler (sum b branch.second)) branches
own_second w told a b [] h = All-nil (λ branch. IsTumbler (sum b branch.second))
own_second w told a b (branch ∷ branches) h =
    let own = branch_origins (second_axis w) told (branch_at a b branch) in
    let rest = flat_map (branch_origins (second_axis w) told) (map (branch_at a b) branches) in
    All-cons (λ branch. IsTumbler (sum b branch.second)) branch branches
    (All-head IsTumbler (sum b branch.second) (map (sum (sum b branch.second)) (get_or told branch.node.0 [])) (All-front IsTumbler own rest h))
    (own_second w told a b branches (All-back IsTumbler own rest h))

pub inner-fits_first : {L : Type 0} (w : Widths L) (nodes : List (Shape L)) (k : ℕ) (a b : List ℕ) (branches : List Branch) → AreWellFormed w nodes → IsWellFormedAt w nodes k a b → node_at nodes k ≡ Branches branches → All (λ branch. IsTumbler (sum a branch.first)) branches
inner-fits_first w nodes k a b branches well_formed at is = own_first w (origins_table (first_axis w) nodes) a b branches (first-moved w nodes k a b branches well_formed at is)

pub inner-fits_second : {L : Type 0} (w : Widths L) (nodes : List (Shape L)) (k : ℕ) (a b : List ℕ) (branches : List Branch) → AreWellFormed w nodes → IsWellFormedAt w nodes k a b → node_at nodes k ≡ Branches branches → All (λ branch. IsTumbler (sum b branch.second)) branches
inner-fits_second w nodes k a b branches well_formed at is = own_second w (origins_table (second_axis w) nodes) a b branches (second-moved w nodes k a b branches well_formed at is)

pub rows-moved : {L : Type 0} (w : Widths L) (nodes : List (Shape L)) (k : ℕ) (a b : List ℕ) (branches : List Branch) → AreWellFormed w nodes → k < length nodes → node_at nodes k ≡ Branches branches → flat_map (branch_rows (rows_table nodes)) (map (branch_at a b) branches) ≡ map (moved a b) (rows_of nodes k)
rows-moved {L} w nodes k a b branches well_formed lt is =
    flat_map-map (branch_rows (rows_table nodes)) (branch_at a b) branches
    ∙ sym (rows_of_children w nodes well_formed k a b lt ∙ ap (λ (node : Shape L). below_from nodes node a b) is)

moved_some : (a b : List ℕ) (branches : List Branch) → branches ≢ [] → map (branch_at a b) branches ≢ []
moved_some a b [] some q = some refl
moved_some a b (branch ∷ branches) some q = cc

-- only the heights of branches' nodes count
level_moved : (told : List Summary) (a b : List ℕ) (branches : List Branch) (s t : Summary) → s.height ≡ t.height → (fold summary_joined s (map (branch_summary told) (map (branch_at a b) branches))).height ≡ (fold summary_joined t (map (branch_summary told) branches)).height
level_moved told a b [] s t h = h
level_moved told a b (branch ∷ branches) s t h = level_moved told a b branches (summary_joined s (branch_summary told (branch_at a b branch))) (summary_joined t (branch_summary told branch)) refl

branches_moved : {L : Type 0} (w : Widths L) (nodes : List (Shape L)) (a b : List ℕ) (branches : List Branch) → AreWellFormedBranches w nodes branches → AreWellFormedBranches w nodes (map (branch_at a b) branches)
branches_moved w nodes a b branches well_formed = record {
  some = moved_some a b branches well_formed.some;
  each = All-map (IsWellFormedBranch w nodes) (branch_at a b) branches
      (All-weaker (IsWellFormedBranch w nodes) (λ branch. IsWellFormedBranch w nodes (branch_at a b branch)) (λ branch r. record { below = r.below; filled = r.filled; first_extent = r.first_extent; second_extent = r.second_extent }) branches well_formed.each);
  height = well_formed.height;
  level = All-map (λ branch. height_of w nodes branch.node.0 ≡ well_formed.height) (branch_at a b) branches well_formed.level;
}

pub inner-opened : {L : Type 0} (w : Widths L) (nodes : List (Shape L)) (k : ℕ) (a b : List ℕ) (branches made : List Branch) → AreWellFormed w nodes → IsWellFormedAt w nodes k a b → node_at nodes k ≡ Branches branches → made ≡ map (branch_at a b) branches → IsOpened w nodes k a b (Branches made)
inner-opened {L} w nodes k a b branches made well_formed at is value =
    let now = subst (IsWellFormed w nodes) is (well_formed-now w nodes k well_formed at.below) in
    let named = subst (NamesBelow k) is (names_below w nodes k well_formed at.below) in
    let same = rows-moved w nodes k a b branches well_formed at.below is in
    rw value record {
      well_formed = record {
        branches = branches_moved w nodes a b branches now.branches;
        first_origins = first-moved w nodes k a b branches well_formed at is;
        second_origins = second-moved w nodes k a b branches well_formed at is;
        rows = subst (All (IsWellFormedRow w)) (sym same) at.rows;
        ordered = subst InOrder (sym same) (ordered-at w nodes k a b well_formed at.below);
      };
      named = All-map (λ branch. branch.node.0 < k) (branch_at a b) branches named;
      rows = same;
      level = ap (λ (n : ℕ). n + 1) (level_moved (summaries w nodes) a b branches no_summary no_summary refl) ∙ sym (ap (λ (s : Summary). s.height) (summary-said w nodes k well_formed at.below ∙ ap (summary_in w (summaries w nodes)) is));
    }

-- ---- the children of a node, as the code has them

pub bottom-is : {L : Type 0} (plain : L → L) (nodes : List (Shape L)) (k : ℕ) (children : Children L) (rows : ListView (Row L)) (held : List (Row L)) → shape plain children ≡ node_at nodes k → children ≡ Bottom rows → held ≡ rows.items → node_at nodes k ≡ Rows (map (plain_row plain) held)
bottom-is plain nodes k children rows held node is items = sym node ∙ ap (shape plain) is ∙ ap (λ (rs : List (Row _)). Rows (map (plain_row plain) rs)) (sym items)

pub inner-is : {L : Type 0} (plain : L → L) (nodes : List (Shape L)) (k : ℕ) (children : Children L) (branches : ListView Branch) (held : List Branch) → shape plain children ≡ node_at nodes k → children ≡ Inner branches → held ≡ branches.items → node_at nodes k ≡ Branches held
inner-is plain nodes k children branches held node is items = sym node ∙ ap (shape plain) is ∙ ap (λ (bs : List Branch). Branches bs) (sym items)
