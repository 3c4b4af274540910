-- The children of a node that is seen from a base.
use Rattle.std.proofs.Common.{◌≡◌, ℕ, ◌<◌, Bool, List, [], ◌++◌, length, get_or, map, ap, ◌∙◌, sym, subst}
use Rattle.std.specs.List.{All, filter, flat_map}
use Rattle.std.proofs.lemmas.List.Elements.{All-head, All-tail, All-weaker, All-map}
use Rattle.tumbler.specs.Places.{EndsWell, IsTumbler, sum}
use Rattle.tumbler.proofs.Alls.{All-unmapped}
use Rattle.tumbler.proofs.Sums.{sums_associate, sum-from_zero}
use Rattle.enfilade_core.specs.declared.tree.Row.{Row}
use Rattle.enfilade_core.specs.declared.tree.Branch.{Branch}
use Rattle.enfilade_core.specs.Rows.{Shape, Rows, Branches, moved, rows_in, rows_table, rows_of, node_at}
use Rattle.enfilade_core.specs.Axes.{Widths, Axis, first_axis, second_axis, InOrder, IsWellFormedRow}
use Rattle.enfilade_core.specs.WellFormed.{branch_origins, origins_in, origins_table, NamesBelow, IsWellFormed, AreWellFormed, IsWellFormedPart}
use Rattle.tumbler.specs.ListView.{ListView}
use Rattle.enfilade_core.specs.declared.tree.Children.{Children}
use Rattle.enfilade_core.specs.declared.tree.Children.TheVariants.{Bottom, Inner}
use Rattle.enfilade_core.specs.Plain.{plain_row, shape}
use Rattle.enfilade_core.specs.Laws.{rows_from, below_from}
use Rattle.enfilade_core.proofs.Parts.{names_below, rows-said, origins-said, well_formed-now, rows-well_formed, rows-ordered, origins-well_formed}
use Rattle.enfilade_core.proofs.Orders.{All-unflat, InOrder-moved}
use Rattle.enfilade_core.proofs.Nodes.{node-parts}
use Rattle.enfilade_core.proofs.GoneThrough.{item-well_formed}
use Rattle.enfilade_core.proofs.Seen.{rows_of_children, rows-not_moved}
use Rattle.enfilade_search.specs.Sought.{FitsAt, ChildFits}

-- the origins of a child and of what is below it, from a base
record OriginsFit {L : Type 0} (axis : Axis L) (nodes : List (Shape L)) (child : Branch) (a : List ℕ) : Type 0 where
  origin : IsTumbler (sum a (axis.origin child))
  below : All IsTumbler (map (sum (sum a (axis.origin child))) (get_or (origins_table axis nodes) child.node.0 []))

origins_fit : {L : Type 0} (axis : Axis L) (nodes : List (Shape L)) (child : Branch) (a : List ℕ) → All (λ x. IsTumbler (sum a x)) (branch_origins axis (origins_table axis nodes) child) → OriginsFit axis nodes child a
origins_fit axis nodes child a h =
    let at = axis.origin child in
    let under = get_or (origins_table axis nodes) child.node.0 [] in
    let P : List ℕ → Type 0 = λ x. IsTumbler (sum a x) in
    record {
      origin = All-head P at (map (sum at) under) h;
      below = All-map IsTumbler (sum (sum a at)) under
          (All-weaker (λ x. IsTumbler (sum a (sum at x))) (λ x. IsTumbler (sum (sum a at) x)) (λ x t. subst IsTumbler (sym (sums_associate a at x)) t) under
          (All-unmapped P (sum at) under (All-tail P at (map (sum at) under) h)));
    }

all_origins_fit : {L : Type 0} (w : Widths L) (axis : Axis L) (nodes : List (Shape L)) (k : ℕ) (a : List ℕ) (branches : List Branch) → AreWellFormed w nodes → k < length nodes → node_at nodes k ≡ Branches branches
    → All IsTumbler (map (sum a) (get_or (origins_table axis nodes) k [])) → All (λ child. OriginsFit axis nodes child a) branches
all_origins_fit w axis nodes k a branches well_formed lt is h =
    let said : get_or (origins_table axis nodes) k [] ≡ flat_map (branch_origins axis (origins_table axis nodes)) branches =
    origins-said w axis nodes k well_formed lt ∙ ap (origins_in axis (origins_table axis nodes)) is in
    let P : List ℕ → Type 0 = λ x. IsTumbler (sum a x) in
    All-weaker (λ child. All P (branch_origins axis (origins_table axis nodes) child)) (λ child. OriginsFit axis nodes child a) (λ child. origins_fit axis nodes child a) branches
    (All-unflat P (branch_origins axis (origins_table axis nodes)) branches (subst (All P) said (All-unmapped IsTumbler (sum a) (get_or (origins_table axis nodes) k []) h)))

-- the rows of a child, from the base that its node is seen from
abbrev pub child_rows : {L : Type 0} → List (Shape L) → List ℕ → List ℕ → Branch → List (Row L)
child_rows nodes a b child = rows_from nodes child.node.0 (sum a child.first) (sum b child.second)

pub rows_of_branches : {L : Type 0} (w : Widths L) (nodes : List (Shape L)) (k : ℕ) (a b : List ℕ) (branches : List Branch) → AreWellFormed w nodes → k < length nodes → node_at nodes k ≡ Branches branches
    → rows_from nodes k a b ≡ flat_map (child_rows nodes a b) branches
rows_of_branches w nodes k a b branches well_formed lt is = rows_of_children w nodes well_formed k a b lt ∙ ap (λ node. below_from nodes node a b) is

-- child i, where a node fits
pub record ChildAt {L : Type 0} (w : Widths L) (nodes : List (Shape L)) (k : ℕ) (a b : List ℕ) (child : Branch) : Type 0 where
  pub fits : ChildFits w nodes child a b
  pub lesser : child.node.0 < k

pub child_at : {L : Type 0} (w : Widths L) (nodes : List (Shape L)) (k : ℕ) (a b : List ℕ) (branches : List Branch) (i : ℕ) (child : Branch) → AreWellFormed w nodes → node_at nodes k ≡ Branches branches
    → FitsAt w nodes k a b → i < length branches → child ≡ get_or branches i child → ChildAt w nodes k a b child
child_at {L} w nodes k a b branches i child well_formed is fits lt at =
    let here = well_formed-now w nodes k well_formed fits.there in
    let part = item-well_formed (IsWellFormedPart w nodes) branches i child lt at (node-parts w nodes branches (subst (IsWellFormed w nodes) is here)) in
    let first = item-well_formed (λ c. OriginsFit (first_axis w) nodes c a) branches i child lt at (all_origins_fit w (first_axis w) nodes k a branches well_formed fits.there is fits.first_origins) in
    let second = item-well_formed (λ c. OriginsFit (second_axis w) nodes c b) branches i child lt at (all_origins_fit w (second_axis w) nodes k b branches well_formed fits.there is fits.second_origins) in
    let rows = item-well_formed (λ c. All (IsWellFormedRow w) (child_rows nodes a b c)) branches i child lt at
    (All-unflat (IsWellFormedRow w) (child_rows nodes a b) branches (subst (All (IsWellFormedRow w)) (rows_of_branches w nodes k a b branches well_formed fits.there is) fits.rows)) in
    record {
      fits = record {
        branch = part.branch;
        first_origin = first.origin;
        second_origin = second.origin;
        below = record {
          there = part.branch.below;
          first_origins = first.below;
          second_origins = second.below;
          rows = rows;
        };
      };
      lesser = item-well_formed (λ c. c.node.0 < k) branches i child lt at (subst (NamesBelow k) is (names_below w nodes k well_formed fits.there));
    }

-- ---- a bottom node

pub ordered_from : {L : Type 0} (w : Widths L) (nodes : List (Shape L)) (k : ℕ) (a b : List ℕ) → AreWellFormed w nodes → k < length nodes → InOrder (rows_from nodes k a b)
ordered_from w nodes k a b well_formed lt =
    InOrder-moved a b (rows_of nodes k) (All-weaker (IsWellFormedRow w) (λ r. EndsWell r.first) (λ r h. h.first_coordinate.ends) (rows_of nodes k) (rows-well_formed w nodes k well_formed lt)) (rows-ordered w nodes k well_formed lt)

pub record BottomFits {L : Type 0} (w : Widths L) (nodes : List (Shape L)) (k : ℕ) (a b : List ℕ) (rows : List (Row L)) : Type 0 where
  pub own : All (IsWellFormedRow w) rows
  pub there : All (IsWellFormedRow w) (map (moved a b) rows)
  pub ordered : InOrder (map (moved a b) rows)
  pub from_here : rows_from nodes k a b ≡ map (moved a b) rows

pub bottom_fits : {L : Type 0} (w : Widths L) (nodes : List (Shape L)) (k : ℕ) (a b : List ℕ) (rows : List (Row L)) → AreWellFormed w nodes → node_at nodes k ≡ Rows rows → FitsAt w nodes k a b → BottomFits w nodes k a b rows
bottom_fits w nodes k a b rows well_formed is fits =
    let said : rows_of nodes k ≡ rows = rows-said w nodes k well_formed fits.there ∙ ap (rows_in (rows_table nodes)) is in
    let from_here = ap (map (moved a b)) said in
    record {
      own = subst (All (IsWellFormedRow w)) said (rows-well_formed w nodes k well_formed fits.there);
      there = subst (All (IsWellFormedRow w)) from_here fits.rows;
      ordered = subst InOrder from_here (ordered_from w nodes k a b well_formed fits.there);
      from_here = from_here;
    }

-- ---- a root, whose origin is zero

pub root_fits : {L : Type 0} (w : Widths L) (nodes : List (Shape L)) (k : ℕ) (zero_place : List ℕ) → AreWellFormed w nodes → k < length nodes → zero_place ≡ [] → FitsAt w nodes k zero_place zero_place
root_fits w nodes k zero_place well_formed lt is =
    let T : List ℕ → Type 0 = λ x. IsTumbler (sum [] x) in
    let origins = origins-well_formed w nodes k well_formed lt in
    let not_moved = λ (x : List ℕ) (t : IsTumbler x). subst IsTumbler (sym (sum-from_zero x)) t in
    subst (λ (o : List ℕ). FitsAt w nodes k o o) (sym is)
    record {
      there = lt;
      first_origins = All-map IsTumbler (sum []) (get_or (origins_table (first_axis w) nodes) k []) (All-weaker IsTumbler T not_moved (get_or (origins_table (first_axis w) nodes) k []) origins.0);
      second_origins = All-map IsTumbler (sum []) (get_or (origins_table (second_axis w) nodes) k []) (All-weaker IsTumbler T not_moved (get_or (origins_table (second_axis w) nodes) k []) origins.1);
      rows = subst (All (IsWellFormedRow w)) (sym (rows-not_moved (rows_of nodes k))) (rows-well_formed w nodes k well_formed lt);
    }

pub found_from_root : {L : Type 0} (plain : L → L) (test : Row L → Bool) (nodes : List (Shape L)) (k : ℕ) (zero_place : List ℕ) (held : List (Row L)) (now : List (Row L)) → zero_place ≡ [] → held ≡ []
    → now ≡ map (plain_row plain) held ++ filter test (rows_from nodes k zero_place zero_place) → now ≡ filter test (rows_of nodes k)
found_from_root plain test nodes k zero_place held now z h is =
    is
    ∙ ap (λ (r : List (Row _)). map (plain_row plain) r ++ filter test (rows_from nodes k zero_place zero_place)) h
    ∙ ap (λ (o : List ℕ). filter test (rows_from nodes k o o)) z
    ∙ ap (filter test) (rows-not_moved (rows_of nodes k))

-- ---- a node, by what hangs under it

pub node_rows : {L : Type 0} (plain : L → L) (children : Children L) (node : Shape L) (rows : ListView (Row L)) (slice : List (Row L)) → shape plain children ≡ node → children ≡ Bottom rows → slice ≡ rows.items → node ≡ Rows (map (plain_row plain) slice)
node_rows plain children node rows slice said is at = sym said ∙ ap (shape plain) is ∙ ap (λ (r : List (Row _)). Rows (map (plain_row plain) r)) (sym at)

pub node_branches : {L : Type 0} (plain : L → L) (children : Children L) (node : Shape L) (branches : ListView Branch) (slice : List Branch) → shape plain children ≡ node → children ≡ Inner branches → slice ≡ branches.items → node ≡ Branches slice
node_branches plain children node branches slice said is at = sym said ∙ ap (shape plain) is ∙ ap Branches (sym at)
