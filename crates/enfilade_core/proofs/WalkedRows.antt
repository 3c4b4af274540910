-- The rows of a node's branches, gone through from a base.
use Rattle.std.proofs.Common.{◌≡◌, ℕ, ◌+◌, ◌<◌, ◌≤◌, List, [], ◌∷◌, ◌++◌, length, get_or, take, map, refl, ap, ◌∙◌, sym, subst, Result, Ok, Err, OnOk}
use Rattle.std.specs.List.{All, flat_map}
use Rattle.std.proofs.lemmas.List.{take_more, take_all, flat_map_more}
use Rattle.tumbler.specs.Places.{Fits, IsTumbler, sum}
use Rattle.tumbler.proofs.Alls.{All-unmapped}
use Rattle.tumbler.proofs.SumOrder.{fits_if_tumbler}
use Rattle.enfilade_core.specs.declared.tree.Row.{Row}
use Rattle.enfilade_core.specs.declared.tree.Branch.{Branch}
use Rattle.enfilade_core.specs.Rows.{Shape, Rows, Branches, moved, rows_of, node_at}
use Rattle.enfilade_core.specs.Axes.{Widths}
use Rattle.enfilade_core.specs.WellFormed.{NamesBelow, AreWellFormed, IsWellFormedPart}
use Rattle.enfilade_core.specs.Laws.{rows_from, below_from}
use Rattle.enfilade_core.specs.Exchange.{IsWellFormedAt, branch_at}
use Rattle.enfilade_core.proofs.Nodes.{node-parts}
use Rattle.enfilade_core.proofs.Parts.{names_below}
use Rattle.enfilade_core.proofs.Seen.{rows-not_moved, rows_of_children}
use Rattle.enfilade_core.proofs.GoneThrough.{item-well_formed}
use Rattle.enfilade_core.proofs.OpenedAt.{at-of_part, rows-at, inner-opened, inner-fits_first, inner-fits_second}

-- the rows of a branch of a node that is seen from a base
abbrev pub branch_seen : {L : Type 0} → List (Shape L) → List ℕ → List ℕ → Branch → List (Row L)
branch_seen nodes a b branch = rows_from nodes branch.node.0 (sum a branch.first) (sum b branch.second)

-- each branch of a node fits as a part where it stands
pub parts-at : {L : Type 0} (w : Widths L) (nodes : List (Shape L)) (k : ℕ) (a b : List ℕ) (branches : List Branch) → AreWellFormed w nodes → IsWellFormedAt w nodes k a b → node_at nodes k ≡ Branches branches → All (IsWellFormedPart w nodes) (map (branch_at a b) branches)
parts-at w nodes k a b branches well_formed at is = node-parts w nodes (map (branch_at a b) branches) (inner-opened w nodes k a b branches (map (branch_at a b) branches) well_formed at is refl).well_formed

-- what is known of branch i where its node is seen from a base
pub record ChildAt {L : Type 0} (w : Widths L) (nodes : List (Shape L)) (k : ℕ) (a b : List ℕ) (branch : Branch) : Type 0 where
  pub lower : branch.node.0 < k
  pub first_fits : Fits a branch.first
  pub second_fits : Fits b branch.second
  pub at : IsWellFormedAt w nodes branch.node.0 (sum a branch.first) (sum b branch.second)

pub child-at : {L : Type 0} (w : Widths L) (nodes : List (Shape L)) (k : ℕ) (a b : List ℕ) (branches : List Branch) (i : ℕ) (branch : Branch) → AreWellFormed w nodes → IsWellFormedAt w nodes k a b → node_at nodes k ≡ Branches branches → i < length branches → branch ≡ get_or branches i branch → ChildAt w nodes k a b branch
child-at w nodes k a b branches i branch well_formed at is lt item = record {
  lower = item-well_formed (λ x. x.node.0 < k) branches i branch lt item (subst (NamesBelow k) is (names_below w nodes k well_formed at.below));
  first_fits = fits_if_tumbler a branch.first (item-well_formed (λ x. IsTumbler (sum a x.first)) branches i branch lt item (inner-fits_first w nodes k a b branches well_formed at is));
  second_fits = fits_if_tumbler b branch.second (item-well_formed (λ x. IsTumbler (sum b x.second)) branches i branch lt item (inner-fits_second w nodes k a b branches well_formed at is));
  at = at-of_part w nodes (branch_at a b branch) (item-well_formed (λ x. IsWellFormedPart w nodes (branch_at a b x)) branches i branch lt item (All-unmapped (IsWellFormedPart w nodes) (branch_at a b) branches (parts-at w nodes k a b branches well_formed at is)));
}

-- the rows of one more branch
pub seen-more : {L : Type 0} (nodes : List (Shape L)) (a b : List ℕ) (branches : List Branch) (i : ℕ) (branch : Branch) (old now more : List (Row L)) → i < length branches → branch ≡ get_or branches i branch → now ≡ old ++ flat_map (branch_seen nodes a b) (take i branches) → more ≡ now ++ branch_seen nodes a b branch → more ≡ old ++ flat_map (branch_seen nodes a b) (take (i + 1) branches)
seen-more nodes a b branches i branch old now more lt item before value =
    let f = branch_seen nodes a b in
    value ∙ ap (λ (rs : List (Row _)). rs ++ f branch) before ∙ flat_map_more f old (take i branches) branch
    ∙ ap (λ (bs : List Branch). old ++ flat_map f bs) (ap (λ (x : Branch). take i branches ++ x ∷ []) item ∙ sym (take_more branches i branch lt))

-- the rows of all branches are the node's
pub seen-all : {L : Type 0} (w : Widths L) (nodes : List (Shape L)) (k : ℕ) (a b : List ℕ) (branches : List Branch) (i : ℕ) (old now : List (Row L)) → AreWellFormed w nodes → IsWellFormedAt w nodes k a b → node_at nodes k ≡ Branches branches → length branches ≤ i → now ≡ old ++ flat_map (branch_seen nodes a b) (take i branches) → now ≡ old ++ map (moved a b) (rows_of nodes k)
seen-all {L} w nodes k a b branches i old now well_formed at is le value =
    value ∙ ap (λ (bs : List Branch). old ++ flat_map (branch_seen nodes a b) bs) (take_all i branches le)
    ∙ ap (λ (rs : List (Row L)). old ++ rs) (sym (rows_of_children w nodes well_formed k a b at.below ∙ ap (λ (node : Shape L). below_from nodes node a b) is))

-- the rows of a bottom node are its own
pub seen-bottom : {L E : Type 0} (w : Widths L) (nodes : List (Shape L)) (k : ℕ) (a b : List ℕ) (rows old now : List (Row L)) (result : Result (Unit {0}) E) → AreWellFormed w nodes → IsWellFormedAt w nodes k a b → node_at nodes k ≡ Rows rows → OnOk result (now ≡ old ++ map (moved a b) rows) → OnOk result (now ≡ old ++ map (moved a b) (rows_of nodes k))
seen-bottom w nodes k a b rows old now (Ok made) well_formed at is value = value ∙ ap (λ (rs : List (Row _)). old ++ map (moved a b) rs) (sym (rows-at w nodes k a b rows well_formed at is))
seen-bottom w nodes k a b rows old now (Err error) well_formed at is value = tt

-- from zero on, behind no rows
pub rows-whole : {L : Type 0} (f : Row L → Row L) (held : List (Row L)) (zero : List ℕ) (rows now : List (Row L)) → held ≡ [] → zero ≡ [] → now ≡ map f held ++ map (moved zero zero) rows → now ≡ rows
rows-whole f held zero rows now none is value = value ∙ ap (λ (rs : List (Row _)). map f rs ++ map (moved zero zero) rows) none ∙ ap (λ (z : List ℕ). map (moved z z) rows) is ∙ rows-not_moved rows
