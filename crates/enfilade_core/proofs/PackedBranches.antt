-- Branches that are seen from an origin at or before theirs are well formed parts, and their rows stand where they stood.
use Rattle.std.proofs.Common.{◌≡◌, ◌≢◌, ℕ, ◌+◌, ◌-◌, ◌<◌, List, [], ◌∷◌, ◌++◌, get_or, map, fold, cond, eqb, true, false, Bool, refl, arith, ap, ◌∙◌, sym, subst}
use Rattle.std.specs.List.{All, flat_map}
use Rattle.std.proofs.lemmas.List.{map-append}
use Rattle.std.proofs.lemmas.List.Elements.{All-head, All-tail, All-nil, All-cons, All-weaker}
use Rattle.tumbler.specs.Places.{place_bound, IsTumbler, IsUpTo, sum, difference, after_zero}
use Rattle.tumbler.specs.Reach.{HasRoom}
use Rattle.tumbler.proofs.Sums.{sums_associate}
use Rattle.tumbler.proofs.Tumblers.{difference-is_tumbler}
use Rattle.tumbler.proofs.Differences.{sum-difference}
use Rattle.enfilade_core.specs.declared.tree.Row.{Row}
use Rattle.enfilade_core.specs.declared.tree.Branch.{Branch}
use Rattle.enfilade_core.specs.declared.summary.Summary.{Summary}
use Rattle.enfilade_core.specs.Rows.{Shape, Branches, moved, branch_rows, rows_in, rows_table, rows_of}
use Rattle.enfilade_core.specs.Axes.{Widths, Axis, first_axis, second_axis, WidthsStay, InOrder, IsWellFormedRow}
use Rattle.enfilade_core.specs.WellFormed.{branch_origins, origins_table, IsWellFormedBranch, IsWellFormed, AreWellFormed, IsWellFormedPart}
use Rattle.enfilade_core.specs.Summary.{branch_summary, summaries, summary_joined, no_summary, height_of}
use Rattle.enfilade_core.specs.Exchange.{IsPacked, height_in}
use Rattle.enfilade_core.specs.Packing.{branch_back, MayStandAt, IsPlaced}
use Rattle.enfilade_core.proofs.Orders.{All-flat}
use Rattle.enfilade_core.proofs.Nodes.{node-parts}
use Rattle.enfilade_core.proofs.PartTests.{room-if_part, part-if_room}
use Rattle.enfilade_core.proofs.Seen.{rows-moved_twice}
use Rattle.enfilade_core.proofs.PackedRows.{InOrder-unmoved, ends_well, filled_back, map_some}

-- ---- room for what is below, seen from nearer

room_after_zero : (d r : List ℕ) (z : ℕ) → z < place_bound → HasRoom d r → HasRoom (after_zero d) (z ∷ r)
room_after_zero [] r z lt h = (omega (arith, lt), h)
room_after_zero (x ∷ d) r z lt h = (omega (arith, lt), h)

room_first : (same : Bool) (y x : ℕ) (b d r : List ℕ) → HasRoom (y ∷ b) r → HasRoom (after_zero d) r → HasRoom (cond same (after_zero d) ((y - x) ∷ b)) r
room_first true y x b d r h k = k
room_first false y x b d [] h k = tt
room_first false y x b d (z ∷ r) h k = (omega (arith, h.0), h.1)

room_back : (b a r : List ℕ) → HasRoom b r → HasRoom (difference b a) r
room_back b [] r h = h
room_back [] (x ∷ a) r h = h
room_back (y ∷ b) (x ∷ a) [] h = tt
room_back (y ∷ b) (x ∷ a) (z ∷ r) h =
    room_first (eqb y x) y x b (difference b a) (z ∷ r) h (room_after_zero (difference b a) r z (omega (arith, h.0)) (room_back b a r h.1))

-- ---- one branch

-- a branch at or past an origin on both axes
pub record IsPast (a b : List ℕ) (branch : Branch) : Type 0 where
  pub first : IsUpTo a branch.first
  pub second : IsUpTo b branch.second

part_back : {L : Type 0} (w : Widths L) → WidthsStay w → (nodes : List (Shape L)) → AreWellFormed w nodes → (a b : List ℕ) → IsTumbler a → IsTumbler b → (branch : Branch) → IsPast a b branch → IsWellFormedPart w nodes branch → IsWellFormedPart w nodes (branch_back a b branch)
part_back w stay nodes well_formed a b ta tb branch past part =
    let room = room-if_part w stay nodes well_formed branch part in
    part-if_room w stay nodes well_formed (branch_back a b branch)
    (difference-is_tumbler branch.first a (All-head IsTumbler branch.first _ part.first_origins) ta past.first)
    (difference-is_tumbler branch.second b (All-head IsTumbler branch.second _ part.second_origins) tb past.second)
    record { below = part.branch.below; filled = part.branch.filled; first_extent = part.branch.first_extent; second_extent = part.branch.second_extent }
    record { first = room_back branch.first a _ room.first; second = room_back branch.second b _ room.second }

branch_there : {L : Type 0} (nodes : List (Shape L)) (a b : List ℕ) (branch : Branch) → IsPast a b branch → map (moved a b) (branch_rows (rows_table nodes) (branch_back a b branch)) ≡ branch_rows (rows_table nodes) branch
branch_there nodes a b branch past =
    let rows = rows_of nodes branch.node.0 in
    rows-moved_twice a b (difference branch.first a) (difference branch.second b) rows
    ∙ ap (λ (x : List ℕ). map (moved x (sum b (difference branch.second b))) rows) (sum-difference a branch.first past.first)
    ∙ ap (λ (x : List ℕ). map (moved branch.first x) rows) (sum-difference b branch.second past.second)

-- ---- all branches

parts_back : {L : Type 0} (w : Widths L) → WidthsStay w → (nodes : List (Shape L)) → AreWellFormed w nodes → (a b : List ℕ) → IsTumbler a → IsTumbler b → (branches : List Branch) → All (IsPast a b) branches → All (IsWellFormedPart w nodes) branches → All (IsWellFormedPart w nodes) (map (branch_back a b) branches)
parts_back w stay nodes well_formed a b ta tb [] past parts = All-nil (IsWellFormedPart w nodes)
parts_back w stay nodes well_formed a b ta tb (branch ∷ branches) past parts =
    All-cons (IsWellFormedPart w nodes) (branch_back a b branch) (map (branch_back a b) branches)
    (part_back w stay nodes well_formed a b ta tb branch (All-head (IsPast a b) branch branches past) (All-head (IsWellFormedPart w nodes) branch branches parts))
    (parts_back w stay nodes well_formed a b ta tb branches (All-tail (IsPast a b) branch branches past) (All-tail (IsWellFormedPart w nodes) branch branches parts))

branches_there : {L : Type 0} (nodes : List (Shape L)) (a b : List ℕ) (branches : List Branch) → All (IsPast a b) branches → map (moved a b) (rows_in (rows_table nodes) (Branches (map (branch_back a b) branches))) ≡ rows_in (rows_table nodes) (Branches branches)
branches_there nodes a b [] past = refl
branches_there nodes a b (branch ∷ branches) past =
    let rest = rows_in (rows_table nodes) (Branches (map (branch_back a b) branches)) in
    map-append (moved a b) (branch_rows (rows_table nodes) (branch_back a b branch)) rest
    ∙ ap (λ (r : List (Row _)). r ++ map (moved a b) rest) (branch_there nodes a b branch (All-head (IsPast a b) branch branches past))
    ∙ ap (λ (r : List (Row _)). branch_rows (rows_table nodes) branch ++ r) (branches_there nodes a b branches (All-tail (IsPast a b) branch branches past))

-- a branch at the same node, from which one comes to the other's origin on an axis
record ComesTo {L : Type 0} (axis : Axis L) (d : List ℕ) (there here : Branch) : Type 0 where
  node : here.node ≡ there.node
  origin : sum d (axis.origin here) ≡ axis.origin there

sums_twice : (d e : List ℕ) (origins : List (List ℕ)) → map (sum d) (map (sum e) origins) ≡ map (sum (sum d e)) origins
sums_twice d e [] = refl
sums_twice d e (o ∷ origins) =
    ap (λ (x : List ℕ). x ∷ map (sum d) (map (sum e) origins)) (sym (sums_associate d e o)) ∙ ap (λ (os : List (List ℕ)). sum (sum d e) o ∷ os) (sums_twice d e origins)

origins_one : {L : Type 0} (axis : Axis L) (told : List (List (List ℕ))) (d : List ℕ) (there here : Branch) → ComesTo axis d there here → map (sum d) (branch_origins axis told here) ≡ branch_origins axis told there
origins_one axis told d there here c =
    let below = get_or told here.node.0 [] in
    ap (λ (os : List (List ℕ)). sum d (axis.origin here) ∷ os) (sums_twice d (axis.origin here) below)
    ∙ ap (λ (x : List ℕ). x ∷ map (sum x) below) c.origin
    ∙ ap (λ n. axis.origin there ∷ map (sum (axis.origin there)) (get_or told n.0 [])) c.node

origins_there : {L : Type 0} (axis : Axis L) (told : List (List (List ℕ))) (d : List ℕ) (f : Branch → Branch) (branches : List Branch) → All (λ branch. ComesTo axis d branch (f branch)) branches → map (sum d) (flat_map (branch_origins axis told) (map f branches)) ≡ flat_map (branch_origins axis told) branches
origins_there axis told d f [] h = refl
origins_there axis told d f (branch ∷ branches) h =
    let P : Branch → Type 0 = λ b. ComesTo axis d b (f b) in
    let rest = flat_map (branch_origins axis told) (map f branches) in
    map-append (sum d) (branch_origins axis told (f branch)) rest
    ∙ ap (λ (r : List (List ℕ)). r ++ map (sum d) rest) (origins_one axis told d branch (f branch) (All-head P branch branches h))
    ∙ ap (λ (r : List (List ℕ)). branch_origins axis told branch ++ r) (origins_there axis told d f branches (All-tail P branch branches h))

-- ---- a node of branches

-- well formed parts in order and of one height are the branches of a well formed node
pub well_formed-if_parts : {L : Type 0} (w : Widths L) (nodes : List (Shape L)) (branches : List Branch) (height : ℕ) → branches ≢ [] → All (IsWellFormedPart w nodes) branches → All (λ branch. height_of w nodes branch.node.0 ≡ height) branches → InOrder (rows_in (rows_table nodes) (Branches branches)) → IsWellFormed w nodes (Branches branches)
well_formed-if_parts w nodes branches height some parts level ordered = record {
  branches = record { some = some; each = All-weaker (IsWellFormedPart w nodes) (IsWellFormedBranch w nodes) (λ b p. p.branch) branches parts; height = height; level = level };
  first_origins = All-flat IsTumbler (branch_origins (first_axis w) (origins_table (first_axis w) nodes)) branches
      (All-weaker (IsWellFormedPart w nodes) (λ b. All IsTumbler (branch_origins (first_axis w) (origins_table (first_axis w) nodes) b)) (λ b p. p.first_origins) branches parts);
  second_origins = All-flat IsTumbler (branch_origins (second_axis w) (origins_table (second_axis w) nodes)) branches
      (All-weaker (IsWellFormedPart w nodes) (λ b. All IsTumbler (branch_origins (second_axis w) (origins_table (second_axis w) nodes) b)) (λ b p. p.second_origins) branches parts);
  rows = All-flat (IsWellFormedRow w) (branch_rows (rows_table nodes)) branches
      (All-weaker (IsWellFormedPart w nodes) (λ b. All (IsWellFormedRow w) (branch_rows (rows_table nodes) b)) (λ b p. p.rows) branches parts);
  ordered = ordered;
}

level_back : {L : Type 0} (w : Widths L) (nodes : List (Shape L)) (a b : List ℕ) (height : ℕ) (branches : List Branch) → All (λ branch. height_of w nodes branch.node.0 ≡ height) branches → All (λ branch. height_of w nodes branch.node.0 ≡ height) (map (branch_back a b) branches)
level_back w nodes a b height [] h = All-nil (λ branch. height_of w nodes branch.node.0 ≡ height)
level_back w nodes a b height (branch ∷ branches) h =
    let P : Branch → Type 0 = λ b. height_of w nodes b.node.0 ≡ height in
    All-cons P (branch_back a b branch) (map (branch_back a b) branches) (All-head P branch branches h) (level_back w nodes a b height branches (All-tail P branch branches h))

branches_stand : {L : Type 0} (w : Widths L) → WidthsStay w → (nodes : List (Shape L)) → AreWellFormed w nodes → (a b : List ℕ) → IsTumbler a → IsTumbler b → (branches : List Branch) → All (IsPast a b) branches → IsWellFormed w nodes (Branches branches) → rows_in (rows_table nodes) (Branches branches) ≢ [] → MayStandAt w nodes (Branches (map (branch_back a b) branches)) a b
branches_stand {L} w stay nodes well_formed a b ta tb branches past node filled =
    let made = map (branch_back a b) branches in
    let rows = rows_in (rows_table nodes) (Branches branches) in
    let rows_made = rows_in (rows_table nodes) (Branches made) in
    let is : map (moved a b) rows_made ≡ rows = branches_there nodes a b branches past in
    let parts = parts_back w stay nodes well_formed a b ta tb branches past (node-parts w nodes branches node) in
    let each = All-flat (IsWellFormedRow w) (branch_rows (rows_table nodes)) made (All-weaker (IsWellFormedPart w nodes) (λ b. All (IsWellFormedRow w) (branch_rows (rows_table nodes) b)) (λ b p. p.rows) made parts) in
    let first = origins_there (first_axis w) (origins_table (first_axis w) nodes) a (branch_back a b) branches
    (All-weaker (IsPast a b) (λ branch. ComesTo (first_axis w) a branch (branch_back a b branch)) (λ branch p. record { node = refl; origin = sum-difference a branch.first p.first }) branches past) in
    let second = origins_there (second_axis w) (origins_table (second_axis w) nodes) b (branch_back a b) branches
    (All-weaker (IsPast a b) (λ branch. ComesTo (second_axis w) b branch (branch_back a b branch)) (λ branch p. record { node = refl; origin = sum-difference b branch.second p.second }) branches past) in
    record {
      well_formed = well_formed-if_parts w nodes made node.branches.height (map_some (branch_back a b) branches node.branches.some) parts (level_back w nodes a b node.branches.height branches node.branches.level)
          (InOrder-unmoved a b rows_made (ends_well w rows_made each) (subst InOrder (sym is) node.ordered));
      filled = filled_back a b rows_made rows is filled;
      first_origins = All-cons IsTumbler a _ ta (subst (All IsTumbler) (sym first) node.first_origins);
      second_origins = All-cons IsTumbler b _ tb (subst (All IsTumbler) (sym second) node.second_origins);
      rows = subst (All (IsWellFormedRow w)) (sym is) node.rows;
    }

pub are_past : (a b : List ℕ) (branches : List Branch) → All (λ branch. IsUpTo a branch.first) branches → All (λ branch. IsUpTo b branch.second) branches → All (IsPast a b) branches
are_past a b [] h k = All-nil (IsPast a b)
are_past a b (branch ∷ branches) h k =
    let P : Branch → Type 0 = λ x. IsUpTo a x.first in
    let Q : Branch → Type 0 = λ x. IsUpTo b x.second in
    All-cons (IsPast a b) branch branches record { first = All-head P branch branches h; second = All-head Q branch branches k } (are_past a b branches (All-tail P branch branches h) (All-tail Q branch branches k))

-- the list that was made has these branches
pub branches-may_stand : {L : Type 0} (w : Widths L) → WidthsStay w → (nodes : List (Shape L)) → AreWellFormed w nodes → (a b : List ℕ) → IsTumbler a → IsTumbler b → (branches made : List Branch) → All (IsPast a b) branches → IsWellFormed w nodes (Branches branches) → rows_in (rows_table nodes) (Branches branches) ≢ [] → made ≡ map (branch_back a b) branches → MayStandAt w nodes (Branches made) a b
branches-may_stand w stay nodes well_formed a b ta tb branches made past node filled is = rw is (branches_stand w stay nodes well_formed a b ta tb branches past node filled)

-- the height of a node is that of the last branch's node, and one more
same_level : (told : List Summary) (a b : List ℕ) (branches : List Branch) (s t : Summary) → s.height ≡ t.height → (fold summary_joined s (map (branch_summary told) (map (branch_back a b) branches))).height ≡ (fold summary_joined t (map (branch_summary told) branches)).height
same_level told a b [] s t h = h
same_level told a b (branch ∷ branches) s t h = same_level told a b branches (summary_joined s (branch_summary told (branch_back a b branch))) (summary_joined t (branch_summary told branch)) refl

pub branches-packed : {L : Type 0} (w : Widths L) (old new : List (Shape L)) (a b : List ℕ) (branches made : List Branch) (branch : Branch) → All (IsPast a b) branches → made ≡ map (branch_back a b) branches → IsPlaced w old new (Branches made) a b branch → IsPacked w old new (Branches branches) branch
branches-packed w old new a b branches made branch past is placed = record {
  part = placed.part;
  rows = placed.rows ∙ ap (λ (bs : List Branch). map (moved a b) (rows_in (rows_table old) (Branches bs))) is ∙ branches_there old a b branches past;
  level = placed.level ∙ ap (λ (bs : List Branch). height_in w old (Branches bs)) is ∙ ap (λ (n : ℕ). n + 1) (same_level (summaries w old) a b branches no_summary no_summary refl);
}
