-- The children of a node with others in the middle, as they are seen from the node and where they stand.
use Rattle.std.proofs.Common.{◌≡◌, ◌≢◌, ℕ, Bool, true, false, eqb, List, [], ◌∷◌, ◌++◌, length, take, drop, map, refl, arith, ap, ◌∙◌, sym, subst, append_assoc}
use Rattle.std.specs.List.{All}
use Rattle.std.proofs.lemmas.Bool.Decides.{nat_tests}
use Rattle.std.proofs.lemmas.List.{map-append, take-map}
use Rattle.std.proofs.lemmas.List.Elements.{All-head, All-tail, All-nil, All-cons, All-weaker, All-take, All-append}
use Rattle.tumbler.specs.Places.{EndsWell, IsTumbler, IsUpTo, sum, difference}
use Rattle.tumbler.proofs.Sums.{sum-upto}
use Rattle.tumbler.proofs.Differences.{difference_undoes_sum}
use Rattle.enfilade_core.specs.declared.tree.Branch.{Branch}
use Rattle.enfilade_core.specs.declared.rebuild_node.Touched.{Touched}
use Rattle.enfilade_core.specs.Rows.{Shape, Branches, moved, branch_rows, rows_in, rows_table, rows_of, node_at, branches_under}
use Rattle.enfilade_core.specs.Axes.{Widths, WidthsStay}
use Rattle.enfilade_core.specs.WellFormed.{IsWellFormedBranch, IsWellFormed, IsWellFormedPart, AreWellFormed}
use Rattle.enfilade_core.specs.Exchange.{branch_at, IsPacked, MayBeRoot}
use Rattle.enfilade_core.specs.Packing.{branch_back, MayStandAt, IsPlaced}
use Rattle.enfilade_core.specs.Touched.{branches_at, EndsBoth, FitsFrom, LiesWithin, with_middle, around_middle}
use Rattle.enfilade_core.proofs.PackedBranches.{IsPast, are_past, branches-may_stand, branches-packed}
use Rattle.enfilade_core.proofs.ExchangeGrown.{flat_rows}
use Rattle.enfilade_core.proofs.TouchedRows.{well_formed-under, ends-both}

-- ---- branches seen from an origin, and where they stand

back-at : (a b : List ℕ) (branches : List Branch) → All EndsBoth branches → map (branch_back a b) (map (branch_at a b) branches) ≡ branches
back-at a b [] h = refl
back-at a b (branch ∷ branches) h =
    let ends = All-head EndsBoth branch branches h in
    ap (λ (x : Branch). x ∷ map (branch_back a b) (map (branch_at a b) branches)) (
    ap (λ (x : List ℕ). record branch { first = x; second = difference (sum b branch.second) b }) (difference_undoes_sum a branch.first ends.first)
    ∙ ap (λ (x : List ℕ). record branch { second = x }) (difference_undoes_sum b branch.second ends.second))
    ∙ ap (λ (bs : List Branch). branch ∷ bs) (back-at a b branches (All-tail EndsBoth branch branches h))

at-past : (a b : List ℕ) (branches : List Branch) → All EndsBoth branches → All (IsPast a b) (map (branch_at a b) branches)
at-past a b [] h = All-nil (IsPast a b)
at-past a b (branch ∷ branches) h =
    let ends = All-head EndsBoth branch branches h in
    All-cons (IsPast a b) (branch_at a b branch) (map (branch_at a b) branches) record { first = sum-upto a branch.first ends.first; second = sum-upto b branch.second ends.second }
    (at-past a b branches (All-tail EndsBoth branch branches h))

rest-ends : (a b : List ℕ) (branches : List Branch) (touched : Touched) → LiesWithin a b branches touched → All EndsBoth touched.rest.items
rest-ends a b branches touched within = All-weaker (FitsFrom a b) EndsBoth (λ x f. f.ends) touched.rest.items within.rest

back-around : (a b : List ℕ) (branches : List Branch) (touched : Touched) → All EndsBoth branches → All EndsBoth touched.rest.items → around_middle a b branches touched ≡ map (branch_back a b) (with_middle a b (branches_at a b branches) touched)
back-around a b branches touched h rest_ends =
    let seen = branches_at a b branches in
    let back = branch_back a b in
    let middle = touched.branches.items in
    let rest = touched.rest.items in
    sym (map-append back (take touched.front seen) (middle ++ branches_at a b rest)
    ∙ ap (λ (bs : List Branch). bs ++ map back (middle ++ branches_at a b rest)) (sym (take-map back touched.front seen) ∙ ap (take touched.front) (back-at a b branches h))
    ∙ ap (λ (bs : List Branch). take touched.front branches ++ bs) (map-append back middle (branches_at a b rest)
    ∙ ap (λ (bs : List Branch). map back middle ++ bs) (back-at a b rest rest_ends)))

around-past : (a b : List ℕ) (branches : List Branch) (touched : Touched) → All EndsBoth branches → All EndsBoth touched.rest.items → All (λ x. IsUpTo a x.first) touched.branches.items → All (λ x. IsUpTo b x.second) touched.branches.items → All (IsPast a b) (with_middle a b (branches_at a b branches) touched)
around-past a b branches touched h rest_ends first second =
    let seen = branches_at a b branches in
    let rest = branches_at a b touched.rest.items in
    All-append (IsPast a b) (take touched.front seen) (touched.branches.items ++ rest) (All-take (IsPast a b) touched.front seen (at-past a b branches h))
    (All-append (IsPast a b) touched.branches.items rest (are_past a b touched.branches.items first second) (at-past a b touched.rest.items rest_ends))

-- ---- a node with these children, which may be none

pub well_formed-if_some : {L : Type 0} (w : Widths L) (nodes : List (Shape L)) (branches : List Branch) → branches ≢ [] → MayBeRoot w nodes (Branches branches) → IsWellFormed w nodes (Branches branches)
well_formed-if_some w nodes [] some may = absurd (some refl)
well_formed-if_some w nodes (branch ∷ branches) some may = may

pub filled-if_well_formed : {L : Type 0} (w : Widths L) (nodes : List (Shape L)) (branches : List Branch) → IsWellFormed w nodes (Branches branches) → flat_rows nodes branches ≢ []
filled-if_well_formed w nodes [] well_formed = absurd (well_formed.branches.some refl)
filled-if_well_formed w nodes (branch ∷ branches) well_formed =
    let first = All-head (IsWellFormedBranch w nodes) branch branches well_formed.branches.each in
    front-filled (branch_rows (rows_table nodes) branch) (flat_rows nodes branches) (map-filled (moved branch.first branch.second) (rows_of nodes branch.node.0) first.filled)
  where
    map-filled : {A B : Type 0} (f : A → B) (xs : List A) → xs ≢ [] → map f xs ≢ []
    map-filled f [] n q = n refl
    map-filled f (x ∷ xs) n q = cc

    front-filled : {A : Type 0} (xs ys : List A) → xs ≢ [] → xs ++ ys ≢ []
    front-filled [] ys n q = n refl
    front-filled (x ∷ xs) ys n q = cc

pub map-none : {A B : Type 0} (f : A → B) (xs : List A) → map f xs ≡ [] → xs ≡ []
map-none f [] e = refl
map-none f (x ∷ xs) e = absurd (omega (arith, ap length e))

none-if_empty : {A : Type 0} (xs : List A) → eqb (length xs) 0 ≡ true → xs ≡ []
none-if_empty [] e = refl
none-if_empty (x ∷ xs) e = absurd (grind (arith, nat_tests))

some-if_not : {A : Type 0} (xs : List A) → eqb (length xs) 0 ≡ false → xs ≢ []
some-if_not [] e q = grind (arith, nat_tests)
some-if_not (x ∷ xs) e q = cc

-- what is known where children with others in the middle come into a new node
pub record AroundAt {L : Type 0} (w : Widths L) (nodes : List (Shape L)) (branch : Branch) (touched : Touched) (made : List Branch) : Type 0 where
  pub nodes_well_formed : AreWellFormed w nodes
  pub part : IsWellFormedPart w nodes branch
  pub inner : node_at nodes branch.node.0 ≡ Branches (branches_under (node_at nodes branch.node.0))
  pub well_formed : MayBeRoot w nodes (Branches (with_middle branch.first branch.second (branches_at branch.first branch.second (branches_under (node_at nodes branch.node.0))) touched))
  pub within : LiesWithin branch.first branch.second (branches_under (node_at nodes branch.node.0)) touched
  pub first_up_to : All (λ x. IsUpTo branch.first x.first) touched.branches.items
  pub second_up_to : All (λ x. IsUpTo branch.second x.second) touched.branches.items
  pub is : made ≡ around_middle branch.first branch.second (branches_under (node_at nodes branch.node.0)) touched

ends-around : {L : Type 0} (w : Widths L) (nodes : List (Shape L)) (branch : Branch) (touched : Touched) (made : List Branch) → AroundAt w nodes branch touched made → All EndsBoth (branches_under (node_at nodes branch.node.0))
ends-around w nodes branch touched made at = ends-both w nodes (branches_under (node_at nodes branch.node.0)) (well_formed-under w nodes branch.node.0 at.nodes_well_formed at.part.branch.below at.inner)

rest-around : {L : Type 0} (w : Widths L) (nodes : List (Shape L)) (branch : Branch) (touched : Touched) (made : List Branch) → AroundAt w nodes branch touched made → All EndsBoth touched.rest.items
rest-around w nodes branch touched made at = rest-ends branch.first branch.second (branches_under (node_at nodes branch.node.0)) touched at.within

made-back : {L : Type 0} (w : Widths L) (nodes : List (Shape L)) (branch : Branch) (touched : Touched) (made : List Branch) → AroundAt w nodes branch touched made → made ≡ map (branch_back branch.first branch.second) (with_middle branch.first branch.second (branches_at branch.first branch.second (branches_under (node_at nodes branch.node.0))) touched)
made-back w nodes branch touched made at = at.is ∙ back-around branch.first branch.second (branches_under (node_at nodes branch.node.0)) touched (ends-around w nodes branch touched made at) (rest-around w nodes branch touched made at)

pub around-may_stand : {L : Type 0} (w : Widths L) → WidthsStay w → (nodes : List (Shape L)) (branch : Branch) (touched : Touched) (made : List Branch) (empty : Bool) → AroundAt w nodes branch touched made → empty ≡ eqb (length made) 0 → empty ≡ false → MayStandAt w nodes (Branches made) branch.first branch.second
around-may_stand w stay nodes branch touched made empty at e t =
    let a = branch.first in
    let b = branch.second in
    let under = branches_under (node_at nodes branch.node.0) in
    let all = with_middle a b (branches_at a b under) touched in
    let is = made-back w nodes branch touched made at in
    let some : all ≢ [] = λ q. some-if_not made (sym e ∙ t) (is ∙ ap (map (branch_back a b)) q) in
    let well_formed = well_formed-if_some w nodes all some at.well_formed in
    branches-may_stand w stay nodes at.nodes_well_formed a b (All-head IsTumbler a _ at.part.first_origins) (All-head IsTumbler b _ at.part.second_origins) all made
    (around-past a b under touched (ends-around w nodes branch touched made at) (rest-around w nodes branch touched made at) at.first_up_to at.second_up_to) well_formed (filled-if_well_formed w nodes all well_formed) is

pub around-packed : {L : Type 0} (w : Widths L) (nodes new : List (Shape L)) (branch : Branch) (touched : Touched) (made : List Branch) (packed : Branch) → AroundAt w nodes branch touched made → IsPlaced w nodes new (Branches made) branch.first branch.second packed
    → IsPacked w nodes new (Branches (with_middle branch.first branch.second (branches_at branch.first branch.second (branches_under (node_at nodes branch.node.0))) touched)) packed
around-packed w nodes new branch touched made packed at placed =
    let a = branch.first in
    let b = branch.second in
    let under = branches_under (node_at nodes branch.node.0) in
    branches-packed w nodes new a b (with_middle a b (branches_at a b under) touched) made packed
    (around-past a b under touched (ends-around w nodes branch touched made at) (rest-around w nodes branch touched made at) at.first_up_to at.second_up_to) (made-back w nodes branch touched made at) placed

pub around-none : {L : Type 0} (w : Widths L) (nodes : List (Shape L)) (branch : Branch) (touched : Touched) (made : List Branch) (empty : Bool) → AroundAt w nodes branch touched made → empty ≡ eqb (length made) 0 → empty ≡ true
    → rows_in (rows_table nodes) (Branches (with_middle branch.first branch.second (branches_at branch.first branch.second (branches_under (node_at nodes branch.node.0))) touched)) ≡ []
around-none w nodes branch touched made empty at e t =
    ap (flat_rows nodes) (map-none (branch_back branch.first branch.second) _ (sym (made-back w nodes branch touched made at) ∙ none-if_empty made (sym e ∙ t)))

-- ---- all at their places

pub opened-well_formed : {L : Type 0} (w : Widths L) (nodes : List (Shape L)) (all made held : List Branch) (empty : Bool) → MayBeRoot w nodes (Branches all) → made ≡ all → held ≡ made → empty ≡ eqb (length made) 0 → empty ≡ false → IsWellFormed w nodes (Branches held)
opened-well_formed w nodes all made held empty may is held_is e t = subst (λ (bs : List Branch). IsWellFormed w nodes (Branches bs)) (sym (held_is ∙ is)) (well_formed-if_some w nodes all (λ q. some-if_not made (sym e ∙ t) (is ∙ q)) may)

pub opened-none : {L : Type 0} (nodes : List (Shape L)) (all made : List Branch) (empty : Bool) → made ≡ all → empty ≡ eqb (length made) 0 → empty ≡ true → rows_in (rows_table nodes) (Branches all) ≡ []
opened-none nodes all made empty is e t = ap (flat_rows nodes) (sym is ∙ none-if_empty made (sym e ∙ t))

-- ---- the lists, as the code makes them

pub made-in_parts : (front middle behind start one two three : List Branch) → start ≡ [] → one ≡ start ++ front → two ≡ one ++ middle → three ≡ two ++ behind → three ≡ front ++ (middle ++ behind)
made-in_parts front middle behind start one two three none e f g =
    g ∙ ap (λ (bs : List Branch). bs ++ behind) (f ∙ ap (λ (bs : List Branch). bs ++ middle) (e ∙ ap (λ (bs : List Branch). bs ++ front) none)) ∙ append_assoc front middle behind

pub made-around : (a b : List ℕ) (under front branches : List Branch) (touched : Touched) (made : List Branch) → under ≡ branches → front ≡ take touched.front under → made ≡ front ++ (map (branch_back a b) touched.branches.items ++ touched.rest.items) → made ≡ around_middle a b branches touched
made-around a b under front branches touched made is front_is e =
    e ∙ ap (λ (bs : List Branch). bs ++ (map (branch_back a b) touched.branches.items ++ touched.rest.items)) (front_is ∙ ap (take touched.front) is)

pub made-opened : (a b : List ℕ) (under front branches : List Branch) (touched : Touched) (one two three more : List Branch) → under ≡ branches → front ≡ take touched.front under → one ≡ map (branch_at a b) front → two ≡ one ++ touched.branches.items → more ≡ branches_at a b touched.rest.items → three ≡ two ++ more
    → three ≡ with_middle a b (branches_at a b branches) touched
made-opened a b under front branches touched one two three more is front_is e f m g =
    let at = branch_at a b in
    let here : one ≡ take touched.front (map at branches) = e ∙ ap (map at) (front_is ∙ ap (take touched.front) is) ∙ sym (take-map at touched.front branches) in
    g ∙ ap (λ (bs : List Branch). bs ++ more) (f ∙ ap (λ (bs : List Branch). bs ++ touched.branches.items) here)
    ∙ append_assoc (take touched.front (map at branches)) touched.branches.items more
    ∙ ap (λ (bs : List Branch). take touched.front (map at branches) ++ (touched.branches.items ++ bs)) m
