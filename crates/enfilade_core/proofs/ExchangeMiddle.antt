-- An exchange in an inner node: its middle is exchanged, and the others stay around it. An exchange at a root.
use Rattle.std.proofs.Common.{◌≡◌, ℕ, ◌<◌, List, [], ◌∷◌, ◌++◌, length, take, map, Option, Some, None, refl, arith, ap, ◌∙◌, sym, subst}
use Rattle.std.specs.List.{All}
use Rattle.std.proofs.lemmas.List.{get_or_append_left, length-map}
use Rattle.tumbler.specs.Places.{IsUpTo, sum}
use Rattle.tumbler.specs.ListView.{ListView}
use Rattle.tumbler.proofs.Before.{none_up_to}
use Rattle.tumbler.proofs.Sums.{sum-from_zero}
use Rattle.enfilade_core.specs.declared.tree.Row.{Row}
use Rattle.enfilade_core.specs.declared.tree.Branch.{Branch}
use Rattle.enfilade_core.specs.declared.gap.Gap.{Gap}
use Rattle.enfilade_core.specs.declared.rebuild_node.Touched.{Touched}
use Rattle.enfilade_core.specs.Rows.{Shape, Rows, Branches, moved, branch_rows, rows_in, rows_table, rows_of, node_at, branches_under, rows_under}
use Rattle.enfilade_core.specs.Axes.{Widths, IsWellFormedRow, IsWellFormedRows}
use Rattle.enfilade_core.specs.WellFormed.{IsWellFormed, IsWellFormedPart, AreWellFormed}
use Rattle.enfilade_core.specs.Summary.{height_of}
use Rattle.enfilade_core.specs.Edits.{taken_out}
use Rattle.enfilade_core.specs.Exchange.{exchanged, Grows, IsWellFormedAt, branch_at, IsOpened, HasRows, LevelRows, MayHaveRows, MayHaveChildren}
use Rattle.enfilade_core.specs.Packing.{branch_back}
use Rattle.enfilade_core.specs.Touched.{branches_at, IsTouched, LiesWithin, with_middle, around_middle, MayBePacked}
use Rattle.enfilade_core.proofs.Seen.{rows-not_moved}
use Rattle.enfilade_core.proofs.Parts.{rows-said, well_formed-now}
use Rattle.enfilade_core.proofs.OpenedAt.{at-of_root, at-of_part, bottom-fits, bottom-opened}
use Rattle.enfilade_core.proofs.ExchangeGrown.{flat_rows}
use Rattle.enfilade_core.proofs.ExchangeNodes.{packed-has, bottom-exchanged, inner-exchanged, well_formed-opened, taken-opened}
use Rattle.enfilade_core.proofs.AroundMiddle.{map-none}
use Rattle.enfilade_core.proofs.TouchedRows.{TouchedAt, MiddleReady, opened-under, middle-ready, middle-made, touched-taken}

-- ---- a node with a middle

pub record NodeAt {L : Type 0} (w : Widths L) (nodes : List (Shape L)) (gap : Gap) (new : List (Row L)) (k : ℕ) (a b : List ℕ) (touched : Touched) (middle : List Branch) : Type 0 where
  pub nodes_well_formed : AreWellFormed w nodes
  pub up_to : IsUpTo gap.from gap.to
  pub at : IsWellFormedAt w nodes k a b
  pub inner : node_at nodes k ≡ Branches (branches_under (node_at nodes k))
  pub well_formed : IsWellFormedRows w (exchanged gap new (map (moved a b) (rows_of nodes k)))
  pub is : IsTouched w nodes gap a b (branches_at a b (branches_under (node_at nodes k))) touched
  pub middle_is : middle ≡ touched.branches.items

node-opened : {L : Type 0} (w : Widths L) (nodes : List (Shape L)) (gap : Gap) (new : List (Row L)) (k : ℕ) (a b : List ℕ) (touched : Touched) (middle : List Branch) → NodeAt w nodes gap new k a b touched middle → IsOpened w nodes k a b (Branches (branches_at a b (branches_under (node_at nodes k))))
node-opened w nodes gap new k a b touched middle n = opened-under w nodes k a b n.nodes_well_formed n.at n.inner

node-touched : {L : Type 0} (w : Widths L) (nodes : List (Shape L)) (gap : Gap) (new : List (Row L)) (k : ℕ) (a b : List ℕ) (touched : Touched) (middle : List Branch) → NodeAt w nodes gap new k a b touched middle → TouchedAt w nodes gap new a b (branches_at a b (branches_under (node_at nodes k))) touched
node-touched w nodes gap new k a b touched middle n =
    let seen = branches_at a b (branches_under (node_at nodes k)) in
    let opened = node-opened w nodes gap new k a b touched middle n in
    record { up_to = n.up_to; node = opened.well_formed; well_formed = well_formed-opened w nodes k a b (Branches seen) gap new opened n.well_formed; is = n.is }

pub node-ready : {L : Type 0} (w : Widths L) (nodes : List (Shape L)) (gap : Gap) (new : List (Row L)) (k : ℕ) (a b : List ℕ) (touched : Touched) (middle : List Branch) → NodeAt w nodes gap new k a b touched middle → MiddleReady w nodes gap new k middle
node-ready w nodes gap new k a b touched middle n =
    subst (MiddleReady w nodes gap new k) (sym n.middle_is)
    (middle-ready w nodes gap new k a b (branches_at a b (branches_under (node_at nodes k))) touched (node-touched w nodes gap new k a b touched middle n) (node-opened w nodes gap new k a b touched middle n).named)

pub node-within : {L : Type 0} (w : Widths L) (nodes : List (Shape L)) (gap : Gap) (new : List (Row L)) (k : ℕ) (a b : List ℕ) (touched : Touched) (middle : List Branch) (made : ListView Branch) → NodeAt w nodes gap new k a b touched middle
    → LiesWithin a b (branches_under (node_at nodes k)) (record { front = touched.front; behind = touched.behind; branches = made; rest = touched.rest })
node-within w nodes gap new k a b touched middle made n =
    record { some = n.is.behind.some; short = omega (arith, n.is.behind.short, length-map (branches_under (node_at nodes k)) (branch_at a b)); rest = n.is.behind.rest.fits }

pub node-rows : {L : Type 0} (w : Widths L) (nodes now : List (Shape L)) (gap : Gap) (new : List (Row L)) (k : ℕ) (a b : List ℕ) (touched : Touched) (middle : List Branch) (made : ListView Branch) → NodeAt w nodes gap new k a b touched middle → Grows nodes now
    → LevelRows w nodes now middle (exchanged gap new (rows_in (rows_table nodes) (Branches middle))) made.items
    → MayHaveChildren w now (height_of w nodes k) (exchanged gap new (map (moved a b) (rows_of nodes k))) (Branches (with_middle a b (branches_at a b (branches_under (node_at nodes k))) (record { front = touched.front; behind = touched.behind; branches = made; rest = touched.rest })))
node-rows w nodes now gap new k a b touched middle made n grows have =
    let seen = branches_at a b (branches_under (node_at nodes k)) in
    let all : Touched = record { front = touched.front; behind = touched.behind; branches = made; rest = touched.rest } in
    let have = subst (λ (bs : List Branch). LevelRows w nodes now bs (exchanged gap new (flat_rows nodes bs)) made.items) n.middle_is have in
    inner-exchanged w nodes now k a b gap new seen (with_middle a b seen all) (node-opened w nodes gap new k a b touched middle n) n.well_formed
    (middle-made w nodes now gap new a b seen touched all (node-touched w nodes gap new k a b touched middle n) grows have refl refl)

pub node-taken : {L : Type 0} (w : Widths L) (nodes : List (Shape L)) (gap : Gap) (new : List (Row L)) (k : ℕ) (a b : List ℕ) (touched : Touched) (middle : List Branch) (before after : List (Row L)) → NodeAt w nodes gap new k a b touched middle
    → after ≡ before ++ taken_out gap.from gap.to (rows_in (rows_table nodes) (Branches middle)) → after ≡ before ++ taken_out gap.from gap.to (map (moved a b) (rows_of nodes k))
node-taken {L} w nodes gap new k a b touched middle before after n e =
    let seen = branches_at a b (branches_under (node_at nodes k)) in
    taken-opened w nodes k a b (Branches seen) gap before after (node-opened w nodes gap new k a b touched middle n)
    (e ∙ ap (λ (bs : List Branch). before ++ taken_out gap.from gap.to (flat_rows nodes bs)) n.middle_is ∙ ap (λ (r : List (Row L)). before ++ r) (sym (touched-taken w nodes gap a b seen touched n.is)))

-- a node stays where others come in behind
pub node-grown : {L : Type 0} (old new : List (Shape L)) (k : ℕ) → Grows old new → k < length old → node_at new k ≡ node_at old k
node-grown {L} old new k g lt = ap (λ (ns : List (Shape L)). node_at ns k) g.is ∙ get_or_append_left old g.more (Rows []) k lt

-- what was packed has the rows of the children, where there are any
pub may-packed : {L : Type 0} (w : Widths L) (old new : List (Shape L)) (height : ℕ) (rows : List (Row L)) (all : List Branch) (made : Option Branch) → MayHaveChildren w old height rows (Branches all) → MayBePacked w old new (Branches all) made → MayHaveRows w new height rows made
may-packed w old new height rows [] (Some branch) h p = absurd (p.part.branch.filled (map-none (moved branch.first branch.second) (rows_of new branch.node.0) p.rows))
may-packed w old new height rows (x ∷ xs) (Some branch) h p = packed-has w old new height rows (Branches (x ∷ xs)) branch h p
may-packed w old new height rows [] None h p = h
may-packed w old new height rows (x ∷ xs) None h p = sym h.rows_are ∙ p

-- ---- a bottom node

pub record BottomAt {L : Type 0} (w : Widths L) (nodes : List (Shape L)) (gap : Gap) (new : List (Row L)) (branch : Branch) : Type 0 where
  pub nodes_well_formed : AreWellFormed w nodes
  pub part : IsWellFormedPart w nodes branch
  pub bottom : node_at nodes branch.node.0 ≡ Rows (rows_under (node_at nodes branch.node.0))
  pub well_formed : IsWellFormedRows w (exchanged gap new (branch_rows (rows_table nodes) branch))

pub bottom-fits_under : {L : Type 0} (w : Widths L) (nodes : List (Shape L)) (gap : Gap) (new : List (Row L)) (branch : Branch) (under : List (Row L)) → BottomAt w nodes gap new branch → under ≡ rows_under (node_at nodes branch.node.0) → All (IsWellFormedRow w) (map (moved branch.first branch.second) under)
bottom-fits_under {L} w nodes gap new branch under at is =
    subst (λ (r : List (Row L)). All (IsWellFormedRow w) (map (moved branch.first branch.second) r)) (sym is) (bottom-fits w nodes branch.node.0 branch.first branch.second (rows_under (node_at nodes branch.node.0)) at.nodes_well_formed (at-of_part w nodes branch at.part) at.bottom)

pub bottom-seen : {L : Type 0} (w : Widths L) (nodes : List (Shape L)) (gap : Gap) (new : List (Row L)) (branch : Branch) (under old : List (Row L)) → BottomAt w nodes gap new branch → under ≡ rows_under (node_at nodes branch.node.0) → old ≡ map (moved branch.first branch.second) under → IsOpened w nodes branch.node.0 branch.first branch.second (Rows old)
bottom-seen w nodes gap new branch under old at under_is is =
    bottom-opened w nodes branch.node.0 branch.first branch.second (rows_under (node_at nodes branch.node.0)) old at.nodes_well_formed (at-of_part w nodes branch at.part) at.bottom (is ∙ ap (map (moved branch.first branch.second)) under_is)

pub bottom-well_formed : {L : Type 0} (w : Widths L) (nodes : List (Shape L)) (gap : Gap) (new : List (Row L)) (branch : Branch) (old : List (Row L)) → BottomAt w nodes gap new branch → IsOpened w nodes branch.node.0 branch.first branch.second (Rows old) → IsWellFormedRows w (exchanged gap new old)
bottom-well_formed w nodes gap new branch old at opened = well_formed-opened w nodes branch.node.0 branch.first branch.second (Rows old) gap new opened at.well_formed

pub bottom-has : {L : Type 0} (w : Widths L) (nodes : List (Shape L)) (gap : Gap) (new : List (Row L)) (branch : Branch) (old made : List (Row L)) → BottomAt w nodes gap new branch → IsOpened w nodes branch.node.0 branch.first branch.second (Rows old) → made ≡ exchanged gap new old
    → HasRows w nodes (height_of w nodes branch.node.0) (exchanged gap new (branch_rows (rows_table nodes) branch)) (Rows made)
bottom-has w nodes gap new branch old made at opened is = bottom-exchanged w nodes branch.node.0 branch.first branch.second gap new old made opened at.well_formed is

-- ---- at a root

-- all branches stand at or past zero
pub past_zero : (zero : List ℕ) (coordinate : Branch → List ℕ) (branches : List Branch) → zero ≡ [] → All (λ branch. IsUpTo zero (coordinate branch)) branches
past_zero zero coordinate branches is = λ k d lt. rw is (none_up_to (coordinate _))

not_moved : (branches : List Branch) → map (branch_at [] []) branches ≡ branches
not_moved [] = refl
not_moved (branch ∷ branches) =
    ap (λ (x : Branch). x ∷ map (branch_at [] []) branches) (ap (λ (x : List ℕ). record branch { first = x; second = sum [] branch.second }) (sum-from_zero branch.first) ∙ ap (λ (x : List ℕ). record branch { second = x }) (sum-from_zero branch.second))
    ∙ ap (λ (bs : List Branch). branch ∷ bs) (not_moved branches)

not_back : (branches : List Branch) → map (branch_back [] []) branches ≡ branches
not_back [] = refl
not_back (branch ∷ branches) = ap (λ (bs : List Branch). branch ∷ bs) (not_back branches)

pub around_zero : (zero : List ℕ) (branches : List Branch) (touched : Touched) → zero ≡ [] → around_middle zero zero branches touched ≡ with_middle zero zero (branches_at zero zero branches) touched
around_zero zero branches touched is =
    rw is (ap (λ (bs : List Branch). take touched.front branches ++ (bs ++ touched.rest.items)) (not_back touched.branches.items)
    ∙ ap (λ (bs : List Branch). take touched.front bs ++ (touched.branches.items ++ touched.rest.items)) (sym (not_moved branches))
    ∙ ap (λ (bs : List Branch). take touched.front (map (branch_at [] []) branches) ++ (touched.branches.items ++ bs)) (sym (not_moved touched.rest.items)))

pub root-inner : {L : Type 0} (w : Widths L) (now : List (Shape L)) (height : ℕ) (zero : List ℕ) (gap : Gap) (new rows : List (Row L)) (branches made : List Branch) (touched : Touched) → zero ≡ [] → made ≡ around_middle zero zero branches touched
    → MayHaveChildren w now height (exchanged gap new (map (moved zero zero) rows)) (Branches (with_middle zero zero (branches_at zero zero branches) touched)) → MayHaveChildren w now height (exchanged gap new rows) (Branches made)
root-inner {L} w now height zero gap new rows branches made touched z is h =
    subst (λ (bs : List Branch). MayHaveChildren w now height (exchanged gap new rows) (Branches bs)) (sym (is ∙ around_zero zero branches touched z))
    (subst (λ (r : List (Row L)). MayHaveChildren w now height (exchanged gap new r) (Branches (with_middle zero zero (branches_at zero zero branches) touched))) (rw z (rows-not_moved rows)) h)

-- the rows of a bottom node are those under it
pub rows-bottom : {L : Type 0} (w : Widths L) (nodes : List (Shape L)) (k : ℕ) → AreWellFormed w nodes → k < length nodes → node_at nodes k ≡ Rows (rows_under (node_at nodes k)) → rows_of nodes k ≡ rows_under (node_at nodes k)
rows-bottom w nodes k well_formed lt is = rows-said w nodes k well_formed lt ∙ ap (rows_in (rows_table nodes)) is

pub rows-under_well_formed : {L : Type 0} (w : Widths L) (nodes : List (Shape L)) (k : ℕ) → AreWellFormed w nodes → k < length nodes → node_at nodes k ≡ Rows (rows_under (node_at nodes k)) → IsWellFormedRows w (rows_under (node_at nodes k))
rows-under_well_formed w nodes k well_formed lt is =
    let now = subst (IsWellFormed w nodes) is (well_formed-now w nodes k well_formed lt) in
    record { each = now.rows; ordered = now.ordered }

pub root-bottom : {L : Type 0} (w : Widths L) (nodes : List (Shape L)) (k : ℕ) (gap : Gap) (new held made : List (Row L)) → AreWellFormed w nodes → k < length nodes → node_at nodes k ≡ Rows (rows_under (node_at nodes k)) → held ≡ rows_under (node_at nodes k)
    → IsWellFormedRows w (exchanged gap new (rows_of nodes k)) → made ≡ exchanged gap new held → HasRows w nodes (height_of w nodes k) (exchanged gap new (rows_of nodes k)) (Rows made)
root-bottom {L} w nodes k gap new held made nodes_well_formed lt is held_is well_formed made_is =
    let rows = rows_of nodes k in
    let same = rows-not_moved rows in
    let under = rows_under (node_at nodes k) in
    subst (λ (r : List (Row L)). HasRows w nodes (height_of w nodes k) (exchanged gap new r) (Rows made)) same
    (bottom-exchanged w nodes k [] [] gap new (map (moved [] []) under) made (bottom-opened w nodes k [] [] under (map (moved [] []) under) nodes_well_formed (at-of_root w nodes k nodes_well_formed lt) is refl)
    (subst (λ (r : List (Row L)). IsWellFormedRows w (exchanged gap new r)) (sym same) well_formed) (made_is ∙ ap (exchanged gap new) (held_is ∙ sym (rows-not_moved under))))
