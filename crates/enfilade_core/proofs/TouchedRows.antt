-- The children of a node in three parts, of which an exchange changes the one in the middle.
use Rattle.std.proofs.Common.{◌≡◌, ◌≢◌, false, ℕ, ◌+◌, ◌<◌, ◌≤◌, List, [], ◌++◌, length, take, drop, map, refl, arith, ap, ◌∙◌, sym, subst, append_assoc, append-nil}
use Rattle.std.specs.List.{All}
use Rattle.std.proofs.lemmas.List.{take-append-drop, take-take, drop-drop, take-map, drop-map, length-take-le, length-drop}
use Rattle.std.proofs.lemmas.List.Elements.{All-head, All-weaker, All-drop, All-take}
use Rattle.std.proofs.lemmas.Grind.{flat_map-append}
use Rattle.tumbler.specs.Places.{IsTumbler, IsUpTo, comes_before}
use Rattle.tumbler.specs.ListView.{ListView}
use Rattle.tumbler.proofs.Alls.{All-back}
use Rattle.enfilade_core.specs.declared.tree.Row.{Row}
use Rattle.enfilade_core.specs.declared.tree.Branch.{Branch}
use Rattle.enfilade_core.specs.declared.gap.Gap.{Gap}
use Rattle.enfilade_core.specs.declared.rebuild_node.Touched.{Touched}
use Rattle.enfilade_core.specs.Rows.{Shape, Branches, branch_rows, rows_table, node_at, branches_under}
use Rattle.enfilade_core.specs.Axes.{Widths, InOrder, IsWellFormedRows}
use Rattle.enfilade_core.specs.WellFormed.{IsWellFormed, IsWellFormedPart, AreWellFormed}
use Rattle.enfilade_core.specs.Summary.{height_of}
use Rattle.enfilade_core.specs.Edits.{taken_out, shifted}
use Rattle.enfilade_core.specs.Exchange.{exchanged, Grows, IsWellFormedAt, branch_at, IsOpened, BranchesHaveRows, LevelRows}
use Rattle.enfilade_core.specs.Touched.{branches_at, IsSeenFrom, StandBefore, StandPast, EndsBoth, IsBehind, IsTouched, with_middle}
use Rattle.enfilade_core.proofs.Nodes.{node-parts}
use Rattle.enfilade_core.proofs.Orders.{InOrder-front, InOrder-back}
use Rattle.enfilade_core.proofs.Parts.{well_formed-now}
use Rattle.enfilade_core.proofs.OpenedAt.{inner-opened}
use Rattle.enfilade_core.proofs.PackedBranches.{well_formed-if_parts}
use Rattle.enfilade_core.proofs.ExchangeLists.{NoneBefore, none_before_earlier, exchanged-front, exchanged-back, exchanged-past, taken-append, taken-before, taken-past, well_formed_rows-front, well_formed_rows-back}
use Rattle.enfilade_core.proofs.ExchangeGrown.{flat_rows, branches-grown, branches-append}
use Rattle.enfilade_core.proofs.SeenPlaces.{seen-past, parts-end, before-there}

-- ---- some of the branches of a well formed node

filled-drop : {A : Type 0} (n : ℕ) (xs : List A) → n < length xs → drop n xs ≢ []
filled-drop n xs lt e = absurd (omega (arith, lt, length-drop n xs, ap length e))

filled-between : {A : Type 0} (m n : ℕ) (xs : List A) → m < n → n ≤ length xs → drop m (take n xs) ≢ []
filled-between m n xs lt le = filled-drop m (take n xs) (omega (arith, lt, length-take-le n xs le))

pub flat-split : {L : Type 0} (nodes : List (Shape L)) (n : ℕ) (branches : List Branch) → flat_rows nodes branches ≡ flat_rows nodes (take n branches) ++ flat_rows nodes (drop n branches)
flat-split nodes n branches = ap (flat_rows nodes) (sym (take-append-drop n branches)) ∙ flat_map-append (branch_rows (rows_table nodes)) (take n branches) (drop n branches)

pub well_formed-drop : {L : Type 0} (w : Widths L) (nodes : List (Shape L)) (n : ℕ) (branches : List Branch) → n < length branches → IsWellFormed w nodes (Branches branches) → IsWellFormed w nodes (Branches (drop n branches))
well_formed-drop w nodes n branches lt well_formed =
    well_formed-if_parts w nodes (drop n branches) well_formed.branches.height (filled-drop n branches lt) (All-drop (IsWellFormedPart w nodes) n branches (node-parts w nodes branches well_formed)) (All-drop (λ b. height_of w nodes b.node.0 ≡ well_formed.branches.height) n branches well_formed.branches.level)
    (InOrder-back (flat_rows nodes (take n branches)) (flat_rows nodes (drop n branches)) (subst InOrder (flat-split nodes n branches) well_formed.ordered))

pub well_formed-take : {L : Type 0} (w : Widths L) (nodes : List (Shape L)) (n : ℕ) (branches : List Branch) → take n branches ≢ [] → IsWellFormed w nodes (Branches branches) → IsWellFormed w nodes (Branches (take n branches))
well_formed-take w nodes n branches some well_formed =
    well_formed-if_parts w nodes (take n branches) well_formed.branches.height some (All-take (IsWellFormedPart w nodes) n branches (node-parts w nodes branches well_formed)) (All-take (λ b. height_of w nodes b.node.0 ≡ well_formed.branches.height) n branches well_formed.branches.level)
    (InOrder-front (flat_rows nodes (take n branches)) (flat_rows nodes (drop n branches)) (subst InOrder (flat-split nodes n branches) well_formed.ordered))

-- ---- three parts

-- what is known where an exchange looks at the children of a node
pub record TouchedAt {L : Type 0} (w : Widths L) (nodes : List (Shape L)) (gap : Gap) (new : List (Row L)) (a b : List ℕ) (seen : List Branch) (touched : Touched) : Type 0 where
  pub up_to : IsUpTo gap.from gap.to
  pub node : IsWellFormed w nodes (Branches seen)
  pub well_formed : IsWellFormedRows w (exchanged gap new (flat_rows nodes seen))
  pub is : IsTouched w nodes gap a b seen touched

three-parts : {L : Type 0} (w : Widths L) (nodes : List (Shape L)) (gap : Gap) (a b : List ℕ) (seen : List Branch) (touched : Touched) → IsTouched w nodes gap a b seen touched → seen ≡ take touched.front seen ++ (touched.branches.items ++ drop touched.behind seen)
three-parts w nodes gap a b seen touched is =
    let up_to = take touched.behind seen in
    sym (take-append-drop touched.behind seen)
    ∙ ap (λ (bs : List Branch). bs ++ drop touched.behind seen) (sym (take-append-drop touched.front up_to) ∙ ap (λ (bs : List Branch). take touched.front up_to ++ bs) (sym is.middle) ∙ ap (λ (bs : List Branch). bs ++ touched.branches.items) (take-take touched.front touched.behind seen (omega (arith, is.behind.some))))
    ∙ append_assoc (take touched.front seen) touched.branches.items (drop touched.behind seen)

flat-parts : {L : Type 0} (nodes : List (Shape L)) (front middle behind : List Branch) → flat_rows nodes (front ++ (middle ++ behind)) ≡ flat_rows nodes front ++ (flat_rows nodes middle ++ flat_rows nodes behind)
flat-parts {L} nodes front middle behind =
    flat_map-append (branch_rows (rows_table nodes)) front (middle ++ behind)
    ∙ ap (λ (r : List (Row L)). flat_rows nodes front ++ r) (flat_map-append (branch_rows (rows_table nodes)) middle behind)

touched-rows : {L : Type 0} (w : Widths L) (nodes : List (Shape L)) (gap : Gap) (a b : List ℕ) (seen : List Branch) (touched : Touched) → IsTouched w nodes gap a b seen touched → flat_rows nodes seen ≡ flat_rows nodes (take touched.front seen) ++ (flat_rows nodes touched.branches.items ++ flat_rows nodes (drop touched.behind seen))
touched-rows w nodes gap a b seen touched is = ap (flat_rows nodes) (three-parts w nodes gap a b seen touched is) ∙ flat-parts nodes (take touched.front seen) touched.branches.items (drop touched.behind seen)

-- what an exchange makes of the three
touched-exchanged : {L : Type 0} (w : Widths L) (nodes : List (Shape L)) (gap : Gap) (new : List (Row L)) (a b : List ℕ) (seen : List Branch) (touched : Touched) → IsUpTo gap.from gap.to → IsTouched w nodes gap a b seen touched
    → exchanged gap new (flat_rows nodes seen) ≡ flat_rows nodes (take touched.front seen) ++ (exchanged gap new (flat_rows nodes touched.branches.items) ++ shifted gap.to gap.onto (flat_rows nodes (drop touched.behind seen)))
touched-exchanged {L} w nodes gap new a b seen touched le is =
    let front = flat_rows nodes (take touched.front seen) in
    let middle = flat_rows nodes touched.branches.items in
    let behind = flat_rows nodes (drop touched.behind seen) in
    ap (exchanged gap new) (touched-rows w nodes gap a b seen touched is)
    ∙ exchanged-front gap new front (middle ++ behind) le is.front
    ∙ ap (λ (r : List (Row L)). front ++ r) (exchanged-back gap new middle behind (none_before_earlier gap.from gap.to behind le is.behind.past)
    ∙ ap (λ (r : List (Row L)). exchanged gap new middle ++ r) (exchanged-past gap behind le is.behind.past))

pub touched-taken : {L : Type 0} (w : Widths L) (nodes : List (Shape L)) (gap : Gap) (a b : List ℕ) (seen : List Branch) (touched : Touched) → IsTouched w nodes gap a b seen touched → taken_out gap.from gap.to (flat_rows nodes seen) ≡ taken_out gap.from gap.to (flat_rows nodes touched.branches.items)
touched-taken {L} w nodes gap a b seen touched is =
    let front = flat_rows nodes (take touched.front seen) in
    let middle = flat_rows nodes touched.branches.items in
    let behind = flat_rows nodes (drop touched.behind seen) in
    ap (taken_out gap.from gap.to) (touched-rows w nodes gap a b seen touched is)
    ∙ taken-append gap.from gap.to front (middle ++ behind)
    ∙ ap (λ (r : List (Row L)). r ++ taken_out gap.from gap.to (middle ++ behind)) (taken-before gap.from gap.to front is.front)
    ∙ taken-append gap.from gap.to middle behind
    ∙ ap (λ (r : List (Row L)). taken_out gap.from gap.to middle ++ r) (taken-past gap.from gap.to behind is.behind.past)
    ∙ append-nil (taken_out gap.from gap.to middle)

-- what the middle needs
pub record MiddleReady {L : Type 0} (w : Widths L) (nodes : List (Shape L)) (gap : Gap) (new : List (Row L)) (below : ℕ) (middle : List Branch) : Type 0 where
  pub named : All (λ branch. branch.node.0 < below) middle
  pub node : IsWellFormed w nodes (Branches middle)
  pub well_formed : IsWellFormedRows w (exchanged gap new (flat_rows nodes middle))

pub middle-ready : {L : Type 0} (w : Widths L) (nodes : List (Shape L)) (gap : Gap) (new : List (Row L)) (below : ℕ) (a b : List ℕ) (seen : List Branch) (touched : Touched) → TouchedAt w nodes gap new a b seen touched → All (λ branch. branch.node.0 < below) seen → MiddleReady w nodes gap new below touched.branches.items
middle-ready {L} w nodes gap new below a b seen touched at named =
    let front = flat_rows nodes (take touched.front seen) in
    let middle = exchanged gap new (flat_rows nodes touched.branches.items) in
    let behind = shifted gap.to gap.onto (flat_rows nodes (drop touched.behind seen)) in
    let whole = subst (IsWellFormedRows w) (touched-exchanged w nodes gap new a b seen touched at.up_to at.is) at.well_formed in
    let short : touched.front < length (take touched.behind seen) = omega (arith, at.is.behind.some, length-take-le touched.behind seen at.is.behind.short) in
    let some : take touched.behind seen ≢ [] = λ e. absurd (omega (arith, short, ap length e)) in
    record {
      named = subst (All (λ b. b.node.0 < below)) (sym at.is.middle) (All-drop (λ b. b.node.0 < below) touched.front (take touched.behind seen) (All-take (λ b. b.node.0 < below) touched.behind seen named));
      node = subst (λ (bs : List Branch). IsWellFormed w nodes (Branches bs)) (sym at.is.middle) (well_formed-drop w nodes touched.front (take touched.behind seen) short (well_formed-take w nodes touched.behind seen some at.node));
      well_formed = well_formed_rows-front w middle behind (well_formed_rows-back w front (middle ++ behind) whole);
    }

-- what came of the middle stands between the others
pub middle-made : {L : Type 0} (w : Widths L) (old new : List (Shape L)) (gap : Gap) (rows : List (Row L)) (a b : List ℕ) (seen : List Branch) (touched made : Touched) → TouchedAt w old gap rows a b seen touched → Grows old new
    → LevelRows w old new touched.branches.items (exchanged gap rows (flat_rows old touched.branches.items)) made.branches.items → made.front ≡ touched.front → made.rest.items ≡ touched.rest.items
    → LevelRows w old new seen (exchanged gap rows (flat_rows old seen)) (with_middle a b seen made)
middle-made {L} w old new gap rows a b seen touched made at grows have front_is rest_is height level =
    let H : Branch → Type 0 = λ b. height_of w old b.node.0 ≡ height in
    let parts = node-parts w old seen at.node in
    let f = touched.front in
    let h = touched.behind in
    let rest = branches_at a b touched.rest.items in
    let moved = shifted gap.to gap.onto (flat_rows old (drop h seen)) in
    let front : BranchesHaveRows w old height (flat_rows old (take f seen)) (take f seen) = record { parts = All-take (IsWellFormedPart w old) f seen parts; rows_are = refl; level = All-take H f seen level } in
    let behind : BranchesHaveRows w old height moved rest = at.is.behind.rest.rows height (All-drop H h seen level) in
    let middle = have height (subst (All H) (sym at.is.middle) (All-drop H f (take h seen) (All-take H h seen level))) in
    let all = branches-append w new height (flat_rows old (take f seen)) (exchanged gap rows (flat_rows old touched.branches.items) ++ moved) (take f seen) (made.branches.items ++ rest)
    (branches-grown w old new height (flat_rows old (take f seen)) (take f seen) grows front)
    (branches-append w new height (exchanged gap rows (flat_rows old touched.branches.items)) moved made.branches.items rest middle (branches-grown w old new height moved rest grows behind)) in
    subst (λ (n : ℕ). BranchesHaveRows w new height (exchanged gap rows (flat_rows old seen)) (take n seen ++ (made.branches.items ++ branches_at a b made.rest.items))) (sym front_is)
    (subst (λ (bs : List Branch). BranchesHaveRows w new height (exchanged gap rows (flat_rows old seen)) (take f seen ++ (made.branches.items ++ branches_at a b bs))) (sym rest_is)
    (subst (λ (r : List (Row L)). BranchesHaveRows w new height r (take f seen ++ (made.branches.items ++ rest))) (sym (touched-exchanged w old gap rows a b seen touched at.up_to at.is)) all))

-- ---- what is touched, as the code finds it

-- the children of an inner node are well formed, from its own origin and from where it stands
pub well_formed-under : {L : Type 0} (w : Widths L) (nodes : List (Shape L)) (k : ℕ) → AreWellFormed w nodes → k < length nodes → node_at nodes k ≡ Branches (branches_under (node_at nodes k)) → IsWellFormed w nodes (Branches (branches_under (node_at nodes k)))
well_formed-under w nodes k well_formed lt is = subst (IsWellFormed w nodes) is (well_formed-now w nodes k well_formed lt)

pub opened-under : {L : Type 0} (w : Widths L) (nodes : List (Shape L)) (k : ℕ) (a b : List ℕ) → AreWellFormed w nodes → IsWellFormedAt w nodes k a b → node_at nodes k ≡ Branches (branches_under (node_at nodes k)) → IsOpened w nodes k a b (Branches (branches_at a b (branches_under (node_at nodes k))))
opened-under w nodes k a b well_formed at is = inner-opened w nodes k a b (branches_under (node_at nodes k)) (branches_at a b (branches_under (node_at nodes k))) well_formed at is refl

pub all-within : (P : Branch → Type 0) (branches up_to within : List Branch) (front behind : ℕ) → up_to ≡ take behind branches → within ≡ drop front up_to → All P branches → All P within
all-within P branches up_to within front behind up_to_is within_is h = subst (All P) (sym (within_is ∙ ap (drop front) up_to_is)) (All-drop P front (take behind branches) (All-take P behind branches h))

-- the branches behind the last that has a row before a coordinate stand past it
pub past-behind : {L : Type 0} (w : Widths L) (nodes : List (Shape L)) (at base seen : List ℕ) (branches rest : List Branch) (front k more n : ℕ) → IsWellFormed w nodes (Branches branches) → IsSeenFrom at base seen → rest ≡ drop front branches → n ≡ front + k + 1 + more
    → NoneBefore seen (flat_rows nodes (drop (k + 1) rest)) → StandPast nodes at base (drop n branches)
past-behind {L} w nodes at base seen branches rest front k more n well_formed s rest_is n_is past =
    let here : drop more (drop (k + 1) rest) ≡ drop n branches =
    ap (λ (bs : List Branch). drop more (drop (k + 1) bs)) rest_is ∙ ap (drop more) (drop-drop (k + 1) front branches) ∙ drop-drop more (front + (k + 1)) branches ∙ ap (λ (m : ℕ). drop m branches) (omega (arith, n_is)) in
    let behind = All-back (λ (r : Row L). comes_before r.first seen ≡ false) (flat_rows nodes (take more (drop (k + 1) rest))) (flat_rows nodes (drop more (drop (k + 1) rest)))
    (subst (NoneBefore seen) (flat-split nodes more (drop (k + 1) rest)) past) in
    let there = subst (λ (bs : List Branch). NoneBefore seen (flat_rows nodes bs)) here behind in
    seen-past at base seen (flat_rows nodes (drop n branches)) s (parts-end w nodes (drop n branches) (All-drop (IsWellFormedPart w nodes) n branches (node-parts w nodes branches well_formed))) there

pub is-touched : {L : Type 0} (w : Widths L) (nodes : List (Shape L)) (gap : Gap) (a b : List ℕ) (branches up_to within : List Branch) (front behind : ℕ) (made rest : ListView Branch) → StandBefore nodes gap.from a (take front branches) → IsBehind w nodes gap a b (branches_at a b branches) front behind rest.items
    → up_to ≡ take behind branches → within ≡ drop front up_to → made.items ≡ map (branch_at a b) within → IsTouched w nodes gap a b (branches_at a b branches) (record { front = front; behind = behind; branches = made; rest = rest })
is-touched w nodes gap a b branches up_to within front behind made rest before past up_to_is within_is is = record {
  behind = past;
  middle = is ∙ ap (map (branch_at a b)) (within_is ∙ ap (drop front) up_to_is) ∙ sym (drop-map (branch_at a b) front (take behind branches)) ∙ ap (drop front) (sym (take-map (branch_at a b) behind branches));
  front = before-there nodes gap.from a b front branches before;
}

-- ---- branches that do not end in zero

pub ends-both : {L : Type 0} (w : Widths L) (nodes : List (Shape L)) (branches : List Branch) → IsWellFormed w nodes (Branches branches) → All EndsBoth branches
ends-both w nodes branches well_formed =
    All-weaker (IsWellFormedPart w nodes) EndsBoth (λ b p. record { first = (All-head IsTumbler b.first _ p.first_origins).ends; second = (All-head IsTumbler b.second _ p.second_origins).ends }) branches (node-parts w nodes branches well_formed)
