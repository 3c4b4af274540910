-- Children behind a gap, moved as their node sees them: their rows stand where the gap moves them.
use Rattle.std.proofs.Common.{◌≡◌, ℕ, ◌+◌, ◌<◌, ◌≤◌, List, [], ◌∷◌, ◌++◌, length, get_or, take, drop, map, refl, ap, ◌∙◌, sym, subst, append_assoc}
use Rattle.std.specs.List.{All}
use Rattle.std.proofs.lemmas.List.{map-append, take_more, take_all}
use Rattle.std.proofs.lemmas.List.Elements.{All-head, All-tail, All-nil, All-cons, All-append}
use Rattle.tumbler.specs.Places.{IsTumbler, IsUpTo, EndsWell, comes_before, sum, difference}
use Rattle.tumbler.specs.Reach.{IsCovered}
use Rattle.tumbler.proofs.Alls.{All-one, All-front, All-back}
use Rattle.tumbler.proofs.Sums.{sums_associate}
use Rattle.tumbler.proofs.SumOrder.{sums_up_to, EndsWell-difference}
use Rattle.tumbler.proofs.Differences.{sum-difference, difference_undoes_sum}
use Rattle.enfilade_core.specs.declared.tree.Row.{Row}
use Rattle.enfilade_core.specs.declared.tree.Branch.{Branch}
use Rattle.enfilade_core.specs.declared.summary.Summary.{Summary}
use Rattle.enfilade_core.specs.declared.gap.Gap.{Gap}
use Rattle.enfilade_core.specs.Rows.{Shape, branch_rows, rows_table}
use Rattle.enfilade_core.specs.Axes.{Widths, WidthsStay, IsWellFormedRow}
use Rattle.enfilade_core.specs.WellFormed.{AreWellFormed, IsWellFormedPart}
use Rattle.enfilade_core.specs.Summary.{summary_of, kept, height_of}
use Rattle.enfilade_core.specs.Edits.{shift_row, shifted}
use Rattle.enfilade_core.specs.Exchange.{branch_at, BranchHasRows, BranchesHaveRows, LevelRows}
use Rattle.enfilade_core.specs.Touched.{branches_at, EndsBoth, FitsFrom, seen_moved, MayMoveSeen, MovesSeen, IsRest}
use Rattle.enfilade_core.proofs.BesideRows.{whole-moved}
use Rattle.enfilade_core.proofs.ExchangeLists.{NoneBefore}
use Rattle.enfilade_core.proofs.ExchangeGrown.{flat_rows, AreLevel}
use Rattle.enfilade_core.proofs.SeenPlaces.{shift-still}

-- ---- a displacement

-- what leads from one displacement to another leads from the one coordinate to the other
pub difference-seen : (a d t : List ℕ) → EndsWell d → IsUpTo t d → difference (sum a d) (sum a t) ≡ difference d t
difference-seen a d t ends le =
    let ahead = difference d t in
    ap (λ (x : List ℕ). difference x (sum a t)) (sym (sums_associate a t ahead ∙ ap (sum a) (sum-difference t d le)))
    ∙ difference_undoes_sum (sum a t) ahead (EndsWell-difference d t ends le)

-- ---- a branch

pub seen-moves : {L : Type 0} (w : Widths L) → WidthsStay w → (nodes : List (Shape L)) → AreWellFormed w nodes → (a b t u : List ℕ) (branch : Branch) (seen there : List ℕ) (s : Summary) → s ≡ kept (summary_of w nodes branch.node.0) → MayMoveSeen w nodes a b t u branch
    → IsUpTo t branch.first → seen ≡ sum u (difference branch.first t) → there ≡ sum a seen → IsTumbler seen → IsTumbler there → IsCovered there s.last → MovesSeen w nodes a b t u branch
seen-moves {L} w stay nodes well_formed a b t u branch seen there s is may le value at ts tt covered =
    let same : there ≡ sum a (sum u (difference branch.first t)) = at ∙ ap (sum a) value in
    let moved_to : there ≡ sum (sum a u) (difference (sum a branch.first) (sum a t)) =
    same ∙ sym (sums_associate a u (difference branch.first t)) ∙ ap (sum (sum a u)) (sym (difference-seen a branch.first t may.ends.first le)) in
    let rows = shifted (sum a t) (sum a u) (branch_rows (rows_table nodes) (branch_at a b branch)) in
    let whole = whole-moved w stay nodes well_formed (branch_at a b branch) there (sum a t) (sum a u) s is may.part (sums_up_to a t branch.first may.ends.first le) moved_to tt covered may.rows in
    record {
      rows = subst (λ (x : List ℕ). BranchHasRows w nodes (height_of w nodes branch.node.0) rows (record branch { first = x; second = sum b branch.second })) same whole;
      fits = record {
        ends = record { first = subst EndsWell value ts.ends; second = may.ends.second };
        first = subst IsTumbler same tt;
        second = All-head IsTumbler (sum b branch.second) _ may.part.second_origins;
      };
    }

-- ---- branches one after another

pub seen-next : (t u : List ℕ) (branches : List Branch) (i : ℕ) (branch moved : Branch) (before made next : List Branch) → i < length branches → branch ≡ get_or branches i branch
    → made ≡ before ++ map (seen_moved t u) (take i branches) → moved ≡ seen_moved t u branch → next ≡ made ++ moved ∷ [] → next ≡ before ++ map (seen_moved t u) (take (i + 1) branches)
seen-next t u branches i branch moved before made next lt is so value e =
    let f = seen_moved t u in
    e ∙ ap (λ (b : Branch). made ++ b ∷ []) value ∙ ap (λ (bs : List Branch). bs ++ f branch ∷ []) so
    ∙ append_assoc before (map f (take i branches)) (f branch ∷ [])
    ∙ ap (λ (bs : List Branch). before ++ bs) (sym (ap (map f) (take_more branches i branch lt ∙ ap (λ (b : Branch). take i branches ++ b ∷ []) (sym is)) ∙ map-append f (take i branches) (branch ∷ [])))

pub all-next : (P : Branch → Type 0) (branches : List Branch) (i : ℕ) (branch : Branch) → i < length branches → branch ≡ get_or branches i branch → All P (take i branches) → P branch → All P (take (i + 1) branches)
all-next P branches i branch lt is h p =
    subst (All P) (sym (take_more branches i branch lt ∙ ap (λ (b : Branch). take i branches ++ b ∷ []) (sym is))) (All-append P (take i branches) (branch ∷ []) h (All-one P branch p))

pub seen-end : (t u : List ℕ) (branches : List Branch) (i : ℕ) (before made : List Branch) → length branches ≤ i → made ≡ before ++ map (seen_moved t u) (take i branches) → made ≡ before ++ map (seen_moved t u) branches
seen-end t u branches i before made le is = is ∙ ap (λ (bs : List Branch). before ++ map (seen_moved t u) bs) (take_all i branches le)

pub all-end : (P : Branch → Type 0) (branches : List Branch) (i : ℕ) → length branches ≤ i → All P (take i branches) → All P branches
all-end P branches i le h = subst (All P) (take_all i branches le) h

-- ---- branches that move so, all at one height

pub seen-level : {L : Type 0} (w : Widths L) (nodes : List (Shape L)) (height : ℕ) (a b t u : List ℕ) (branches : List Branch) → AreLevel w nodes height branches → All (MovesSeen w nodes a b t u) branches
    → BranchesHaveRows w nodes height (shifted (sum a t) (sum a u) (flat_rows nodes (branches_at a b branches))) (branches_at a b (map (seen_moved t u) branches))
seen-level w nodes height a b t u [] level h = record { parts = All-nil (IsWellFormedPart w nodes); rows_are = refl; level = All-nil (λ b. height_of w nodes b.node.0 ≡ height) }
seen-level {L} w nodes height a b t u (branch ∷ branches) level h =
    let M = MovesSeen w nodes a b t u in
    let H : Branch → Type 0 = λ b. height_of w nodes b.node.0 ≡ height in
    let one = All-head M branch branches h in
    let rest = seen-level w nodes height a b t u branches (All-tail H branch branches level) (All-tail M branch branches h) in
    let f = seen_moved t u in
    record {
      parts = All-cons (IsWellFormedPart w nodes) (branch_at a b (f branch)) (branches_at a b (map f branches)) one.rows.part rest.parts;
      rows_are = ap (λ (r : List (Row L)). r ++ flat_rows nodes (branches_at a b (map f branches))) one.rows.rows_are
          ∙ ap (λ (r : List (Row L)). shifted (sum a t) (sum a u) (branch_rows (rows_table nodes) (branch_at a b branch)) ++ r) rest.rows_are
          ∙ sym (map-append (shift_row (sum a t) (sum a u)) (branch_rows (rows_table nodes) (branch_at a b branch)) (flat_rows nodes (branches_at a b branches)));
      level = All-cons H (branch_at a b (f branch)) (branches_at a b (map f branches)) (All-head H branch branches level) rest.level;
    }

unlevel : {L : Type 0} (w : Widths L) (nodes : List (Shape L)) (height : ℕ) (a b : List ℕ) (branches : List Branch) → AreLevel w nodes height (branches_at a b branches) → AreLevel w nodes height branches
unlevel w nodes height a b [] h = All-nil (λ b. height_of w nodes b.node.0 ≡ height)
unlevel w nodes height a b (branch ∷ branches) h =
    let H : Branch → Type 0 = λ b. height_of w nodes b.node.0 ≡ height in
    All-cons H branch branches (All-head H (branch_at a b branch) (branches_at a b branches) h) (unlevel w nodes height a b branches (All-tail H (branch_at a b branch) (branches_at a b branches) h))

fits-all : {L : Type 0} (w : Widths L) (nodes : List (Shape L)) (a b t u : List ℕ) (branches : List Branch) → All (MovesSeen w nodes a b t u) branches → All (FitsFrom a b) (map (seen_moved t u) branches)
fits-all w nodes a b t u [] h = All-nil (FitsFrom a b)
fits-all w nodes a b t u (branch ∷ branches) h =
    let M = MovesSeen w nodes a b t u in
    All-cons (FitsFrom a b) (seen_moved t u branch) (map (seen_moved t u) branches) (All-head M branch branches h).fits (fits-all w nodes a b t u branches (All-tail M branch branches h))

-- what has to be given of each
pub may-move : {L : Type 0} (w : Widths L) (nodes : List (Shape L)) (a b t u : List ℕ) (branches : List Branch) → All (IsWellFormedPart w nodes) (branches_at a b branches) → All EndsBoth branches → All (IsWellFormedRow w) (shifted (sum a t) (sum a u) (flat_rows nodes (branches_at a b branches)))
    → All (MayMoveSeen w nodes a b t u) branches
may-move w nodes a b t u [] parts ends rows = All-nil (MayMoveSeen w nodes a b t u)
may-move {L} w nodes a b t u (branch ∷ branches) parts ends rows =
    let f = shift_row (sum a t) (sum a u) in
    let own = branch_rows (rows_table nodes) (branch_at a b branch) in
    let others = flat_rows nodes (branches_at a b branches) in
    let both = subst (All (IsWellFormedRow w)) (map-append f own others) rows in
    All-cons (MayMoveSeen w nodes a b t u) branch branches
    record { part = All-head (IsWellFormedPart w nodes) (branch_at a b branch) (branches_at a b branches) parts; ends = All-head EndsBoth branch branches ends; rows = All-front (IsWellFormedRow w) (map f own) (map f others) both }
    (may-move w nodes a b t u branches (All-tail (IsWellFormedPart w nodes) (branch_at a b branch) (branches_at a b branches) parts) (All-tail EndsBoth branch branches ends) (All-back (IsWellFormedRow w) (map f own) (map f others) both))

-- ---- what comes of branches behind a gap

-- where the node's origin is up to the gap's end before and after
pub rest-moved : {L : Type 0} (w : Widths L) (nodes : List (Shape L)) (gap : Gap) (a b t u : List ℕ) (branches start rest : List Branch) → t ≡ difference gap.to a → u ≡ difference gap.onto a → IsUpTo a gap.to → IsUpTo a gap.onto
    → start ≡ [] → rest ≡ start ++ map (seen_moved t u) branches → All (MovesSeen w nodes a b t u) branches → IsRest w nodes gap a b (branches_at a b branches) rest
rest-moved {L} w nodes gap a b t u branches start rest t_is u_is to_le onto_le none is moves =
    let seen = flat_rows nodes (branches_at a b branches) in
    let to_is : sum a t ≡ gap.to = ap (sum a) t_is ∙ sum-difference a gap.to to_le in
    let onto_is : sum a u ≡ gap.onto = ap (sum a) u_is ∙ sum-difference a gap.onto onto_le in
    let value : rest ≡ map (seen_moved t u) branches = is ∙ ap (λ (bs : List Branch). bs ++ map (seen_moved t u) branches) none in
    let rows_are : shifted (sum a t) (sum a u) seen ≡ shifted gap.to gap.onto seen = ap (λ (x : List ℕ). shifted x (sum a u) seen) to_is ∙ ap (λ (x : List ℕ). shifted gap.to x seen) onto_is in
    record {
      rows = λ height level. subst (λ (bs : List Branch). BranchesHaveRows w nodes height (shifted gap.to gap.onto seen) (branches_at a b bs)) (sym value)
          (subst (λ (r : List (Row L)). BranchesHaveRows w nodes height r (branches_at a b (map (seen_moved t u) branches))) rows_are
          (seen-level w nodes height a b t u branches (unlevel w nodes height a b branches level) moves));
      fits = subst (All (FitsFrom a b)) (sym value) (fits-all w nodes a b t u branches moves);
    }

-- the premise of each, where the ends are seen so
pub may-move_gap : {L : Type 0} (w : Widths L) (nodes : List (Shape L)) (gap : Gap) (a b t u : List ℕ) (branches : List Branch) → t ≡ difference gap.to a → u ≡ difference gap.onto a → IsUpTo a gap.to → IsUpTo a gap.onto
    → All (IsWellFormedPart w nodes) (branches_at a b branches) → All EndsBoth branches → All (IsWellFormedRow w) (shifted gap.to gap.onto (flat_rows nodes (branches_at a b branches))) → All (MayMoveSeen w nodes a b t u) branches
may-move_gap {L} w nodes gap a b t u branches t_is u_is to_le onto_le parts ends rows =
    let seen = flat_rows nodes (branches_at a b branches) in
    let to_is : gap.to ≡ sum a t = sym (ap (sum a) t_is ∙ sum-difference a gap.to to_le) in
    let onto_is : gap.onto ≡ sum a u = sym (ap (sum a) u_is ∙ sum-difference a gap.onto onto_le) in
    may-move w nodes a b t u branches parts ends
    (subst (λ (x : List ℕ). All (IsWellFormedRow w) (shifted x (sum a u) seen)) to_is (subst (λ (x : List ℕ). All (IsWellFormedRow w) (shifted gap.to x seen)) onto_is rows))

-- what fits at its place, and does not end in zero
fits-still : {L : Type 0} (w : Widths L) (nodes : List (Shape L)) (a b : List ℕ) (branches : List Branch) → All (IsWellFormedPart w nodes) (branches_at a b branches) → All EndsBoth branches → All (FitsFrom a b) branches
fits-still w nodes a b [] parts ends = All-nil (FitsFrom a b)
fits-still w nodes a b (branch ∷ branches) parts ends =
    let part = All-head (IsWellFormedPart w nodes) (branch_at a b branch) (branches_at a b branches) parts in
    All-cons (FitsFrom a b) branch branches
    record { ends = All-head EndsBoth branch branches ends; first = All-head IsTumbler (sum a branch.first) _ part.first_origins; second = All-head IsTumbler (sum b branch.second) _ part.second_origins }
    (fits-still w nodes a b branches (All-tail (IsWellFormedPart w nodes) (branch_at a b branch) (branches_at a b branches) parts) (All-tail EndsBoth branch branches ends))

-- behind a gap that moves nothing
pub rest-still : {L : Type 0} (w : Widths L) (nodes : List (Shape L)) (gap : Gap) (a b : List ℕ) (branches start rest : List Branch) → gap.to ≡ gap.onto → start ≡ [] → rest ≡ start ++ branches → All (IsWellFormedPart w nodes) (branches_at a b branches) → All EndsBoth branches
    → NoneBefore gap.to (flat_rows nodes (branches_at a b branches)) → IsRest w nodes gap a b (branches_at a b branches) rest
rest-still {L} w nodes gap a b branches start rest same none is parts ends past =
    let seen = flat_rows nodes (branches_at a b branches) in
    let value : rest ≡ branches = is ∙ ap (λ (bs : List Branch). bs ++ branches) none in
    let stay : seen ≡ shifted gap.to gap.onto seen = sym (subst (λ (x : List ℕ). shifted gap.to x seen ≡ seen) same (shift-still gap.to seen past)) in
    record {
      rows = λ height level. subst (λ (bs : List Branch). BranchesHaveRows w nodes height (shifted gap.to gap.onto seen) (branches_at a b bs)) (sym value) record { parts = parts; rows_are = stay; level = level };
      fits = subst (All (FitsFrom a b)) (sym value) (fits-still w nodes a b branches parts ends);
    }

-- where none is left behind
pub rest-none : {L : Type 0} (w : Widths L) (nodes : List (Shape L)) (gap : Gap) (a b : List ℕ) (seen rest : List Branch) → seen ≡ [] → rest ≡ [] → IsRest w nodes gap a b seen rest
rest-none {L} w nodes gap a b seen rest none empty =
    subst (λ (bs : List Branch). IsRest w nodes gap a b bs rest) (sym none) (subst (IsRest w nodes gap a b []) (sym empty)
    record {
      rows = λ height level. record { parts = All-nil (IsWellFormedPart w nodes); rows_are = refl; level = All-nil (λ b. height_of w nodes b.node.0 ≡ height) };
      fits = All-nil (FitsFrom a b);
    })
