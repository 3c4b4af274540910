-- An exchange in a branch as a whole, and in the children of a node.
use Rattle.std.proofs.Common.{◌≡◌, ◌≢◌, ℕ, ◌+◌, Bool, true, false, eqb, List, [], ◌∷◌, ◌++◌, length, map, fold, refl, arith, ap, ◌∙◌, sym, subst, append-nil}
use Rattle.std.specs.List.{All}
use Rattle.std.proofs.lemmas.List.Elements.{All-head, All-tail, All-nil}
use Rattle.std.proofs.lemmas.Bool.{ne_eqb}
use Rattle.tumbler.specs.Places.{IsUpTo, IsTumbler}
use Rattle.enfilade_core.specs.declared.tree.Row.{Row}
use Rattle.enfilade_core.specs.declared.tree.Branch.{Branch}
use Rattle.enfilade_core.specs.declared.summary.Summary.{Summary}
use Rattle.enfilade_core.specs.declared.gap.Gap.{Gap}
use Rattle.enfilade_core.specs.Rows.{Shape, Rows, Branches, moved, branch_rows, rows_in, rows_table, rows_of}
use Rattle.enfilade_core.specs.Axes.{Widths, InOrder, IsWellFormedRow, IsWellFormedRows}
use Rattle.enfilade_core.specs.WellFormed.{IsWellFormedPart}
use Rattle.enfilade_core.specs.Summary.{branch_summary, summaries, summary_joined, no_summary, height_of}
use Rattle.enfilade_core.specs.Edits.{taken_out, shifted}
use Rattle.enfilade_core.specs.Exchange.{exchanged, height_in, IsOpened, IsPacked, HasRows, BranchHasRows, BranchesHaveRows, LevelRows, MayHaveChildren}
use Rattle.enfilade_core.proofs.Heights.{rows_height}
use Rattle.enfilade_core.proofs.PackedBranches.{well_formed-if_parts}
use Rattle.enfilade_core.proofs.ExchangeLists.{AllBefore, NoneBefore, AllWithin, exchanged-before, exchanged-past, exchanged-within}
use Rattle.enfilade_core.proofs.ExchangeGrown.{flat_rows, AreLevel}

-- ---- a branch whose rows all stand on one side of the gap, with no new rows

with_none : {L : Type 0} (gap : Gap) (none rows value : List (Row L)) → none ≡ [] → exchanged gap [] rows ≡ value → exchanged gap none rows ≡ value
with_none {L} gap none rows value empty e = ap (λ (r : List (Row L)). exchanged gap r rows) empty ∙ e

pub whole-before : {L : Type 0} (w : Widths L) (nodes : List (Shape L)) (gap : Gap) (none : List (Row L)) (branch copy : Branch) → none ≡ [] → IsUpTo gap.from gap.to → IsWellFormedPart w nodes branch → AllBefore gap.from (branch_rows (rows_table nodes) branch) → copy ≡ branch
    → BranchHasRows w nodes (height_of w nodes branch.node.0) (exchanged gap none (branch_rows (rows_table nodes) branch)) copy
whole-before w nodes gap none branch copy empty le part before is =
    subst (BranchHasRows w nodes (height_of w nodes branch.node.0) (exchanged gap none (branch_rows (rows_table nodes) branch))) (sym is)
    record { part = part; rows_are = sym (with_none gap none (branch_rows (rows_table nodes) branch) (branch_rows (rows_table nodes) branch) empty (exchanged-before gap (branch_rows (rows_table nodes) branch) le before)); level = refl }

pub none-taken : {L : Type 0} (gap : Gap) (rows out : List (Row L)) → taken_out gap.from gap.to rows ≡ [] → out ≡ out ++ taken_out gap.from gap.to rows
none-taken {L} gap rows out e = sym (append-nil out) ∙ ap (λ (r : List (Row L)). out ++ r) (sym e)

pub whole-within : {L : Type 0} (gap : Gap) (none rows : List (Row L)) → none ≡ [] → AllWithin gap rows → exchanged gap none rows ≡ []
whole-within gap none rows empty within = with_none gap none rows [] empty (exchanged-within gap rows within)

pub whole-past : {L : Type 0} (w : Widths L) (nodes : List (Shape L)) (height : ℕ) (gap : Gap) (none rows : List (Row L)) (made : Branch) → none ≡ [] → IsUpTo gap.from gap.to → NoneBefore gap.to rows → BranchHasRows w nodes height (shifted gap.to gap.onto rows) made
    → BranchHasRows w nodes height (exchanged gap none rows) made
whole-past {L} w nodes height gap none rows made empty le past h =
    subst (λ (r : List (Row L)). BranchHasRows w nodes height r made) (sym (with_none gap none rows (shifted gap.to gap.onto rows) empty (exchanged-past gap rows le past))) h

pub past-well_formed : {L : Type 0} (w : Widths L) (gap : Gap) (none rows : List (Row L)) → none ≡ [] → IsUpTo gap.from gap.to → NoneBefore gap.to rows → IsWellFormedRows w (exchanged gap none rows) → All (IsWellFormedRow w) (shifted gap.to gap.onto rows)
past-well_formed w gap none rows empty le past h = subst (All (IsWellFormedRow w)) (with_none gap none rows (shifted gap.to gap.onto rows) empty (exchanged-past gap rows le past)) h.each

-- ---- rows that may be none

never_none : {A : Type 0} (xs : List A) → xs ≢ [] → eqb (length xs) 0 ≡ false
never_none [] n = absurd (n refl)
never_none (x ∷ xs) n = ne_eqb (length (x ∷ xs)) 0 (λ z. absurd (omega arith))

none_mapped : {A B : Type 0} (f : A → B) (xs : List A) → eqb (length xs) 0 ≡ true → map f xs ≡ []
none_mapped f [] q = refl
none_mapped f (x ∷ xs) q = absurd (let r = never_none (x ∷ xs) (λ e. cc) in cc)

pub mapped-none : {A B : Type 0} (f : A → B) (xs : List A) (b : Bool) → b ≡ eqb (length xs) 0 → b ≡ true → map f xs ≡ []
mapped-none f xs b e t = none_mapped f xs (sym e ∙ t)

pub packed-has : {L : Type 0} (w : Widths L) (old new : List (Shape L)) (height : ℕ) (rows : List (Row L)) (node : Shape L) (branch : Branch) → HasRows w old height rows node → IsPacked w old new node branch → BranchHasRows w new height rows branch
packed-has w old new height rows node branch h p = record { part = p.part; rows_are = p.rows ∙ h.rows_are; level = p.level ∙ h.level }

-- ---- a bottom node

pub bottom-exchanged : {L : Type 0} (w : Widths L) (nodes : List (Shape L)) (k : ℕ) (a b : List ℕ) (gap : Gap) (new old made : List (Row L)) → IsOpened w nodes k a b (Rows old) → IsWellFormedRows w (exchanged gap new (map (moved a b) (rows_of nodes k))) → made ≡ exchanged gap new old
    → HasRows w nodes (height_of w nodes k) (exchanged gap new (map (moved a b) (rows_of nodes k))) (Rows made)
bottom-exchanged {L} w nodes k a b gap new old made opened well_formed is =
    let value : made ≡ exchanged gap new (map (moved a b) (rows_of nodes k)) = is ∙ ap (exchanged gap new) opened.rows in
    record {
      well_formed = record {
        branches = tt;
        first_origins = All-nil IsTumbler;
        second_origins = All-nil IsTumbler;
        rows = subst (All (IsWellFormedRow w)) (sym value) well_formed.each;
        ordered = subst InOrder (sym value) well_formed.ordered;
      };
      rows_are = value;
      level = rows_height w made no_summary refl ∙ sym (rows_height w old no_summary refl) ∙ opened.level;
    }

-- ---- an inner node

joined_height : (told : List Summary) (height : ℕ) (branches : List Branch) (s : Summary) → s.height ≡ height → All (λ b. (branch_summary told b).height ≡ height) branches → (fold summary_joined s (map (branch_summary told) branches)).height ≡ height
joined_height told height [] s e h = e
joined_height told height (branch ∷ branches) s e h =
    let H : Branch → Type 0 = λ b. (branch_summary told b).height ≡ height in
    joined_height told height branches (summary_joined s (branch_summary told branch)) (All-head H branch branches h) (All-tail H branch branches h)

-- a node is one level higher than its children
pub level-height : {L : Type 0} (w : Widths L) (nodes : List (Shape L)) (height : ℕ) (branches : List Branch) → branches ≢ [] → AreLevel w nodes height branches → height_in w nodes (Branches branches) ≡ height + 1
level-height w nodes height [] some level = absurd (some refl)
level-height w nodes height (branch ∷ branches) some level =
    let H : Branch → Type 0 = λ b. height_of w nodes b.node.0 ≡ height in
    ap (λ (n : ℕ). n + 1) (joined_height (summaries w nodes) height branches (summary_joined no_summary (branch_summary (summaries w nodes) branch)) (All-head H branch branches level) (All-tail H branch branches level))

branches-children : {L : Type 0} (w : Widths L) (nodes : List (Shape L)) (height : ℕ) (rows : List (Row L)) (branches : List Branch) → InOrder rows → BranchesHaveRows w nodes height rows branches → MayHaveChildren w nodes (height + 1) rows (Branches branches)
branches-children w nodes height rows [] ordered h = sym h.rows_are
branches-children w nodes height rows (branch ∷ branches) ordered h = record {
  well_formed = well_formed-if_parts w nodes (branch ∷ branches) height (λ q. cc) h.parts h.level (subst InOrder (sym h.rows_are) ordered);
  rows_are = h.rows_are;
  level = level-height w nodes height (branch ∷ branches) (λ q. cc) h.level;
}

pub inner-exchanged : {L : Type 0} (w : Widths L) (old new : List (Shape L)) (k : ℕ) (a b : List ℕ) (gap : Gap) (rows : List (Row L)) (branches made : List Branch) → IsOpened w old k a b (Branches branches) → IsWellFormedRows w (exchanged gap rows (map (moved a b) (rows_of old k)))
    → LevelRows w old new branches (exchanged gap rows (flat_rows old branches)) made → MayHaveChildren w new (height_of w old k) (exchanged gap rows (map (moved a b) (rows_of old k))) (Branches made)
inner-exchanged {L} w old new k a b gap rows branches made opened well_formed have =
    let height = opened.well_formed.branches.height in
    let value : exchanged gap rows (flat_rows old branches) ≡ exchanged gap rows (map (moved a b) (rows_of old k)) = ap (exchanged gap rows) opened.rows in
    let h = subst (λ (r : List (Row L)). BranchesHaveRows w new height r made) value (have height opened.well_formed.branches.level) in
    let level : height + 1 ≡ height_of w old k = sym (level-height w old height branches opened.well_formed.branches.some opened.well_formed.branches.level) ∙ opened.level in
    subst (λ (n : ℕ). MayHaveChildren w new n (exchanged gap rows (map (moved a b) (rows_of old k))) (Branches made)) level (branches-children w new height (exchanged gap rows (map (moved a b) (rows_of old k))) made well_formed.ordered h)

pub taken-opened : {L : Type 0} (w : Widths L) (nodes : List (Shape L)) (k : ℕ) (a b : List ℕ) (node : Shape L) (gap : Gap) (before after : List (Row L)) → IsOpened w nodes k a b node → after ≡ before ++ taken_out gap.from gap.to (rows_in (rows_table nodes) node) → after ≡ before ++ taken_out gap.from gap.to (map (moved a b) (rows_of nodes k))
taken-opened {L} w nodes k a b node gap before after opened e = e ∙ ap (λ (r : List (Row L)). before ++ taken_out gap.from gap.to r) opened.rows

pub well_formed-opened : {L : Type 0} (w : Widths L) (nodes : List (Shape L)) (k : ℕ) (a b : List ℕ) (node : Shape L) (gap : Gap) (new : List (Row L)) → IsOpened w nodes k a b node → IsWellFormedRows w (exchanged gap new (map (moved a b) (rows_of nodes k))) → IsWellFormedRows w (exchanged gap new (rows_in (rows_table nodes) node))
well_formed-opened {L} w nodes k a b node gap new opened h = subst (λ (r : List (Row L)). IsWellFormedRows w (exchanged gap new r)) (sym opened.rows) h
