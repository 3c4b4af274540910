-- Branches where nodes came in behind, and branches behind branches.
use Rattle.std.proofs.Common.{◌≡◌, ℕ, ◌+◌, ◌<◌, List, [], ◌∷◌, ◌++◌, length, take, drop, refl, ap, ◌∙◌, sym, subst, append_assoc, append-nil, Option, Some, None}
use Rattle.std.specs.List.{All, flat_map}
use Rattle.std.proofs.lemmas.List.Elements.{All-head, All-tail, All-nil, All-cons, All-weaker, All-append}
use Rattle.std.proofs.lemmas.Grind.{flat_map-append}
use Rattle.tumbler.proofs.Alls.{All-one}
use Rattle.enfilade_core.specs.declared.tree.Row.{Row}
use Rattle.enfilade_core.specs.declared.tree.Branch.{Branch}
use Rattle.enfilade_core.specs.Rows.{Shape, branch_rows, rows_table}
use Rattle.enfilade_core.specs.Axes.{Widths}
use Rattle.enfilade_core.specs.WellFormed.{IsWellFormedPart}
use Rattle.enfilade_core.specs.Summary.{height_of}
use Rattle.enfilade_core.specs.Exchange.{Grows, BranchesHaveRows, MayHaveRows, branches_if}
use Rattle.enfilade_core.proofs.Parts.{branch_rows-later, height-later, part-later}

pub grows-same : {L : Type 0} (nodes : List (Shape L)) → Grows nodes nodes
grows-same nodes = record { more = []; is = sym (append-nil nodes) }

pub grows-more : {L : Type 0} (old mid new : List (Shape L)) → Grows old mid → Grows mid new → Grows old new
grows-more {L} old mid new g h = record { more = g.more ++ h.more; is = h.is ∙ ap (λ (ns : List (Shape L)). ns ++ h.more) g.is ∙ append_assoc old g.more h.more }

-- ---- a branch

pub part-grown : {L : Type 0} (w : Widths L) (old new : List (Shape L)) (branch : Branch) → Grows old new → IsWellFormedPart w old branch → IsWellFormedPart w new branch
part-grown {L} w old new branch g p = subst (λ (ns : List (Shape L)). IsWellFormedPart w ns branch) (sym g.is) (part-later w old g.more branch p)

pub rows-grown : {L : Type 0} (old new : List (Shape L)) (branch : Branch) → Grows old new → branch.node.0 < length old → branch_rows (rows_table new) branch ≡ branch_rows (rows_table old) branch
rows-grown {L} old new branch g lt = ap (λ (ns : List (Shape L)). branch_rows (rows_table ns) branch) g.is ∙ branch_rows-later old g.more branch lt

pub height-grown : {L : Type 0} (w : Widths L) (old new : List (Shape L)) (k : ℕ) → Grows old new → k < length old → height_of w new k ≡ height_of w old k
height-grown {L} w old new k g lt = ap (λ (ns : List (Shape L)). height_of w ns k) g.is ∙ height-later w old g.more k lt

-- ---- branches

abbrev pub flat_rows : {L : Type 0} → List (Shape L) → List Branch → List (Row L)
flat_rows nodes branches = flat_map (branch_rows (rows_table nodes)) branches

abbrev pub AreLevel : {L : Type 0} → Widths L → List (Shape L) → ℕ → List Branch → Type 0
AreLevel w nodes height branches = All (λ branch. height_of w nodes branch.node.0 ≡ height) branches

pub parts-grown : {L : Type 0} (w : Widths L) (old new : List (Shape L)) (branches : List Branch) → Grows old new → All (IsWellFormedPart w old) branches → All (IsWellFormedPart w new) branches
parts-grown w old new branches g h = All-weaker (IsWellFormedPart w old) (IsWellFormedPart w new) (λ branch p. part-grown w old new branch g p) branches h

pub flat-grown : {L : Type 0} (w : Widths L) (old new : List (Shape L)) (branches : List Branch) → Grows old new → All (IsWellFormedPart w old) branches → flat_rows new branches ≡ flat_rows old branches
flat-grown w old new [] g h = refl
flat-grown {L} w old new (branch ∷ branches) g h =
    let P = IsWellFormedPart w old in
    ap (λ (r : List (Row L)). r ++ flat_rows new branches) (rows-grown old new branch g (All-head P branch branches h).branch.below)
    ∙ ap (λ (r : List (Row L)). branch_rows (rows_table old) branch ++ r) (flat-grown w old new branches g (All-tail P branch branches h))

pub level-grown : {L : Type 0} (w : Widths L) (old new : List (Shape L)) (height : ℕ) (branches : List Branch) → Grows old new → All (IsWellFormedPart w old) branches → AreLevel w old height branches → AreLevel w new height branches
level-grown w old new height [] g h level = All-nil (λ b. height_of w new b.node.0 ≡ height)
level-grown w old new height (branch ∷ branches) g h level =
    let P = IsWellFormedPart w old in
    let Q : Branch → Type 0 = λ b. height_of w old b.node.0 ≡ height in
    All-cons (λ b. height_of w new b.node.0 ≡ height) branch branches
    (height-grown w old new branch.node.0 g (All-head P branch branches h).branch.below ∙ All-head Q branch branches level)
    (level-grown w old new height branches g (All-tail P branch branches h) (All-tail Q branch branches level))

pub branches-grown : {L : Type 0} (w : Widths L) (old new : List (Shape L)) (height : ℕ) (rows : List (Row L)) (branches : List Branch) → Grows old new → BranchesHaveRows w old height rows branches → BranchesHaveRows w new height rows branches
branches-grown w old new height rows branches g h = record {
  parts = parts-grown w old new branches g h.parts;
  rows_are = flat-grown w old new branches g h.parts ∙ h.rows_are;
  level = level-grown w old new height branches g h.parts h.level;
}

pub branches-append : {L : Type 0} (w : Widths L) (nodes : List (Shape L)) (height : ℕ) (rows more : List (Row L)) (branches others : List Branch) → BranchesHaveRows w nodes height rows branches → BranchesHaveRows w nodes height more others → BranchesHaveRows w nodes height (rows ++ more) (branches ++ others)
branches-append {L} w nodes height rows more branches others h k = record {
  parts = All-append (IsWellFormedPart w nodes) branches others h.parts k.parts;
  rows_are = flat_map-append (branch_rows (rows_table nodes)) branches others ∙ ap (λ (r : List (Row L)). r ++ flat_rows nodes others) h.rows_are ∙ ap (λ (r : List (Row L)). rows ++ r) k.rows_are;
  level = All-append (λ b. height_of w nodes b.node.0 ≡ height) branches others h.level k.level;
}

pub branches-one : {L : Type 0} (w : Widths L) (nodes : List (Shape L)) (height : ℕ) (rows : List (Row L)) (made : Option Branch) → MayHaveRows w nodes height rows made → BranchesHaveRows w nodes height rows (branches_if made)
branches-one w nodes height rows (Some branch) h = record {
  parts = All-one (IsWellFormedPart w nodes) branch h.part;
  rows_are = append-nil (branch_rows (rows_table nodes) branch) ∙ h.rows_are;
  level = All-one (λ b. height_of w nodes b.node.0 ≡ height) branch h.level;
}
branches-one w nodes height rows None h = record {
  parts = All-nil (IsWellFormedPart w nodes);
  rows_are = sym h;
  level = All-nil (λ b. height_of w nodes b.node.0 ≡ height);
}

pub flat-around : {L : Type 0} (nodes : List (Shape L)) (branches : List Branch) (i : ℕ) (branch : Branch) → branches ≡ take i branches ++ branch ∷ drop (i + 1) branches
    → flat_rows nodes branches ≡ flat_rows nodes (take i branches) ++ (branch_rows (rows_table nodes) branch ++ flat_rows nodes (drop (i + 1) branches))
flat-around {L} nodes branches i branch e =
    ap (flat_rows nodes) e ∙ flat_map-append (branch_rows (rows_table nodes)) (take i branches) (branch ∷ drop (i + 1) branches)
