-- A bottom node that keeps its origin, with what stands in a gap exchanged.
use Rattle.std.proofs.Common.{◌≡◌, ◌≢◌, ℕ, Bool, true, false, eqb, List, [], ◌∷◌, ◌++◌, length, map, refl, ap, ◌∙◌, sym, subst}
use Rattle.std.specs.List.{All}
use Rattle.std.proofs.lemmas.List.Elements.{All-head}
use Rattle.tumbler.specs.Places.{IsTumbler}
use Rattle.enfilade_core.specs.declared.tree.Row.{Row}
use Rattle.enfilade_core.specs.declared.tree.Branch.{Branch}
use Rattle.enfilade_core.specs.declared.gap.Gap.{Gap}
use Rattle.enfilade_core.specs.Rows.{Shape, Rows, moved, branch_rows, rows_table, node_at, rows_under}
use Rattle.enfilade_core.specs.Axes.{Widths, WidthsStay, IsWellFormedRow, IsWellFormedRows}
use Rattle.enfilade_core.specs.Summary.{height_of}
use Rattle.enfilade_core.specs.Plain.{plain_row}
use Rattle.enfilade_core.specs.Edits.{taken_out}
use Rattle.enfilade_core.specs.Exchange.{exchanged, IsOpened, HasRows, BranchHasRows}
use Rattle.enfilade_core.specs.Packing.{back, MayStandAt, IsPlaced}
use Rattle.enfilade_core.specs.Touched.{KeepsOrigin}
use Rattle.enfilade_core.proofs.AroundMiddle.{map-none}
use Rattle.enfilade_core.proofs.PackedRows.{RowIsSeen, rows-may_stand, rows-packed}
use Rattle.enfilade_core.proofs.ExchangeNodes.{mapped-none, packed-has, taken-opened}
use Rattle.enfilade_core.proofs.ExchangeMiddle.{BottomAt, bottom-seen, bottom-well_formed, bottom-has, rows-under_well_formed}
use Rattle.enfilade_core.proofs.KeptRows.{kept-seen}

-- what is known of the rows that a bottom node gets
pub record KeptIn {L : Type 0} (plain : L → L) (w : Widths L) (nodes : List (Shape L)) (gap : Gap) (new : List (Row L)) (branch : Branch) (under made : List (Row L)) : Type 0 where
  pub at : BottomAt w nodes gap (map (plain_row plain) new) branch
  pub under_is : map (plain_row plain) under ≡ rows_under (node_at nodes branch.node.0)
  pub keeps : KeepsOrigin branch.first branch.second gap new
  pub is : map (plain_row plain) made ≡ map (back branch.first branch.second) (exchanged gap (map (plain_row plain) new) (map (moved branch.first branch.second) (map (plain_row plain) under)))

pub under-opened : {L : Type 0} (plain : L → L) (w : Widths L) (nodes : List (Shape L)) (gap : Gap) (new : List (Row L)) (branch : Branch) (under : List (Row L)) → BottomAt w nodes gap (map (plain_row plain) new) branch → map (plain_row plain) under ≡ rows_under (node_at nodes branch.node.0)
    → IsOpened w nodes branch.node.0 branch.first branch.second (Rows (map (moved branch.first branch.second) (map (plain_row plain) under)))
under-opened plain w nodes gap new branch under at is = bottom-seen w nodes gap (map (plain_row plain) new) branch (map (plain_row plain) under) (map (moved branch.first branch.second) (map (plain_row plain) under)) at is refl

pub under-there : {L : Type 0} (plain : L → L) (w : Widths L) (nodes : List (Shape L)) (gap : Gap) (new : List (Row L)) (branch : Branch) (under : List (Row L)) → BottomAt w nodes gap (map (plain_row plain) new) branch → map (plain_row plain) under ≡ rows_under (node_at nodes branch.node.0)
    → IsWellFormedRows w (map (moved branch.first branch.second) (map (plain_row plain) under))
under-there plain w nodes gap new branch under at is =
    let opened = under-opened plain w nodes gap new branch under at is in
    record { each = opened.well_formed.rows; ordered = opened.well_formed.ordered }

pub under-well_formed : {L : Type 0} (plain : L → L) (w : Widths L) (nodes : List (Shape L)) (gap : Gap) (new : List (Row L)) (branch : Branch) (under : List (Row L)) → BottomAt w nodes gap (map (plain_row plain) new) branch → map (plain_row plain) under ≡ rows_under (node_at nodes branch.node.0)
    → IsWellFormedRows w (exchanged gap (map (plain_row plain) new) (map (moved branch.first branch.second) (map (plain_row plain) under)))
under-well_formed plain w nodes gap new branch under at is =
    bottom-well_formed w nodes gap (map (plain_row plain) new) branch (map (moved branch.first branch.second) (map (plain_row plain) under)) at (under-opened plain w nodes gap new branch under at is)

-- the rows, where they stand
kept-has : {L : Type 0} (plain : L → L) (w : Widths L) (nodes : List (Shape L)) (gap : Gap) (new : List (Row L)) (branch : Branch) (under made : List (Row L)) → KeptIn plain w nodes gap new branch under made
    → HasRows w nodes (height_of w nodes branch.node.0) (exchanged gap (map (plain_row plain) new) (branch_rows (rows_table nodes) branch)) (Rows (exchanged gap (map (plain_row plain) new) (map (moved branch.first branch.second) (map (plain_row plain) under))))
kept-has plain w nodes gap new branch under made k =
    let there = map (moved branch.first branch.second) (map (plain_row plain) under) in
    bottom-has w nodes gap (map (plain_row plain) new) branch there (exchanged gap (map (plain_row plain) new) there) k.at (under-opened plain w nodes gap new branch under k.at k.under_is) refl

all-seen : {L : Type 0} (plain : L → L) (w : Widths L) (nodes : List (Shape L)) (gap : Gap) (new : List (Row L)) (branch : Branch) (under made : List (Row L)) → KeptIn plain w nodes gap new branch under made
    → All (RowIsSeen w branch.first branch.second) (exchanged gap (map (plain_row plain) new) (map (moved branch.first branch.second) (map (plain_row plain) under)))
all-seen plain w nodes gap new branch under made k =
    kept-seen plain w branch.first branch.second gap new (map (plain_row plain) under) k.keeps
    (subst (All (IsWellFormedRow w)) (sym k.under_is) (rows-under_well_formed w nodes branch.node.0 k.at.nodes_well_formed k.at.part.branch.below k.at.bottom).each)
    (under-there plain w nodes gap new branch under k.at k.under_is).each (under-well_formed plain w nodes gap new branch under k.at k.under_is).each

some-if_not : {A B : Type 0} (f : A → B) (xs : List A) → eqb (length xs) 0 ≡ false → map f xs ≢ []
some-if_not f [] e q = cc
some-if_not f (x ∷ xs) e q = cc

pub kept-may_stand : {L : Type 0} (plain : L → L) (w : Widths L) → WidthsStay w → (nodes : List (Shape L)) (gap : Gap) (new : List (Row L)) (branch : Branch) (under made : List (Row L)) (empty : Bool) → KeptIn plain w nodes gap new branch under made → empty ≡ eqb (length made) 0 → empty ≡ false
    → MayStandAt w nodes (Rows (map (plain_row plain) made)) branch.first branch.second
kept-may_stand plain w stay nodes gap new branch under made empty k e t =
    let all = exchanged gap (map (plain_row plain) new) (map (moved branch.first branch.second) (map (plain_row plain) under)) in
    rows-may_stand w stay nodes branch.first branch.second all (map (plain_row plain) made) (All-head IsTumbler branch.first _ k.at.part.first_origins) (All-head IsTumbler branch.second _ k.at.part.second_origins)
    (λ q. some-if_not (plain_row plain) made (sym e ∙ t) (k.is ∙ ap (map (back branch.first branch.second)) q)) (under-well_formed plain w nodes gap new branch under k.at k.under_is)
    (all-seen plain w nodes gap new branch under made k) k.is

pub kept-rows : {L : Type 0} (plain : L → L) (w : Widths L) (nodes now : List (Shape L)) (gap : Gap) (new : List (Row L)) (branch : Branch) (under made : List (Row L)) (a b : List ℕ) (packed : Branch) → KeptIn plain w nodes gap new branch under made → a ≡ branch.first → b ≡ branch.second
    → IsPlaced w nodes now (Rows (map (plain_row plain) made)) a b packed → BranchHasRows w now (height_of w nodes branch.node.0) (exchanged gap (map (plain_row plain) new) (branch_rows (rows_table nodes) branch)) packed
kept-rows plain w nodes now gap new branch under made a b packed k first second placed =
    let all = exchanged gap (map (plain_row plain) new) (map (moved branch.first branch.second) (map (plain_row plain) under)) in
    let shown = map (plain_row plain) made in
    let placed = subst (λ (x : List ℕ). IsPlaced w nodes now (Rows shown) x branch.second packed) first (subst (λ (x : List ℕ). IsPlaced w nodes now (Rows shown) a x packed) second placed) in
    packed-has w nodes now (height_of w nodes branch.node.0) (exchanged gap (map (plain_row plain) new) (branch_rows (rows_table nodes) branch)) (Rows all) packed (kept-has plain w nodes gap new branch under made k)
    (rows-packed w nodes now branch.first branch.second all shown packed (all-seen plain w nodes gap new branch under made k) k.is placed)

pub kept-none : {L : Type 0} (plain : L → L) (w : Widths L) (nodes : List (Shape L)) (gap : Gap) (new : List (Row L)) (branch : Branch) (under made : List (Row L)) (empty : Bool) → KeptIn plain w nodes gap new branch under made → empty ≡ eqb (length made) 0 → empty ≡ true
    → exchanged gap (map (plain_row plain) new) (branch_rows (rows_table nodes) branch) ≡ []
kept-none plain w nodes gap new branch under made empty k e t =
    sym (kept-has plain w nodes gap new branch under made k).rows_are ∙ map-none (back branch.first branch.second) _ (sym k.is ∙ mapped-none (plain_row plain) made empty e t)

pub kept-taken : {L : Type 0} (plain : L → L) (w : Widths L) (nodes : List (Shape L)) (gap : Gap) (new : List (Row L)) (branch : Branch) (under before after : List (Row L)) → BottomAt w nodes gap (map (plain_row plain) new) branch → map (plain_row plain) under ≡ rows_under (node_at nodes branch.node.0)
    → after ≡ before ++ taken_out gap.from gap.to (map (moved branch.first branch.second) (map (plain_row plain) under)) → after ≡ before ++ taken_out gap.from gap.to (branch_rows (rows_table nodes) branch)
kept-taken plain w nodes gap new branch under before after at is e =
    taken-opened w nodes branch.node.0 branch.first branch.second (Rows (map (moved branch.first branch.second) (map (plain_row plain) under))) gap before after (under-opened plain w nodes gap new branch under at is) e
