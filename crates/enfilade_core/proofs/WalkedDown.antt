-- The last row below a node that comes before a coordinate, by the node's children.
use Rattle.std.proofs.Common.{◌≡◌, ℕ, ◌+◌, ◌<◌, List, map, min, refl, arith, ap, ◌∙◌, sym, subst, Option, Some, None, Contains, IfSome, IfNone, length}
use Rattle.std.specs.List.{All, flat_map}
use Rattle.std.proofs.lemmas.List.Elements.{All-contains}
use Rattle.enfilade_core.specs.declared.tree.Row.{Row}
use Rattle.enfilade_core.specs.declared.tree.Branch.{Branch}
use Rattle.enfilade_core.specs.Rows.{Shape, Rows, Branches, moved, branch_rows, rows_table, rows_of, node_at}
use Rattle.enfilade_core.specs.Axes.{Widths, IsWellFormedRow, IsWellFormedRows}
use Rattle.enfilade_core.specs.WellFormed.{IsWellFormed, AreWellFormed, IsWellFormedPart}
use Rattle.enfilade_core.specs.Edits.{last_before}
use Rattle.enfilade_core.specs.declared.summary.Summary.{Summary}
use Rattle.enfilade_core.specs.Summary.{height_of, no_summary, summary_in, summaries}
use Rattle.enfilade_core.specs.Exchange.{IsWellFormedAt, IsOpened, branch_at}
use Rattle.enfilade_core.proofs.Parts.{well_formed-now, summary-said}
use Rattle.enfilade_core.proofs.Heights.{rows_height}
use Rattle.enfilade_core.proofs.ExchangeNodes.{level-height}
use Rattle.enfilade_core.proofs.OpenedAt.{at-of_part, rows-at, bottom-fits, rows-moved, inner-opened}
use Rattle.enfilade_core.proofs.WalkedRows.{parts-at}

-- ---- a bottom node

pub record BottomSeen {L : Type 0} (w : Widths L) (nodes : List (Shape L)) (k : ℕ) (a b : List ℕ) (rows : List (Row L)) : Type 0 where
  pub own : IsWellFormedRows w rows
  pub well_formed : All (IsWellFormedRow w) (map (moved a b) rows)
  pub same : map (moved a b) (rows_of nodes k) ≡ map (moved a b) rows
  pub level : height_of w nodes k ≡ 0

bottom-level : {L : Type 0} (w : Widths L) (nodes : List (Shape L)) (k : ℕ) (rows : List (Row L)) → AreWellFormed w nodes → k < length nodes → node_at nodes k ≡ Rows rows → height_of w nodes k ≡ 0
bottom-level {L} w nodes k rows well_formed lt is =
    ap (λ (s : Summary). s.height) (summary-said w nodes k well_formed lt) ∙ ap (λ (node : Shape L). (summary_in w (summaries w nodes) node).height) is ∙ rows_height w rows no_summary refl

pub bottom-seen : {L : Type 0} (w : Widths L) (nodes : List (Shape L)) (k : ℕ) (a b : List ℕ) (rows : List (Row L)) → AreWellFormed w nodes → IsWellFormedAt w nodes k a b → node_at nodes k ≡ Rows rows → BottomSeen w nodes k a b rows
bottom-seen w nodes k a b rows well_formed at is =
    let now = subst (IsWellFormed w nodes) is (well_formed-now w nodes k well_formed at.below) in
    record {
      own = record { each = now.rows; ordered = now.ordered };
      well_formed = bottom-fits w nodes k a b rows well_formed at is;
      same = ap (map (moved a b)) (rows-at w nodes k a b rows well_formed at is);
      level = bottom-level w nodes k rows well_formed at.below is;
    }

-- ---- an inner node

pub record InnerSeen {L : Type 0} (w : Widths L) (nodes : List (Shape L)) (k : ℕ) (a b : List ℕ) (branches : List Branch) : Type 0 where
  pub well_formed : IsWellFormed w nodes (Branches branches)
  pub parts : All (IsWellFormedPart w nodes) (map (branch_at a b) branches)
  pub named : All (λ (branch : Branch). branch.node.0 < k) (map (branch_at a b) branches)
  pub same : map (moved a b) (rows_of nodes k) ≡ flat_map (branch_rows (rows_table nodes)) (map (branch_at a b) branches)
  pub opened : IsOpened w nodes k a b (Branches (map (branch_at a b) branches))

pub inner-seen : {L : Type 0} (w : Widths L) (nodes : List (Shape L)) (k : ℕ) (a b : List ℕ) (branches : List Branch) → AreWellFormed w nodes → IsWellFormedAt w nodes k a b → node_at nodes k ≡ Branches branches → InnerSeen w nodes k a b branches
inner-seen w nodes k a b branches well_formed at is =
    record {
      well_formed = subst (IsWellFormed w nodes) is (well_formed-now w nodes k well_formed at.below);
      parts = parts-at w nodes k a b branches well_formed at is;
      named = (inner-opened w nodes k a b branches (map (branch_at a b) branches) well_formed at is refl).named;
      same = sym (rows-moved w nodes k a b branches well_formed at.below is);
      opened = inner-opened w nodes k a b branches (map (branch_at a b) branches) well_formed at is refl;
    }

pub record OneBelow {L : Type 0} (w : Widths L) (nodes : List (Shape L)) (k : ℕ) (branch : Branch) : Type 0 where
  pub lower : branch.node.0 < k
  pub at : IsWellFormedAt w nodes branch.node.0 branch.first branch.second
  pub level : height_of w nodes k ≡ height_of w nodes branch.node.0 + 1

level-of_one : {L : Type 0} (w : Widths L) (nodes : List (Shape L)) (k : ℕ) (a b : List ℕ) (all : List Branch) (branch : Branch) → IsOpened w nodes k a b (Branches all) → Contains all branch → height_of w nodes k ≡ height_of w nodes branch.node.0 + 1
level-of_one w nodes k a b all branch opened one =
    let height = opened.well_formed.branches.height in
    omega (
      arith,
      opened.level,
      level-height w nodes height all opened.well_formed.branches.some opened.well_formed.branches.level,
      All-contains (λ (x : Branch). height_of w nodes x.node.0 ≡ height) all branch opened.well_formed.branches.level one,
    )

pub one-below : {L : Type 0} (w : Widths L) (nodes : List (Shape L)) (k : ℕ) (a b : List ℕ) (branches : List Branch) (branch : Branch) → InnerSeen w nodes k a b branches → Contains (map (branch_at a b) branches) branch → OneBelow w nodes k branch
one-below w nodes k a b branches branch seen one = record {
  lower = All-contains (λ (x : Branch). x.node.0 < k) (map (branch_at a b) branches) branch seen.named one;
  at = at-of_part w nodes branch (All-contains (IsWellFormedPart w nodes) (map (branch_at a b) branches) branch seen.parts one);
  level = level-of_one w nodes k a b (map (branch_at a b) branches) branch seen.opened one;
}

-- ---- what was found in the same rows

pub last-of_same : {L : Type 0} (at : List ℕ) (rows same : List (Row L)) (last : Option (Row L)) → rows ≡ same → last_before at same ≡ last → last_before at rows ≡ last
last-of_same at rows same last is found = ap (last_before at) is ∙ found

pub some-in : {L F : Type 0} (as_row : F → Row L) (result : Option F) (last whole : Option (Row L)) → whole ≡ last → IfSome result (λ f. last ≡ Some (as_row f)) → IfSome result (λ f. whole ≡ Some (as_row f))
some-in as_row (Some f) last whole is h = is ∙ h
some-in as_row None last whole is h = tt

pub none-in : {L F : Type 0} (result : Option F) (last whole : Option (Row L)) → whole ≡ last → IfNone result (last ≡ None) → IfNone result (whole ≡ None)
none-in (Some f) last whole is h = tt
none-in None last whole is h = is ∙ h

-- ---- how many nodes were opened

pub visits-in_bottom : {F : Type 0} (visits_of : F → ℕ) (result : Option F) (above opened height : ℕ) → opened ≡ min (above + 1) 4294967295 → height ≡ 0 → IfSome result (λ f. visits_of f ≡ opened) → IfSome result (λ f. visits_of f ≡ min (above + height + 1) 4294967295)
visits-in_bottom visits_of (Some f) above opened height is level h = omega (arith, is, level, h)
visits-in_bottom visits_of None above opened height is level h = tt

pub visits-in_inner : {F : Type 0} (visits_of : F → ℕ) (result : Option F) (above opened height below : ℕ) → opened ≡ min (above + 1) 4294967295 → height ≡ below + 1 → IfSome result (λ f. visits_of f ≡ min (opened + below + 1) 4294967295) → IfSome result (λ f. visits_of f ≡ min (above + height + 1) 4294967295)
visits-in_inner visits_of (Some f) above opened height below is level h = omega (arith, is, level, h)
visits-in_inner visits_of None above opened height below is level h = tt
