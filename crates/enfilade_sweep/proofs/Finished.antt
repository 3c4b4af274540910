-- All that a sweep promises, once the marked nodes are at their places.
use Rattle.std.proofs.Common.{◌≡◌, ◌∙◌, ℕ, Bool, List, length, map, get_or}
use Rattle.enfilade_core.specs.Rows.{Shape, rows_of}
use Rattle.enfilade_core.specs.Axes.{Widths}
use Rattle.enfilade_core.specs.WellFormed.{AreWellFormed}
use Rattle.enfilade_core.specs.Summary.{depth_of}
use Rattle.enfilade_core.specs.BalanceState.{tree_debt, tree_allows}
use Rattle.enfilade_core.specs.NewNumbers.{AreRanks, AreAtRanks}
use Rattle.enfilade_sweep.specs.Sweep.{IsSwept, AllReached, reached_count, unreached_count}
use Rattle.enfilade_sweep.specs.Marks.{AreMarked}
use Rattle.enfilade_sweep.proofs.Counted.{marked_count, none_unreached}
use Rattle.enfilade_sweep.proofs.StillReached.{all_reached, hangs_before}
use Rattle.enfilade_sweep.proofs.Whole.{reached_marked, is_swept, same_rows, same_debts, same_allowed, same_depths}

pub record IsFinished {L : Type 0} (w : Widths L) (old new : List (Shape L)) (roots made : List ℕ) : Type 0 where
  pub swept : IsSwept old roots new made
  pub rows : map (rows_of new) made ≡ map (rows_of old) roots
  pub debts : map (tree_debt new) made ≡ map (tree_debt old) roots
  pub allowed : map (tree_allows new) made ≡ map (tree_allows old) roots
  pub depths : map (depth_of w new) made ≡ map (depth_of w old) roots
  pub reached : AllReached new made
  pub count : length new ≡ reached_count old roots
  pub none_left : unreached_count new made ≡ 0

pub finished : {L : Type 0} (w : Widths L) (old new : List (Shape L)) (roots made : List ℕ) (marks : List Bool) (ranks : List ℕ) → AreWellFormed w old → AreWellFormed w new → AreMarked old roots marks 0 → AreRanks marks ranks → AreAtRanks marks old new (length old)
    → made ≡ map (λ k. get_or ranks k 0) roots → IsFinished w old new roots made
finished w old new roots made marks ranks well_formed_old well_formed_new marked exact at is =
    let swept = is_swept w old new roots marks ranks well_formed_old well_formed_new marked exact at made is in
    let reached = all_reached old roots new made swept in
    record {
      swept = swept;
      rows = same_rows w old new roots marks ranks well_formed_old well_formed_new marked exact at made is;
      debts = same_debts w old new roots marks ranks well_formed_old well_formed_new marked exact at made is;
      allowed = same_allowed w old new roots marks ranks well_formed_old well_formed_new marked exact at made is;
      depths = same_depths w old new roots marks ranks well_formed_old well_formed_new marked exact at made is;
      reached = reached;
      count = at.long ∙ marked_count old roots (hangs_before w old well_formed_old) marks marked.long marked.sound (reached_marked old roots marks marked);
      none_left = none_unreached new made (hangs_before w new well_formed_new) reached;
    }
