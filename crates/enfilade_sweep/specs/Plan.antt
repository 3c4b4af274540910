-- A sweep in place before it is made.
use Rattle.std.specs.Prelude.{ℕ, Bool, List}
use Rattle.enfilade_core.specs.Rows.{Shape}
use Rattle.enfilade_sweep.specs.Marks.{AreMarked}

-- what a plan shows: the numbers of the roots, and a mark for each node
pub record PlannedSweep : Type 0 where
  pub roots : List ℕ
  pub marks : List Bool

-- it was made for these nodes: those that its roots reach are marked, and no others
abbrev pub IsPlanFor : {L : Type 0} → List (Shape L) → PlannedSweep → Type 0
IsPlanFor nodes plan = AreMarked nodes plan.roots plan.marks 0
