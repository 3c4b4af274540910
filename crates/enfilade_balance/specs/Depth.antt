-- How deep a tree is after an edit.
use Rattle.std.specs.Prelude.{◌≡◌, ◌≢◌, ℕ, List, []}
use Rattle.enfilade_core.specs.Rows.{Shape, rows_of}
use Rattle.enfilade_core.specs.Axes.{Widths}
use Rattle.enfilade_core.specs.Summary.{depth_of}

-- a tree that has rows is as deep as the one that it was made of: no level came or went, and so no root was split or
-- dropped
abbrev pub KeepsDepth : {L : Type 0} → Widths L → List (Shape L) → ℕ → List (Shape L) → ℕ → Type 0
KeepsDepth w old root new made = rows_of new made ≢ [] → depth_of w new made ≡ depth_of w old root
