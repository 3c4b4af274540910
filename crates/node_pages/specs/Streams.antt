-- Which bytes are the stream of an arena.
use Rattle.std.specs.Prelude.{◌≡◌, ℕ, List, Option, Some, None, All}
use Rattle.enfilade_core.specs.declared.tree.Row.{Row}
use Rattle.enfilade_core.specs.Rows.{Shape}
use Rattle.enfilade_core.specs.Axes.{Widths}
use Rattle.enfilade_core.specs.WellFormed.{AreWellFormed}
use Rattle.node_pages.specs.NodeBytes.{IsNode, arena_bytes}

-- These bytes are the stream of an arena with these nodes: each of them can be written, the bytes are all of them, one
-- behind the other, and each has well formed children among those before it.
pub record Spells {L : Type 0} (w : Widths L) (IsRow : Row L → Type 0) (row_bytes : Row L → List ℕ) (nodes : List (Shape L)) (bytes : List ℕ) : Type 0 where
  pub spelled : bytes ≡ arena_bytes row_bytes nodes
  pub fields : All (IsNode IsRow) nodes
  pub well_formed : AreWellFormed w nodes

-- what was read of bytes is so: the nodes whose stream they are, or none where they are no arena's stream
abbrev pub IsReadArena : {L : Type 0} → Widths L → (Row L → Type 0) → (Row L → List ℕ) → List ℕ → Option (List (Shape L)) → Type 0
IsReadArena w IsRow row_bytes bytes (Some nodes) = Spells w IsRow row_bytes nodes bytes
IsReadArena {L} w IsRow row_bytes bytes None = (nodes : List (Shape L)) → ¬ Spells w IsRow row_bytes nodes bytes
