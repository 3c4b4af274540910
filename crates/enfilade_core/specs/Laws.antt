-- The laws of rows: how those of a tree are made of its children's, that added nodes change none, and what an
-- exchange comes to. And what the depth of a tree is.
use Rattle.std.specs.Prelude.{◌≡◌, ℕ, ◌<◌, ◌+◌, List, ◌++◌, map, length, All}
use Rattle.std.specs.List.{flat_map}
use Rattle.tumbler.specs.Places.{IsUpTo, sum}
use Rattle.enfilade_core.specs.declared.tree.Row.{Row}
use Rattle.enfilade_core.specs.declared.tree.Branch.{Branch}
use Rattle.enfilade_core.specs.Rows.{Shape, Rows, Branches, moved, rows_of, node_at}
use Rattle.enfilade_core.specs.Axes.{Widths}
use Rattle.enfilade_core.specs.Summary.{depth_of}
use Rattle.enfilade_core.specs.declared.gap.Gap.{Gap}
use Rattle.enfilade_core.specs.Edits.{KeepsRows, put_before, left_by, shifted}
use Rattle.enfilade_core.specs.Exchange.{exchanged}

-- the rows of node k, seen from a base
abbrev pub rows_from : {L : Type 0} → List (Shape L) → ℕ → List ℕ → List ℕ → List (Row L)
rows_from nodes k a b = map (moved a b) (rows_of nodes k)

-- the rows of children, seen from a base: a leaf at the base plus its displacement, and the rows of each
-- node from the base plus its displacement
abbrev pub below_from : {L : Type 0} → List (Shape L) → Shape L → List ℕ → List ℕ → List (Row L)
below_from nodes (Rows rows) a b = map (moved a b) rows
below_from nodes (Branches branches) a b = flat_map (λ (branch : Branch). rows_from nodes branch.node.0 (sum a branch.first) (sum b branch.second)) branches

-- the rows of a tree are those of its root's children, one after another, from any base
abbrev pub RowsOfChildren : {L : Type 0} → List (Shape L) → Type 0
RowsOfChildren nodes = (k : ℕ) (a b : List ℕ) → k < length nodes → rows_from nodes k a b ≡ below_from nodes (node_at nodes k) a b

-- nodes that are added leave the rows of those that are there
abbrev pub RowsStay : {L : Type 0} → List (Shape L) → Type 0
RowsStay {L} nodes = (more : List (Shape L)) → KeepsRows nodes (nodes ++ more)

-- where a gap does not end before it begins, an exchange leaves the rows that a cut, then a shift of what is
-- behind the gap, and then a splice at its beginning would leave
abbrev pub ExchangeIsThreeEdits : {L : Type 0} → List (Row L) → Type 0
ExchangeIsThreeEdits {L} rows = (gap : Gap) (new : List (Row L)) → IsUpTo gap.from gap.to → IsUpTo gap.from gap.onto → exchanged gap new rows ≡ put_before gap.from new (shifted gap.to gap.onto (left_by gap.from gap.to rows))

-- a node with rows is one level deep, and any other node one level deeper than each of its children
pub record DepthsCountLevels {L : Type 0} (w : Widths L) (nodes : List (Shape L)) : Type 0 where
  pub bottom : (k : ℕ) (rows : List (Row L)) → k < length nodes → node_at nodes k ≡ Rows rows → depth_of w nodes k ≡ 1
  pub inner : (k : ℕ) (branches : List Branch) → k < length nodes → node_at nodes k ≡ Branches branches → All (λ branch. depth_of w nodes k ≡ depth_of w nodes branch.node.0 + 1) branches
