-- How nodes are written, and which ones can be.
use Rattle.std.specs.Prelude.{◌≡◌, ℕ, List, [], ◌∷◌, ◌++◌}
use Rattle.std.specs.List.{flat_map}
use Rattle.tumbler.specs.ListView.{ListView}
use Rattle.tumbler.specs.Places.{IsTumbler}
use Rattle.disk_fields.specs.Format.{IsU32, IsU64, IsTextField, AreCounted, u32_bytes, u64_bytes, tumbler_bytes, list_bytes, text_bytes}
use Rattle.enfilade_core.specs.declared.tree.Row.{Row}
use Rattle.enfilade_core.specs.declared.tree.Branch.{Branch}
use Rattle.enfilade_core.specs.Rows.{Shape, Rows, Branches}

-- ---- rows

-- a row of contents: where it stands on the first axis, and its bytes
abbrev pub content_row_bytes : Row (ListView ℕ) → List ℕ
content_row_bytes row = tumbler_bytes row.first ++ text_bytes row.leaf.items

-- a row of a document: where it stands on both axes, and how long it is
abbrev pub text_row_bytes : Row ℕ → List ℕ
text_row_bytes row = tumbler_bytes row.first ++ (tumbler_bytes row.second ++ u32_bytes row.leaf)

-- a row of an index: where it stands on both axes, and how wide it is
abbrev pub key_row_bytes : Row (List ℕ) → List ℕ
key_row_bytes row = tumbler_bytes row.first ++ (tumbler_bytes row.second ++ tumbler_bytes row.leaf)

-- A row of contents can be written where it stands at zero on the second axis, since that place is not written, and has
-- nothing in reserve.
pub record IsContentRow (row : Row (ListView ℕ)) : Type 0 where
  pub first : IsTumbler row.first
  pub second : row.second ≡ []
  pub bytes : IsTextField row.leaf.items
  pub spare : row.leaf.spare ≡ 0

pub record IsTextRow (row : Row ℕ) : Type 0 where
  pub first : IsTumbler row.first
  pub second : IsTumbler row.second
  pub length : IsU32 row.leaf

pub record IsKeyRow (row : Row (List ℕ)) : Type 0 where
  pub first : IsTumbler row.first
  pub second : IsTumbler row.second
  pub width : IsTumbler row.leaf

-- ---- nodes

-- a branch: the number of its node, where that stands on both axes, and its extents on both
abbrev pub branch_bytes : Branch → List ℕ
branch_bytes branch = u64_bytes branch.node.0 ++ (tumbler_bytes branch.first ++ (tumbler_bytes branch.second ++ (tumbler_bytes branch.first_extent ++ tumbler_bytes branch.second_extent)))

pub record IsBranch (branch : Branch) : Type 0 where
  pub node : IsU64 branch.node.0
  pub first : IsTumbler branch.first
  pub second : IsTumbler branch.second
  pub first_extent : IsTumbler branch.first_extent
  pub second_extent : IsTumbler branch.second_extent

-- a node: 0 and its rows, or 1 and its branches, with their number in front
abbrev pub node_bytes : {L : Type 0} → (Row L → List ℕ) → Shape L → List ℕ
node_bytes row_bytes (Rows rows) = 0 ∷ list_bytes row_bytes rows
node_bytes row_bytes (Branches branches) = 1 ∷ list_bytes branch_bytes branches

-- a node can be written where four bytes have room to count what hangs under it, and each of that can be
abbrev pub IsNode : {L : Type 0} → (Row L → Type 0) → Shape L → Type 0
IsNode IsRow (Rows rows) = AreCounted IsRow rows
IsNode IsRow (Branches branches) = AreCounted IsBranch branches

-- the nodes of an arena, in the order of their numbers
abbrev pub arena_bytes : {L : Type 0} → (Row L → List ℕ) → List (Shape L) → List ℕ
arena_bytes row_bytes nodes = flat_map (node_bytes row_bytes) nodes
