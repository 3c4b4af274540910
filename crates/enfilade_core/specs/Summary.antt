-- What is kept of a node beside its children, so that no call walks a whole tree.
use Rattle.std.specs.Prelude.{ℕ, ◌+◌, ◌==◌, min, if◌then◌else◌, List, [], map, fold, slice_index_or}
use Rattle.tumbler.specs.Places.{sum}
use Rattle.enfilade_core.specs.declared.tree.Row.{Row}
use Rattle.enfilade_core.specs.declared.tree.Branch.{Branch}
use Rattle.enfilade_core.specs.declared.summary.Summary.{Summary}
use Rattle.enfilade_core.specs.Rows.{Shape, Rows, Branches, table}
use Rattle.enfilade_core.specs.Axes.{Widths, later}

-- the most that a count keeps
abbrev pub most_count : ℕ
most_count = 18446744073709551615

-- ---- of a row, a branch and a list of children

abbrev pub no_summary : Summary
no_summary = record { height = 0; leaves = 0; first = []; last = []; first_extent = []; second_extent = [] }

-- the summary of one row that stands at these places and is this wide
abbrev pub placed_summary : List ℕ → List ℕ → List ℕ → List ℕ → Summary
placed_summary first first_width second second_width = record {
  height = 0;
  leaves = 1;
  first = first;
  last = first;
  first_extent = sum first first_width;
  second_extent = sum second second_width;
}

abbrev pub row_summary : {L : Type 0} → Widths L → Row L → Summary
row_summary w row = placed_summary row.first (w.first row) row.second (w.second row)

-- a summary, where all is moved by a on the first axis and by b on the second
abbrev pub summary_moved : List ℕ → List ℕ → Summary → Summary
summary_moved a b s = record {
  height = s.height;
  leaves = s.leaves;
  first = sum a s.first;
  last = sum a s.last;
  first_extent = sum a s.first_extent;
  second_extent = sum b s.second_extent;
}

-- the summary of two neighbours together, of which the first may have no rows
abbrev pub summary_joined : Summary → Summary → Summary
summary_joined a b = record {
  height = b.height;
  leaves = a.leaves + b.leaves;
  first = (if a.leaves == 0 then b.first else a.first);
  last = b.last;
  first_extent = later a.first_extent b.first_extent;
  second_extent = later a.second_extent b.second_extent;
}

abbrev pub branch_summary : List Summary → Branch → Summary
branch_summary told branch = summary_moved branch.first branch.second (slice_index_or told branch.node.0 no_summary)

-- the summary of the same rows, for a node one level higher
abbrev pub raised : Summary → Summary
raised s = record s { height = s.height + 1 }

abbrev pub summary_in : {L : Type 0} → Widths L → List Summary → Shape L → Summary
summary_in w told (Rows rows) = fold summary_joined no_summary (map (row_summary w) rows)
summary_in w told (Branches branches) = raised (fold summary_joined no_summary (map (branch_summary told) branches))

abbrev pub summaries : {L : Type 0} → Widths L → List (Shape L) → List Summary
summaries w nodes = table (summary_in w) nodes

abbrev pub summary_of : {L : Type 0} → Widths L → List (Shape L) → ℕ → Summary
summary_of w nodes k = slice_index_or (summaries w nodes) k no_summary

-- how many levels of nodes are below node k; a bottom node has none
abbrev pub height_of : {L : Type 0} → Widths L → List (Shape L) → ℕ → ℕ
height_of w nodes k = (summary_of w nodes k).height

-- how many levels of nodes a tree has: a lone bottom node is one level
abbrev pub depth_of : {L : Type 0} → Widths L → List (Shape L) → ℕ → ℕ
depth_of w nodes k = height_of w nodes k + 1

-- a summary as it is kept: the count of leaves stops at the most that it can be
abbrev pub kept : Summary → Summary
kept s = record s { leaves = min s.leaves most_count }
