-- The order in which rows are sorted: by their keys, then by where they start, then by their widths.
use Rattle.std.specs.Prelude.{ℕ, Bool, List}
use Rattle.std.specs.declared.cmp.Ordering.{Ordering}
use Rattle.std.specs.Ordering.{nat_cmp, is_lt, ordering_then}
use Rattle.std.specs.Cmp.Lexicographic.{slice_cmp}
use Rattle.std.specs.List.Sorted.{IsSortedBy}
use Rattle.enfilade_core.specs.declared.tree.Row.{Row}

abbrev pub tumbler_cmp : List ℕ → List ℕ → Ordering
tumbler_cmp a b = slice_cmp nat_cmp a b

abbrev pub row_cmp : Row (List ℕ) → Row (List ℕ) → Ordering
row_cmp a b = ordering_then (tumbler_cmp a.second b.second) (ordering_then (tumbler_cmp a.first b.first) (tumbler_cmp a.leaf b.leaf))

abbrev pub is_row_before : Row (List ℕ) → Row (List ℕ) → Bool
is_row_before a b = is_lt (row_cmp a b)

-- the rows are in that order
abbrev pub AreSorted : List (Row (List ℕ)) → Type 0
AreSorted rows = IsSortedBy is_row_before rows
