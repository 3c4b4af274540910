-- Spans as pairs of start and width, in an ordered set.
use Rattle.std.specs.Prelude.{ℕ, List, [], fold}
use Rattle.std.specs.declared.cmp.Ordering.{Ordering}
use Rattle.std.specs.Ordering.{nat_cmp, ordering_then}
use Rattle.std.specs.Cmp.Lexicographic.{slice_cmp}
use Rattle.std.specs.BTreeSet.{insert_key}
use Rattle.tumbler.specs.declared.span.Span.{Span}
use Rattle.enfilade_core.specs.declared.tree.Row.{Row}

abbrev pub pair_of : Row (List ℕ) → List ℕ × List ℕ
pair_of row = (row.first, row.leaf)

abbrev pub span_of_pair : List ℕ × List ℕ → Span
span_of_pair pair = record { start = pair.0; width = pair.1 }

-- by the first, then by the second
abbrev pub pair_cmp : List ℕ × List ℕ → List ℕ × List ℕ → Ordering
pair_cmp a b = ordering_then (slice_cmp nat_cmp a.0 b.0) (slice_cmp nat_cmp a.1 b.1)

-- pairs in ascending order, each once
abbrev pub pairs_of : List (List ℕ × List ℕ) → List (List ℕ × List ℕ)
pairs_of pairs = fold (insert_key pair_cmp) [] pairs
