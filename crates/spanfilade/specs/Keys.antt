-- Which keys are those of spans that meet given ones.
use Rattle.std.specs.Prelude.{ℕ, Bool, List, [], length, map, fold, sum_by}
use Rattle.std.specs.List.{filter, list_any}
use Rattle.std.specs.Ordering.{nat_cmp}
use Rattle.std.specs.Cmp.Lexicographic.{slice_cmp}
use Rattle.std.specs.BTreeSet.{insert_key}
use Rattle.tumbler.specs.declared.span.Span.{Span}
use Rattle.enfilade_core.specs.declared.tree.Row.{Row}
use Rattle.enfilade_core.specs.Axes.{first_axis}
use Rattle.enfilade_core.specs.Planes.{key_widths}
use Rattle.enfilade_search.specs.Meeting.{meets}

-- whether a row's span meets this one
abbrev pub is_met : Span → Row (List ℕ) → Bool
is_met span row = meets (first_axis key_widths) span row

-- whether it meets one of these
abbrev pub is_met_by : List Span → Row (List ℕ) → Bool
is_met_by spans row = list_any (λ span. is_met span row) spans

-- tumblers beside those that are there, in ascending order, each once
abbrev pub with_keys : List (List ℕ) → List (List ℕ) → List (List ℕ)
with_keys keys more = fold (insert_key (slice_cmp nat_cmp)) keys more

abbrev pub keys_of : List (Row (List ℕ)) → List (List ℕ)
keys_of rows = map (λ (row : Row (List ℕ)). row.second) rows

-- the keys of the rows that meet one of the spans, in ascending order, each once
abbrev pub keys_met : List Span → List (Row (List ℕ)) → List (List ℕ)
keys_met spans rows = with_keys [] (keys_of (filter (is_met_by spans) rows))

-- how many rows meet the spans, each counted for each span that it meets
abbrev pub count_met : List Span → List (Row (List ℕ)) → ℕ
count_met spans rows = sum_by (λ span. length (filter (is_met span) rows)) spans
