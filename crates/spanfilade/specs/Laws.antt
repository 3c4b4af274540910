-- What the keys are that are met.
use Rattle.std.specs.Prelude.{◌≡◌, ℕ, List}
use Rattle.std.specs.List.{filter, list_any}
use Rattle.std.specs.List.Sorted.{IsStrictlySortedBy}
use Rattle.std.specs.Ordering.{nat_cmp}
use Rattle.std.specs.Cmp.Lexicographic.{slice_cmp}
use Rattle.std.specs.BTreeMap.{is_at}
use Rattle.tumbler.specs.declared.span.Span.{Span}
use Rattle.enfilade_core.specs.declared.tree.Row.{Row}
use Rattle.spanfilade.specs.Keys.{is_met_by, keys_of, keys_met}

-- the keys that are met are in ascending order, each once, and they are those of the rows that meet one of the spans
-- and no others
pub record KeysMetExactly (spans : List Span) (rows : List (Row (List ℕ))) : Type 0 where
  pub ascending : IsStrictlySortedBy (slice_cmp nat_cmp) (keys_met spans rows)
  pub exactly : (key : List ℕ) → list_any (is_at (slice_cmp nat_cmp key)) (keys_met spans rows) ≡ list_any (is_at (slice_cmp nat_cmp key)) (keys_of (filter (is_met_by spans) rows))
