-- What the spans of an end are that meet a span.
use Rattle.std.specs.Prelude.{◌≡◌, ℕ, List, filter}
use Rattle.std.specs.List.{list_any, flat_map}
use Rattle.std.specs.List.Sorted.{IsStrictlySortedBy}
use Rattle.std.specs.BTreeMap.{is_at}
use Rattle.tumbler.specs.declared.span.Span.{Span}
use Rattle.world_rules.specs.World.{LinkRow}
use Rattle.links.specs.LinkLists.{spans_at}
use Rattle.links.specs.Finding.{span_cmp, spans_meet, spans_met}

-- the spans of an end that meet a span are in ascending order, each once, and they are those of the links' runs that
-- meet it and no others
pub record SpansMetExactly (end : ℕ) (span : Span) (links : List LinkRow) : Type 0 where
  pub ascending : IsStrictlySortedBy span_cmp (spans_met end span links)
  pub exactly : (other : Span) → list_any (is_at (span_cmp other)) (spans_met end span links) ≡ list_any (is_at (span_cmp other)) (filter (spans_meet span) (flat_map (spans_at end) links))
