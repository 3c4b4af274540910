-- Which links are found, and what of an end is met.
use Rattle.std.specs.Prelude.{ℕ, Bool, true, ◌&&◌, List, [], take, filter, fold, All, Option, Some, None}
use Rattle.std.specs.List.{list_any, flat_map}
use Rattle.std.specs.Option.{option_map}
use Rattle.std.specs.declared.cmp.Ordering.{Ordering}
use Rattle.std.specs.Ordering.{nat_cmp, ordering_then}
use Rattle.std.specs.Cmp.Lexicographic.{slice_cmp}
use Rattle.std.specs.BTreeSet.{insert_key}
use Rattle.tumbler.specs.ListView.{ListView}
use Rattle.tumbler.specs.Places.{comes_before}
use Rattle.tumbler.specs.Span.{end_of, SpanFits}
use Rattle.tumbler.specs.declared.span.Span.{Span}
use Rattle.febe_data.specs.declared.run.Run.{Run}
use Rattle.enfilade_search.specs.Meeting.{touches}
use Rattle.world_rules.specs.World.{LinkRow}
use Rattle.world_rules.specs.Finding.{is_home_wanted}
use Rattle.links.specs.declared.row.WantedEnds.{WantedEnds}
use Rattle.links.specs.LinkLists.{run_span, ids_in, spans_at}

-- whether two spans have a place in common; the second has some width
abbrev pub spans_meet : Span → Span → Bool
spans_meet span other = touches span.start (end_of span) other.start other.width

-- a run of the end meets one of these spans, or no spans are given
abbrev pub is_end_met : Option (List Span) → List Run → Bool
is_end_met None runs = true
is_end_met (Some spans) runs = list_any (λ run. list_any (λ span. spans_meet span (run_span run)) spans) runs

-- the spans that are given for an end
abbrev pub given : Option (ListView Span) → Option (List Span)
given spans = option_map (λ (list : ListView Span). list.items) spans

-- the spans that are given fit
abbrev pub SpansFit : Option (ListView Span) → Type 0
SpansFit None = Unit {0}
SpansFit (Some spans) = All SpanFits spans.items

pub record EndsFit (ends : WantedEnds) : Type 0 where
  pub from : SpansFit ends.from
  pub to : SpansFit ends.to
  pub three : SpansFit ends.three

-- the home is in one of the spans, or no span is given, and each end is met
abbrev pub is_wanted : List Span → WantedEnds → LinkRow → Bool
is_wanted homes ends link = is_home_wanted homes link.home && is_end_met (given ends.from) link.from && is_end_met (given ends.to) link.to && is_end_met (given ends.three) link.three

-- the first so many ids above the tumbler, of the links that are wanted
abbrev pub found_in : List LinkRow → List Span → WantedEnds → List ℕ → ℕ → List (List ℕ)
found_in links homes ends after limit = take limit (filter (λ id. comes_before after id) (ids_in (filter (is_wanted homes ends) links)))

-- ---- the spans of an end

abbrev pub span_cmp : Span → Span → Ordering
span_cmp a b = ordering_then (slice_cmp nat_cmp a.start b.start) (slice_cmp nat_cmp a.width b.width)

-- spans in ascending order, by start and then by width, each once
abbrev pub ascending_spans : List Span → List Span
ascending_spans spans = fold (insert_key span_cmp) [] spans

-- those of the end's runs, over all links, that meet a span
abbrev pub spans_met : ℕ → Span → List LinkRow → List Span
spans_met end span links = ascending_spans (filter (spans_meet span) (flat_map (spans_at end) links))
