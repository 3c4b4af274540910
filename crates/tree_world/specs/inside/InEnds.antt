-- The text that is in the ends of links, by its rows.
use Rattle.std.specs.Prelude.{◌≡◌, ℕ, ◌+◌, ◌-◌, ◌<◌, ◌≤◌, ◌==◌, ◌&&◌, Bool, List, [], ◌∷◌, filter, All, Some, nat_le, nat_lt}
use Rattle.std.specs.List.{list_any}
use Rattle.std.specs.Global.{Vec}
use Rattle.std.specs.Ordering.{nat_cmp}
use Rattle.std.specs.Cmp.Lexicographic.{slice_cmp}
use Rattle.std.specs.BTreeMap.{BTreeMap, get}
use Rattle.tumbler.specs.declared.span.Span.{Span}
use Rattle.poom_compare.specs.declared.positions.Interval.{Interval}
use Rattle.poom_compare.specs.declared.placing.Placed.{Placed}
use Rattle.poom_compare.specs.Placed.{is_in, is_in_some, IsInterval, AreApart}
use Rattle.poom_compare.specs.Shared.{rows_picked}
use Rattle.world_rules.specs.declared.rows.Row.{Row}
use Rattle.world_rules.specs.declared.ends.End.{End}
use Rattle.world_rules.specs.World.{LinkRow, content_address}
use Rattle.world_rules.specs.Picking.{number_of, is_in_runs, intervals, places_of}
use Rattle.world_rules.specs.Ends.{runs_of_end}

-- the number is one of those that the span names, from that of its start on
abbrev pub names_number : Span → ℕ → Bool
names_number span number = nat_le (number_of span.start) number && nat_lt number (number_of span.start + number_of span.width)

-- the run shows a byte at the position whose number is in the interval
abbrev pub is_met_at : Placed → Interval → ℕ → Bool
is_met_at placed numbers n = nat_le placed.at n && nat_lt n (placed.at + placed.length) && is_in (placed.first + (n - placed.at)) numbers

-- the address is in that end of some of the links
abbrev pub is_in_end_of : End → List LinkRow → List ℕ → Bool
is_in_end_of end links address = list_any (λ (link : LinkRow). is_in_runs (runs_of_end end link) address) links

-- a row that stands there is
abbrev pub has_row_in_end : End → List LinkRow → List Row → ℕ → Bool
has_row_in_end end links rows n = list_any (λ (row : Row). row.n == n && is_in_end_of end links row.address) rows

abbrev pub span_between : Interval → Span
span_between interval = record { start = 1 ∷ interval.from ∷ []; width = 0 ∷ (interval.to - interval.from) ∷ [] }

-- what of a text spans pick that is in the end, as the fewest intervals
abbrev pub spans_in_end : End → List LinkRow → List Span → List (List ℕ) → List Span
spans_in_end end links spans text = intervals (places_of (filter (λ (row : Row). is_in_end_of end links row.address) (rows_picked spans text)))

-- ---- numbers by content

-- the run's content has an extent, and the numbers of the run's bytes are in it
pub record IsWithin (extents : BTreeMap (List ℕ) Interval) (run : Placed) : Type 0 where
  pub extent : Interval
  pub there : get (slice_cmp nat_cmp) extents run.document ≡ Some extent
  pub from : extent.from ≤ run.first
  pub to : run.first + run.length ≤ extent.to

-- these numbers, of those in the extent, are of bytes of the content that are in the end
pub record IsNumbersOf (end : End) (links : List LinkRow) (document : List ℕ) (extent : Interval) (numbers : List Interval) : Type 0 where
  pub each : All (IsInterval 4294967295) numbers
  pub apart : AreApart numbers
  pub same : (m : ℕ) → extent.from ≤ m → m < extent.to → is_in_some numbers m ≡ is_in_end_of end links (content_address document m)

-- the numbers that are known are those of their contents
abbrev pub AreNumbers : End → List LinkRow → BTreeMap (List ℕ) Interval → BTreeMap (List ℕ) (Vec Interval) → Type 0
AreNumbers end links extents known =
    (document : List ℕ) (extent : Interval) (numbers : Vec Interval) → get (slice_cmp nat_cmp) extents document ≡ Some extent → get (slice_cmp nat_cmp) known document ≡ Some numbers → IsNumbersOf end links document extent numbers.items
