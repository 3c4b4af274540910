-- Rows as intervals of points, each an address under a key, and how far rows reach.
use Rattle.std.specs.Prelude.{◌≡◌, ℕ, ◌+◌, ◌<◌, ◌≤◌, not, true, false, Bool, List, length, take, drop, All, IsTrue, slice_index_or, if◌then◌else◌}
use Rattle.std.specs.List.{list_any}
use Rattle.std.specs.declared.cmp.Ordering.{Ordering}
use Rattle.std.specs.Ordering.{nat_cmp, is_lt, ordering_then}
use Rattle.std.specs.Cmp.Lexicographic.{slice_cmp}
use Rattle.febe_data.specs.declared.run.Run.{Run}
use Rattle.enfilade_core.specs.declared.tree.Row.{Row}
use Rattle.poom.specs.Pieces.{addresses_from}
use Rattle.spanfilade.specs.Index.{row_end}
use Rattle.index_checks.specs.Covered.{covers}
use Rattle.index_checks.specs.declared.point.Point.{Point}

-- by the keys, and then by the addresses
abbrev pub point_cmp : Point → Point → Ordering
point_cmp a b = ordering_then (slice_cmp nat_cmp a.key b.key) (slice_cmp nat_cmp a.place b.place)

abbrev pub is_point_before : Point → Point → Bool
is_point_before a b = is_lt (point_cmp a b)

-- the one of two points that comes later
abbrev pub later_point : Point → Point → Point
later_point a b = if is_point_before a b then b else a

-- where a row starts, and where it ends
abbrev pub row_start_point : Row (List ℕ) → Point
row_start_point row = record { key = row.second; place = row.first }

abbrev pub row_end_point : Row (List ℕ) → Point
row_end_point row = record { key = row.second; place = row_end row }

abbrev pub starts_behind : Point → Row (List ℕ) → Bool
starts_behind point row = is_point_before point (row_start_point row)

abbrev pub ends_behind : Point → Row (List ℕ) → Bool
ends_behind point row = is_point_before point (row_end_point row)

-- the farthest end of rows: what comes before it comes before the end of some row
abbrev pub IsReach : List (Row (List ℕ)) → Point → Type 0
IsReach rows reach = (point : Point) → is_point_before point reach ≡ list_any (ends_behind point) rows

-- how far the first rows reach, for each number of them
pub record AreReaches (rows : List (Row (List ℕ))) (reaches : List Point) : Type 0 where
  pub counted : length reaches ≡ length rows + 1
  pub each : (k : ℕ) (d : Point) → k < length reaches → IsReach (take k rows) (slice_index_or reaches k d)

-- how far the rows reach that start at a point or before it: they are the first ones, and the others start behind it
pub record IsReachAt (rows : List (Row (List ℕ))) (point reach : Point) : Type 0 where
  pub at : ℕ
  pub up_to : All (λ row. starts_behind point row ≡ false) (take at rows)
  pub behind : All (λ row. starts_behind point row ≡ true) (drop at rows)
  pub is : IsReach (take at rows) reach

-- some row is the key's and its span has the address
abbrev pub IsCoveredBy : List (Row (List ℕ)) → List ℕ → List ℕ → Type 0
IsCoveredBy rows key address = IsTrue (list_any (covers key address) rows)

-- so are all bytes of the run, for the document that shows it
abbrev pub IsRunCoveredBy : List (Row (List ℕ)) → Run → Type 0
IsRunCoveredBy rows run = All (IsCoveredBy rows run.origin) (addresses_from 1 run.content run.first run.length)
