-- Runs of content where they stand in a text, and their bytes as numbers.
use Rattle.std.specs.Prelude.{◌≡◌, ℕ, ◌+◌, ◌-◌, ◌*◌, ◌<◌, ◌≤◌, ◌==◌, ◌&&◌, Bool, List, [], ◌∷◌, map, All, nat_le, nat_lt, if◌then◌else◌, None}
use Rattle.std.specs.List.{AllPairs, flat_map, list_any}
use Rattle.std.specs.Option.{unwrap_or}
use Rattle.std.specs.BTreeMap.{BTreeMap, get, btree_map_len}
use Rattle.std.specs.Ordering.{nat_cmp}
use Rattle.std.specs.Cmp.Lexicographic.{slice_cmp}
use Rattle.tumbler.specs.declared.span.Span.{Span}
use Rattle.tumbler.specs.Span.{end_of}
use Rattle.poom.specs.Pieces.{addresses_from}
use Rattle.world_rules.specs.declared.rows.Row.{Row}
use Rattle.world_rules.specs.Edits.{new_rows}
use Rattle.world_rules.specs.Picking.{is_between, content_of, number_of}
use Rattle.poom_compare.specs.declared.positions.Interval.{Interval}
use Rattle.poom_compare.specs.declared.placing.Placed.{Placed}
use Rattle.poom_compare.specs.declared.segment.Segment.{Segment}
use Rattle.poom_compare.specs.declared.stretch.Stretch.{Stretch}

-- ---- positions

-- the position is in the interval
abbrev pub is_in : ℕ → Interval → Bool
is_in n interval = nat_le interval.from n && nat_lt n interval.to

abbrev pub is_in_some : List Interval → ℕ → Bool
is_in_some intervals n = list_any (is_in n) intervals

-- the span picks the position of a text
abbrev pub is_picked_at : ℕ → Span → Bool
is_picked_at n span = is_between span.start (end_of span) (1 ∷ n ∷ [])

-- some span does
abbrev pub is_picked_at_by : List Span → ℕ → Bool
is_picked_at_by spans n = list_any (is_picked_at n) spans

-- of a text's positions, the interval has those that the span picks
pub record IsIntervalOf (long : ℕ) (span : Span) (interval : Interval) : Type 0 where
  pub from_one : 1 ≤ interval.from
  pub to_end : interval.to ≤ long + 1
  pub same : (n : ℕ) → 1 ≤ n → n ≤ long → is_in n interval ≡ is_picked_at n span

-- some positions of a text, and not none
pub record IsInterval (long : ℕ) (interval : Interval) : Type 0 where
  pub from_one : 1 ≤ interval.from
  pub some : interval.from < interval.to
  pub to_end : interval.to ≤ long + 1

-- the intervals come one after another, with positions between them
abbrev pub AreApart : List Interval → Type 0
AreApart intervals = AllPairs (λ (a : Interval) (b : Interval). a.to < b.from) intervals

-- all positions of a text that spans pick, as intervals that come one after another
pub record AreIntervalsOf (long : ℕ) (spans : List Span) (intervals : List Interval) : Type 0 where
  pub each : All (IsInterval long) intervals
  pub apart : AreApart intervals
  pub same : (n : ℕ) → 1 ≤ n → n ≤ long → is_in_some intervals n ≡ is_picked_at_by spans n

-- ---- runs at their positions

-- the rows of a run, position by position
abbrev pub rows_at : Placed → List Row
rows_at placed = new_rows [] placed.at (addresses_from 1 placed.document placed.first placed.length)

abbrev pub rows_laid : List Placed → List Row
rows_laid all = flat_map rows_at all

-- positions and bytes count from 1 and are below their bounds, and a run is not empty
pub record IsPlaced (placed : Placed) : Type 0 where
  pub at_from_one : 1 ≤ placed.at
  pub filled : 1 ≤ placed.length
  pub ends : placed.at + placed.length ≤ 1073741825
  pub from_one : 1 ≤ placed.first
  pub fits : placed.first + placed.length < 4294967296

-- ---- numbers

-- the number of a document's content, from 1, or 0 where it has none yet
abbrev pub number_in : BTreeMap (List ℕ) ℕ → List ℕ → ℕ
number_in numbers document = unwrap_or (get (slice_cmp nat_cmp) numbers document) 0

-- numbers that are given are those up to how many there are, and each is that of one document
pub record AreNumbers (numbers : BTreeMap (List ℕ) ℕ) : Type 0 where
  pub few : btree_map_len numbers ≤ 1073741823
  pub upto : (document : List ℕ) → number_in numbers document ≤ btree_map_len numbers
  pub none : (document : List ℕ) → number_in numbers document ≡ 0 → get (slice_cmp nat_cmp) numbers document ≡ None
  pub apart : (a b : List ℕ) → 1 ≤ number_in numbers a → number_in numbers a ≡ number_in numbers b → a ≡ b

-- numbers that were given stay
abbrev pub KeepsNumbers : (old new : BTreeMap (List ℕ) ℕ) → Type 0
KeepsNumbers old new = (document : List ℕ) → 1 ≤ number_in old document → number_in new document ≡ number_in old document

-- the document has a number, and one below the bound
pub record HasNumber (numbers : BTreeMap (List ℕ) ℕ) (document : List ℕ) : Type 0 where
  pub from_one : 1 ≤ number_in numbers document
  pub below : number_in numbers document < 1073741824

-- each content has so many numbers, one for each byte that it may have
abbrev pub stretch_of : BTreeMap (List ℕ) ℕ → Placed → Stretch
stretch_of numbers placed = record { at = placed.at; first = number_in numbers placed.document * 4294967296 + placed.first; length = placed.length }

-- the runs with their bytes as numbers
pub record AreStretchesOf (numbers : BTreeMap (List ℕ) ℕ) (all : List Placed) (stretches : List Stretch) : Type 0 where
  pub is : stretches ≡ map (stretch_of numbers) all
  pub numbered : All (λ (placed : Placed). HasNumber numbers placed.document) all

-- positions ascend
abbrev pub RowsAscend : List Row → Type 0
RowsAscend rows = AllPairs (λ (row : Row) (later : Row). row.n < later.n) rows

-- ---- texts

-- what a text of these stretches shows at a position, or 0
abbrev pub text_of : List Stretch → ℕ → ℕ
text_of [] x = 0
text_of (s ∷ stretches) x = if nat_le s.at x && nat_lt x (s.at + s.length) then s.first + (x - s.at) else text_of stretches x

-- a stretch of the text, with what is beside it
abbrev pub segment_of : List Stretch → Stretch → Segment
segment_of stretches s = record { at = s.at; first = s.first; length = s.length; before = text_of stretches (s.at - 1); after = text_of stretches (s.at + s.length) }

-- positions and numbers count from 1 and are below their bounds, and none is empty
pub record IsStretch (s : Stretch) : Type 0 where
  pub from_one : 1 ≤ s.at
  pub filled : 1 ≤ s.length
  pub ends : s.at + s.length ≤ 2147483648
  pub numbered : 1 ≤ s.first
  pub numbers_end : s.first + s.length ≤ 4611686018427387904

-- stretches of a text, one after another
pub record AreStretches (stretches : List Stretch) : Type 0 where
  pub each : All IsStretch stretches
  pub ascend : AllPairs (λ (a : Stretch) (b : Stretch). a.at + a.length ≤ b.at) stretches

-- ---- rows as numbers

-- the number of a content byte's address
abbrev pub code_of : BTreeMap (List ℕ) ℕ → List ℕ → ℕ
code_of numbers address = number_in numbers (content_of address) * 4294967296 + number_of address

-- what rows show at a position, as numbers, or 0
abbrev pub shown : BTreeMap (List ℕ) ℕ → List Row → ℕ → ℕ
shown numbers [] x = 0
shown numbers (row ∷ rows) x = if row.n == x then code_of numbers row.address else shown numbers rows x
