-- What spans pick, and the runs of content that spec sets name.
use Rattle.std.specs.Prelude.{ℕ, ◌+◌, ◌-◌, ◌==◌, ◌&&◌, Bool, List, [], ◌∷◌, length, take, map, filter, slice_index, nat_le, nat_lt, if◌then◌else◌}
use Rattle.std.specs.List.{list_any, flat_map}
use Rattle.std.specs.Ordering.{nat_cmp, is_le, is_lt}
use Rattle.std.specs.Cmp.Lexicographic.{slice_cmp}
use Rattle.tumbler.specs.declared.span.Span.{Span}
use Rattle.tumbler.specs.Span.{end_of}
use Rattle.febe_data.specs.declared.run.Run.{Run}
use Rattle.febe_data.specs.Plain.{PlainSpec}
use Rattle.world_rules.specs.declared.rows.Row.{Row}
use Rattle.world_rules.specs.World.{World, is_same, is_text_of, is_link_of, v_address}

-- ---- spans

-- the address is at the start or after it, and before the end
abbrev pub is_between : List ℕ → List ℕ → List ℕ → Bool
is_between start end address = is_le (slice_cmp nat_cmp start address) && is_lt (slice_cmp nat_cmp address end)

-- the row's V-address is
abbrev pub is_within : List ℕ → List ℕ → Row → Bool
is_within start end row = is_between start end (v_address row)

-- a span picks the rows that are within it
abbrev pub picks : Span → Row → Bool
picks span row = is_within span.start (end_of span) row

-- the text rows of a document that a span picks, as they stand in the world: in the order of their V-addresses,
-- by a law of the histories that requests make
abbrev pub picked_text : World → List ℕ → Span → List Row
picked_text world document span = filter (λ row. is_text_of document row && picks span row) world.rows

-- the link rows that it picks
abbrev pub picked_links : World → List ℕ → Span → List Row
picked_links world document span = filter (λ row. is_link_of document row && picks span row) world.rows

-- ---- spec sets

-- some span of the spec picks the row of the document's text
abbrev pub is_picked_by : PlainSpec → Row → Bool
is_picked_by spec row = is_text_of spec.document row && list_any (λ (span : Span). picks span row) spec.spans

-- what some span of the spec picks of the document's text, each row once
abbrev pub picked_once : World → PlainSpec → List Row
picked_once world spec = filter (is_picked_by spec) world.rows

-- the I-addresses of rows
abbrev pub addresses_of : List Row → List (List ℕ)
addresses_of rows = map (λ (row : Row). row.address) rows

-- the I-addresses that the specs pick, span by span and with repeats
abbrev pub picked_by_spec : World → PlainSpec → List (List ℕ)
picked_by_spec world spec = flat_map (λ (span : Span). addresses_of (picked_text world spec.document span)) spec.spans

abbrev pub picked_addresses : World → List PlainSpec → List (List ℕ)
picked_addresses world specs = flat_map (picked_by_spec world) specs

-- ---- stretches

-- the first of some elements that follow each other, and how many there are
pub record Stretch (X : Type 0) : Type 0 where
  pub first : X
  pub count : ℕ

-- A list is cut into stretches wherever an element does not follow the one before it.
-- `first` begins the stretch that is open, `last` is the last of its `count` elements so far.
abbrev pub stretches_on : {X : Type 0} → (X → X → Bool) → (first last : X) → ℕ → List X → List (Stretch X)
stretches_on follows first last count [] = record { first = first; count = count } ∷ []
stretches_on follows first last count (x ∷ xs) =
    if follows last x then stretches_on follows first x (count + 1) xs else record { first = first; count = count } ∷ stretches_on follows x x 1 xs

abbrev pub stretches : {X : Type 0} → (X → X → Bool) → List X → List (Stretch X)
stretches follows [] = []
stretches follows (x ∷ xs) = stretches_on follows x x 1 xs

-- ---- runs

-- the document whose content byte the address is, and the number of the byte
abbrev pub content_of : List ℕ → List ℕ
content_of address = take (length address - 3) address

abbrev pub number_of : List ℕ → ℕ
number_of address = slice_index address (length address - 1)

-- the second address is the next byte of the same content
abbrev pub is_next_byte : List ℕ → List ℕ → Bool
is_next_byte a b = is_same (content_of a) (content_of b) && number_of b == number_of a + 1

-- the bytes of a stretch, picked through the document `origin`
abbrev pub run_of : List ℕ → Stretch (List ℕ) → Run
run_of origin stretch = record { origin = origin; content = content_of stretch.first; first = number_of stretch.first; length = stretch.count }

-- the runs of what one span of a document picks: no run crosses the border of a span
abbrev pub runs_of_span : World → List ℕ → Span → List Run
runs_of_span world document span = map (run_of document) (stretches is_next_byte (addresses_of (picked_text world document span)))

abbrev pub runs_of_spec : World → PlainSpec → List Run
runs_of_spec world spec = flat_map (runs_of_span world spec.document) spec.spans

-- the runs of a spec set, spec by spec and span by span
abbrev pub runs_of : World → List PlainSpec → List Run
runs_of world specs = flat_map (runs_of_spec world) specs

-- the address is one of the run's bytes
abbrev pub is_in_run : List ℕ → Run → Bool
is_in_run address run = is_same (content_of address) run.content && nat_le run.first (number_of address) && nat_lt (number_of address) (run.first + run.length)

abbrev pub is_in_runs : List Run → List ℕ → Bool
is_in_runs runs address = list_any (is_in_run address) runs

-- ---- intervals

-- text positions n to n + k - 1, as a span of V-addresses
abbrev pub interval : Stretch ℕ → Span
interval stretch = record { start = 1 ∷ stretch.first ∷ []; width = 0 ∷ stretch.count ∷ [] }

-- ascending positions as the fewest intervals
abbrev pub intervals : List ℕ → List Span
intervals positions = map interval (stretches (λ a b. b == a + 1) positions)

-- the positions of rows
abbrev pub places_of : List Row → List ℕ
places_of rows = map (λ (row : Row). row.n) rows
