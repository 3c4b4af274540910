-- What changes do to the rows: filters and maps of one list.
use Rattle.std.specs.Prelude.{ℕ, zero, suc, ◌+◌, ◌-◌, ◌&&◌, Bool, not, List, [], ◌∷◌, ◌++◌, length, map, filter, count_by, nat_le, nat_lt, Option, Some, None, if◌then◌else◌}
use Rattle.tumbler.specs.declared.span.Span.{Span}
use Rattle.world_rules.specs.declared.rows.Part.{Part}
use Rattle.world_rules.specs.declared.rows.Part.TheVariants.{Text, Links}
use Rattle.world_rules.specs.declared.rows.Row.{Row}
use Rattle.world_rules.specs.declared.rows.ByteRow.{ByteRow}
pub use Rattle.world_rules.specs.declared.cuts.Cuts.{Cuts}
use Rattle.world_rules.specs.World.{is_same, is_text, is_text_of, content_address}
use Rattle.world_rules.specs.Picking.{picks}

-- a row, so many places further on
abbrev pub up_by : ℕ → Row → Row
up_by k row = record row { n = row.n + k }

-- a row, so many places further back
abbrev pub down_by : ℕ → Row → Row
down_by k row = record row { n = row.n - k }

-- ---- insert and copy

-- the rows of this document's text from n on make room
abbrev pub moves_up : List ℕ → ℕ → Row → Bool
moves_up document n row = is_text_of document row && nat_le n row.n

-- one text row for each address, at n and on
abbrev pub new_rows : List ℕ → ℕ → List (List ℕ) → List Row
new_rows document n [] = []
new_rows document n (address ∷ addresses) = record { document = document; part = Text; n = n; address = address } ∷ new_rows document (n + 1) addresses

-- the rows that stay, the new ones, and those that make room for them
abbrev pub rows_with : List Row → List ℕ → ℕ → List (List ℕ) → List Row
rows_with rows document n addresses =
    filter (λ row. not (moves_up document n row)) rows ++ new_rows document n addresses
    ++ map (up_by (length addresses)) (filter (moves_up document n) rows)

-- so many content addresses of a document, from number `first` on
abbrev pub content_addresses : List ℕ → ℕ → ℕ → List (List ℕ)
content_addresses document first zero = []
content_addresses document first (suc count) = content_address document first ∷ content_addresses document (first + 1) count

-- each new byte, at the content addresses from `first` on
abbrev pub new_bytes : List ℕ → ℕ → List ℕ → List ByteRow
new_bytes document first [] = []
new_bytes document first (b ∷ text) = record { address = content_address document first; byte = b } ∷ new_bytes document (first + 1) text

-- ---- delete

-- the span picks the row from the document
abbrev pub goes : List ℕ → Span → Row → Bool
goes document span row = is_same row.document document && picks span row

abbrev pub is_same_part : Part → Part → Bool
is_same_part Text part = is_text part
is_same_part Links part = not (is_text part)

-- how many rows of its part go from below a row
abbrev pub gone_below : List Row → List ℕ → Span → Row → ℕ
gone_below rows document span row = count_by (λ other. goes document span other && is_same_part row.part other.part && nat_lt other.n row.n) rows

-- a row of the document closes up by as many
abbrev pub closed_up : List Row → List ℕ → Span → Row → Row
closed_up rows document span row = if is_same row.document document then down_by (gone_below rows document span row) row else row

-- the rows that do not go, closed up
abbrev pub rows_without : List Row → List ℕ → Span → List Row
rows_without rows document span = map (closed_up rows document span) (filter (λ row. not (goes document span row)) rows)

-- ---- rearrange

-- three cuts bound two blocks that touch, four cuts two blocks with rows between them
abbrev pub cuts_of : List ℕ → Option Cuts
cuts_of (a ∷ b ∷ c ∷ []) = if nat_le a b && nat_le b c then Some (record { first = a; second = b; third = b; fourth = c }) else None
cuts_of (a ∷ b ∷ c ∷ d ∷ []) = if nat_le a b && nat_le b c && nat_le c d then Some (record { first = a; second = b; third = c; fourth = d }) else None
cuts_of other = None

-- the document's text from `low` up to, but without, `high`
abbrev pub is_in_block : List ℕ → ℕ → ℕ → Row → Bool
is_in_block document low high row = is_text_of document row && nat_le low row.n && nat_lt row.n high

abbrev pub block : List Row → List ℕ → ℕ → ℕ → List Row
block rows document low high = filter (is_in_block document low high) rows

-- The two outer blocks change places, and what is between them moves by the difference of their lengths.
-- In a list of rows in the order of their places, the rows stand in that order again.
abbrev pub rows_swapped : List Row → List ℕ → Cuts → List Row
rows_swapped rows document cuts =
    filter (λ row. not (moves_up document cuts.first row)) rows
    ++ map (down_by (cuts.third - cuts.first)) (block rows document cuts.third cuts.fourth)
    ++ map (λ row. down_by (cuts.second - cuts.first) (up_by (cuts.fourth - cuts.third) row)) (block rows document cuts.second cuts.third)
    ++ map (up_by (cuts.fourth - cuts.second)) (block rows document cuts.first cuts.second)
    ++ filter (moves_up document cuts.fourth) rows

-- ---- version

-- a row, at the same place of another document
abbrev pub moved_to : List ℕ → Row → Row
moved_to document row = record row { document = document }

-- the rows of a document, as those of another
abbrev pub rows_as : List Row → List ℕ → List ℕ → List Row
rows_as rows source document = map (moved_to document) (filter (λ row. is_same row.document source) rows)
