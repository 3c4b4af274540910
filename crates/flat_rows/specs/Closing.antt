-- What a delete leaves, told by how many rows of each part go.
use Rattle.std.specs.Prelude.{ℕ, ◌&&◌, Bool, not, List, map, filter, count_by, if◌then◌else◌}
use Rattle.std.specs.Ordering.{nat_cmp, is_lt}
use Rattle.std.specs.Cmp.Lexicographic.{slice_cmp}
use Rattle.world_rules.specs.declared.rows.Part.{Part}
use Rattle.world_rules.specs.declared.rows.Part.TheVariants.{Text, Links}
use Rattle.world_rules.specs.declared.rows.Row.{Row}
use Rattle.world_rules.specs.World.{is_same, v_address}
use Rattle.world_rules.specs.Picking.{is_within}
use Rattle.world_rules.specs.Edits.{is_same_part, down_by}

-- the row is one of the document's from the start up to the end
abbrev pub goes_within : (document start end : List ℕ) → Row → Bool
goes_within document start end row = is_same row.document document && is_within start end row

-- how many rows of a part go
abbrev pub going_within : List Row → (document start end : List ℕ) → Part → ℕ
going_within rows document start end part = count_by (λ row. goes_within document start end row && is_same_part part row.part) rows

abbrev pub is_before : List ℕ → Row → Bool
is_before end row = is_lt (slice_cmp nat_cmp (v_address row) end)

abbrev pub of_part : (text links : ℕ) → Part → ℕ
of_part text links Text = text
of_part text links Links = links

-- a row of the document that is not before the end has all that go of its part below it
abbrev pub closed_after : (document end : List ℕ) → (text links : ℕ) → Row → Row
closed_after document end text links row = if is_same row.document document && not (is_before end row) then down_by (of_part text links row.part) row else row

abbrev pub rows_left : List Row → (document start end : List ℕ) → (text links : ℕ) → List Row
rows_left rows document start end text links = map (closed_after document end text links) (filter (λ row. not (goes_within document start end row)) rows)
