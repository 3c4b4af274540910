-- What is well formed in a row of bytes.
use Rattle.std.proofs.Common.{◌≡◌, ◌≢◌, ℕ, ◌+◌, ◌<◌, cond, List, [], length, get_or, map, refl, arith, ap, ◌∙◌, subst, inl, inr}
use Rattle.std.specs.List.{All}
use Rattle.std.proofs.lemmas.Bool.{cases_lt, lt-ltb, le-ltb}
use Rattle.tumbler.specs.ListView.{ListView}
use Rattle.tumbler.specs.Places.{place_bound, IsTumbler, sum, width_at}
use Rattle.tumbler.proofs.Alls.{All-unmapped}
use Rattle.tumbler.proofs.SumOrder.{fits_if_tumbler}
use Rattle.tumbler.proofs.Widths.{width_at-none}
use Rattle.enfilade_core.specs.declared.tree.Row.{Row}
use Rattle.enfilade_core.specs.Axes.{IsWellFormedRow}
use Rattle.enfilade_core.specs.Plain.{plain_row}
use Rattle.enfilade_core.specs.Planes.{as_place, content_widths, plain_text}
use Rattle.enfilade_core.proofs.Tells.{not_zero}
use Rattle.enfilade_core.proofs.GoneThrough.{item-well_formed}
use Rattle.granfilade.specs.Content.{so_far_on}
use Rattle.granfilade.specs.Steps.{last_of}
use Rattle.granfilade.proofs.Stepping.{room_if_fits}

pub row_filled : (row : Row (ListView ℕ)) → IsWellFormedRow content_widths row → row.first ≢ []
row_filled row well_formed = not_zero row.first (content_widths.first row) (well_formed.proper.0 refl)

wide : (row : Row (ListView ℕ)) → as_place (length row.leaf.items) ≡ 0 → content_widths.first row ≡ []
wide row none = ap (width_at (length row.first)) none ∙ width_at-none (length row.first)

-- fewer bytes than a place can say
pub row_short : (row : Row (ListView ℕ)) → IsWellFormedRow content_widths row → length row.leaf.items < place_bound
row_short row well_formed =
    let n = length row.leaf.items in
    elim (cases_lt n place_bound) [
      | inl lt ↦ lt
      | inr le ↦ absurd ((well_formed.proper.0 refl).0 (wide row (ap (λ b. cond b n 0) (le-ltb n place_bound le))))
    ]

pub row_wide : (row : Row (ListView ℕ)) → IsWellFormedRow content_widths row → as_place (length row.leaf.items) ≡ length row.leaf.items
row_wide row well_formed = let n = length row.leaf.items in ap (λ b. cond b n 0) (lt-ltb n place_bound (row_short row well_formed))

pub row_some : (row : Row (ListView ℕ)) → IsWellFormedRow content_widths row → 0 < length row.leaf.items
row_some row well_formed = elim (cases_lt 0 (length row.leaf.items)) [
  | inl lt ↦ lt
  | inr le ↦ let none : length row.leaf.items ≡ 0 = omega (arith, le) in
      absurd ((well_formed.proper.0 refl).0 (wide row (row_wide row well_formed ∙ none)))
]

-- where the row ends
pub row_end : (row : Row (ListView ℕ)) → IsWellFormedRow content_widths row → sum row.first (content_widths.first row) ≡ so_far_on row.first (length row.leaf.items)
row_end row well_formed = ap (λ n. so_far_on row.first n) (row_wide row well_formed)

pub row_room : (row : Row (ListView ℕ)) → IsWellFormedRow content_widths row → last_of row.first + length row.leaf.items < place_bound
row_room row well_formed =
    let n = length row.leaf.items in
    room_if_fits row.first n (row_filled row well_formed) (row_some row well_formed) (fits_if_tumbler row.first (width_at (length row.first) n) (subst IsTumbler (row_end row well_formed) well_formed.first_end))

-- a row of several
pub row_of : (rows : List (Row (ListView ℕ))) (i : ℕ) (row : Row (ListView ℕ)) → All (IsWellFormedRow content_widths) (map (plain_row plain_text) rows) → i < length rows → row ≡ get_or rows i row
    → IsWellFormedRow content_widths (plain_row plain_text row)
row_of rows i row all lt at =
    item-well_formed (λ r. IsWellFormedRow content_widths (plain_row plain_text r)) rows i row lt at (All-unmapped (IsWellFormedRow content_widths) (plain_row plain_text) rows all)
