-- The rows of two documents side by side.
use Rattle.std.proofs.Common.{◌≡◌, ℕ, ◌+◌, ◌-◌, ◌≤◌, ◌<◌, min, Bool, true, false, List, length, get_or, arith, ap, ◌∙◌, sym, subst}
use Rattle.std.specs.Prelude.{◌↔◌, IsTrue}
use Rattle.std.specs.List.{All}
use Rattle.std.proofs.lemmas.Bool.{iff_false}
use Rattle.std.proofs.lemmas.List.Elements.{All-weaker}
use Rattle.enfilade_core.specs.declared.tree.Row.{Row}
use Rattle.enfilade_core.proofs.GoneThrough.{item-well_formed}
use Rattle.granfilade.specs.Content.{so_far_on}
use Rattle.poom.specs.Laid.{IsOneDocument}
use Rattle.poom.specs.Positions.{IsPieceRow}
use Rattle.tree_compare.specs.declared.place.Place.{Place}
use Rattle.tree_compare.specs.RowAddresses.{row_addresses, addresses_of, address_count, ShowSame}
use Rattle.tree_compare.specs.inside.Rests.{IsBehind, AreBeside}
use Rattle.tree_compare.proofs.SideBySide.{IsStep, step-least, step-one, parts-differ, beside-on}
use Rattle.tree_compare.proofs.RowParts.{row-filled, row-counted, rows-same, rows-first, show-same, show-from}

filled : (rows : List (Row ℕ)) → All IsPieceRow rows → All (λ (row : Row ℕ). 1 ≤ address_count row) rows
filled rows each = All-weaker IsPieceRow (λ (row : Row ℕ). 1 ≤ address_count row) row-filled rows each

-- the rows do not show the same address
pub rows-apart : (one other : List (Row ℕ)) (left right : Place) (here there : Row ℕ) (met : Bool) → All IsPieceRow one → All IsPieceRow other → AreBeside row_addresses address_count one other left right → left.item < length one → (right.item ≡ length other → ⊥)
    → here ≡ get_or one left.item here → there ≡ get_or other right.item there → (IsTrue met ↔ so_far_on here.second left.within ≡ so_far_on there.second right.within) → met ≡ false → IsTrue false ↔ addresses_of one ≡ addresses_of other
rows-apart one other left right here there met each also beside lt differ at at_other told fails =
    let step = step-one row_addresses address_count one other left right here there row-counted beside lt differ at at_other in
    parts-differ row_addresses address_count one other left right here there 1 step
    (λ e. iff_false told fails
    (rows-first here there (item-well_formed IsPieceRow one left.item here step.in_one at each) (item-well_formed IsPieceRow other right.item there step.in_other at_other also) left.within right.within 1 (omega arith) step.fits_one step.fits_other e))

-- they do, and so many addresses are the same
pub rows-on : (one other : List (Row ℕ)) (left right next further : Place) (here there : Row ℕ) (n : ℕ) (met : Bool) → All IsPieceRow one → All IsPieceRow other → AreBeside row_addresses address_count one other left right → left.item < length one → (right.item ≡ length other → ⊥)
    → here ≡ get_or one left.item here → there ≡ get_or other right.item there → n ≡ min (here.leaf - left.within) (there.leaf - right.within) → (IsTrue met ↔ so_far_on here.second left.within ≡ so_far_on there.second right.within) → met ≡ true
    → IsBehind left n here.leaf next → IsBehind right n there.leaf further → AreBeside row_addresses address_count one other next further
rows-on one other left right next further here there n met each also beside lt differ at at_other is told holds behind beyond =
    let step = step-least row_addresses address_count one other left right here there n row-counted beside lt differ at at_other is in
    beside-on row_addresses address_count one other left right next further here there n step (filled one each) (filled other also)
    (rows-same here there (item-well_formed IsPieceRow one left.item here step.in_one at each) (item-well_formed IsPieceRow other right.item there step.in_other at_other also) left.within right.within n step.fits_one step.fits_other (told.0 holds)) behind beyond

-- what is told of the rows is told of the documents
pub same-told : (rows others slice also : List (Row ℕ)) (same : Bool) → IsOneDocument rows → IsOneDocument others → slice ≡ rows → also ≡ others → (IsTrue same ↔ addresses_of slice ≡ addresses_of also) → IsTrue same ↔ ShowSame rows others
same-told rows others slice also same one other is at told = (
  λ e. show-same rows others one other (sym (ap addresses_of is) ∙ told.0 e ∙ ap addresses_of at),
  λ e. told.1 (ap addresses_of is ∙ show-from rows others one other e ∙ sym (ap addresses_of at)),
)
