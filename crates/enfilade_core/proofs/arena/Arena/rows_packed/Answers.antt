use Rattle.std.proofs.Common.{◌≡◌, ◌∙◌, map}
use Rattle.std.proofs.lemmas.Result.{IfOk-weaker}
use Rattle.enfilade_core.specs.Rows.{Rows}
use Rattle.enfilade_core.specs.Plain.{plain_row}
use Rattle.enfilade_core.specs.Exchange.{IsPacked}
use Rattle.enfilade_core.specs.Packing.{IsPlaced}
use Rattle.enfilade_core.proofs.PackedRows.{seen-if_all_before, tumbler-before, rows-may_stand, rows-packed, map_some}
use Rattle.enfilade_core.specs.BalanceState.{balance_states, balance_state_in, balance_state_of}
use Rattle.enfilade_core.specs.Packing.{back}
use Rattle.enfilade_core.proofs.Stood.{rows-stand}
use Rattle.enfilade_core.proofs.arena.Arena.rows_packed.Goals as goal

pub placed-requires : goal.placed-requires
placed-requires g c =
    let plain = plain_row g.P.Plane.plain in
    let rows = map plain c.args.rows.now in
    let first = c.first_before-first in
    let second = c.second_before-second in
    let some = map_some plain c.args.rows.now c.requires.some in
    rows-may_stand g.P.Plane.widths g.met.P.Plane.widths_stay c.args.self.now first.result second.result rows (map plain c.in_ok-made.made.items)
    (tumbler-before (λ row. row.first) first.result rows some first.ensures) (tumbler-before (λ row. row.second) second.result rows some second.ensures)
    some c.requires.well_formed (seen-if_all_before g.P.Plane.widths first.result second.result rows first.ensures second.ensures c.requires.well_formed.each) c.in_ok-made.ensures

pub returns-clause-packed : goal.returns-clause-packed
returns-clause-packed g c =
    let plain = plain_row g.P.Plane.plain in
    let old = c.args.self.now in
    let new = c.placed.new.self in
    let rows = map plain c.args.rows.now in
    let first = c.first_before-first in
    let second = c.second_before-second in
    IfOk-weaker c.placed.result (IsPlaced g.P.Plane.widths old new (Rows (map plain c.in_ok-made.made.items)) first.result second.result) (IsPacked g.P.Plane.widths old new (Rows rows)) (λ branch placed.
    rows-packed g.P.Plane.widths old new first.result second.result rows (map plain c.in_ok-made.made.items) branch
    (seen-if_all_before g.P.Plane.widths first.result second.result rows first.ensures second.ensures c.requires.well_formed.each) c.in_ok-made.ensures placed) c.placed.ensures.placed

pub returns-clause-balance_state : goal.returns-clause-balance_state
returns-clause-balance_state g c =
    let plain = plain_row g.P.Plane.plain in
    let told = balance_states c.args.self.now in
    let new = c.placed.new.self in
    let rows = map plain c.args.rows.now in
    let made = map plain c.in_ok-made.made.items in
    IfOk-weaker c.placed.result (λ branch. balance_state_of new branch.node.0 ≡ balance_state_in told (Rows made)) (λ branch. balance_state_of new branch.node.0 ≡ balance_state_in told (Rows rows))
    (λ branch is. is ∙ rows-stand told (back c.first_before-first.result c.second_before-second.result) rows made c.in_ok-made.ensures) c.placed.ensures.balance_state
