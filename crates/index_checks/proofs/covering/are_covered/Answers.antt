use Rattle.std.proofs.Common.{List, ℕ, sym, ◌∙◌, subst}
use Rattle.std.specs.List.Sorted.{IsPermutation}
use Rattle.std.proofs.lemmas.List.Sorted.{IsPermutation-sym}
use Rattle.enfilade_core.specs.declared.tree.Row.{Row}
use Rattle.enfilade_core.specs.Rows.{rows_of}
use Rattle.index_checks.proofs.CoveredRows.{all_moved}
use Rattle.index_checks.proofs.RunRows.{as_read, read_well_formed, ok_alike}
use Rattle.index_checks.proofs.covering.are_covered.Goals as goal

pub rows_cover-requires-clause-well_formed : goal.rows_cover-requires-clause-well_formed
rows_cover-requires-clause-well_formed c =
    let rows = rows_of c.args.index.now c.args.root.0 in
    let held : IsPermutation c.in_ok-held.held.items c.in_ok-sorted.sorted.items = subst (λ (x : List (Row (List ℕ))). IsPermutation x c.in_ok-sorted.sorted.items) (c.in_ok-copied.ensures ∙ c.as_slice-unsorted.ensures) c.in_ok-sorted.ensures.moved in
    let moved : IsPermutation rows c.as_slice-rows.result.now = subst (IsPermutation rows) (sym c.as_slice-rows.ensures.value) (as_read rows c.in_ok-held.held.items c.in_ok-sorted.sorted.items c.in_ok-held.ensures held) in
    read_well_formed c.args.index.now c.args.root.0 c.as_slice-rows.result.now c.allocator-alloc.ensures.well_formed c.requires.root moved

pub returns : goal.returns
returns c =
    let rows = rows_of c.args.index.now c.args.root.0 in
    let held : IsPermutation c.in_ok-held.held.items c.in_ok-sorted.sorted.items = subst (λ (x : List (Row (List ℕ))). IsPermutation x c.in_ok-sorted.sorted.items) (c.in_ok-copied.ensures ∙ c.as_slice-unsorted.ensures) c.in_ok-sorted.ensures.moved in
    let moved : IsPermutation rows c.as_slice-rows.result.now = subst (IsPermutation rows) (sym c.as_slice-rows.ensures.value) (as_read rows c.in_ok-held.held.items c.in_ok-sorted.sorted.items c.in_ok-held.ensures held) in
    ok_alike c.rows_cover.result c.rows_cover.ensures (all_moved c.as_slice-rows.result.now rows (IsPermutation-sym rows c.as_slice-rows.result.now moved) c.args.shown.now)
