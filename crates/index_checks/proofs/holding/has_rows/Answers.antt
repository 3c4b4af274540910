use Rattle.std.proofs.Common.{◌≡◌, List, ℕ, length, arith, sym, ◌∙◌, subst, true≢false}
use Rattle.std.specs.List.Sorted.{IsPermutation}
use Rattle.std.proofs.lemmas.List.Sorted.{length_permutation}
use Rattle.enfilade_core.specs.declared.tree.Row.{Row}
use Rattle.enfilade_core.specs.Rows.{rows_of}
use Rattle.index_checks.proofs.RunRows.{compared}
use Rattle.index_checks.proofs.holding.has_rows.Goals as goal

pub returns-then-leaves-len : goal.returns-then-leaves-len
returns-then-leaves-len c =
    let rows = rows_of c.args.index.now c.args.root.0 in (
      λ t. absurd (true≢false (sym t)),
      λ moved. absurd (let same : length rows ≡ length c.args.wanted.items = length_permutation c.args.wanted.items rows moved in omega arith),
    )

pub returns : goal.returns
returns c =
    let rows = rows_of c.args.index.now c.args.root.0 in
    let held : IsPermutation c.in_ok-held.held.items c.in_ok-sorted.sorted.items = subst (λ (x : List (Row (List ℕ))). IsPermutation x c.in_ok-sorted.sorted.items) (c.in_ok-copied.ensures ∙ c.as_slice-unsorted.ensures) c.in_ok-sorted.ensures.moved in
    compared c.args.wanted.items rows c.in_ok-held.held.items c.in_ok-asked.asked.items c.in_ok-sorted.sorted.items c.are_same.result c.in_ok-held.ensures c.in_ok-asked.ensures.moved c.in_ok-asked.ensures.sorted held c.in_ok-sorted.ensures.sorted (
      λ t. sym c.as_slice-left.ensures.value ∙ c.are_same.ensures.0 t ∙ c.as_slice-right.ensures.value,
      λ same. c.are_same.ensures.1 (c.as_slice-left.ensures.value ∙ same ∙ sym c.as_slice-right.ensures.value),
    )
