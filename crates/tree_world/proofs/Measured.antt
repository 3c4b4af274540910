-- What a walk over documents adds up: what their trees owe, and how deep the deepest is.
use Rattle.std.proofs.Common.{◌≡◌, ℕ, ◌+◌, ◌<◌, min, max, List, length, get_or, take, Option, Some, None, refl, arith, ap, sym, ◌∙◌}
use Rattle.std.specs.List.{slice_get}
use Rattle.std.specs.Option.{option_map}
use Rattle.std.proofs.lemmas.Option.{get_or_from_slice_get}
use Rattle.std.proofs.lemmas.List.Sums.{sum_by_more, fold_more}
use Rattle.enfilade_core.specs.declared.tree.Node.{Node}
use Rattle.enfilade_core.specs.Rows.{Shape}
use Rattle.enfilade_core.specs.Planes.{text_widths}
use Rattle.enfilade_core.specs.BalanceState.{tree_debt}
use Rattle.enfilade_core.specs.Summary.{depth_of, most_count}
use Rattle.doc_table.specs.declared.rows.DocumentRow.{DocumentRow}
use Rattle.tree_world.specs.Condition.{documents_debt, documents_depth}
use Rattle.tree_world.proofs.Options.{one_value, none_there}

-- the row at k, whose root is read
record HasRoot (rows : List (DocumentRow Node)) (k : ℕ) (root : Node) : Type 0 where
  row : DocumentRow Node
  here : get_or rows k row ≡ row
  is : row.root ≡ root

root_at : (rows : List (DocumentRow Node)) (k : ℕ) (root : Node) (found : Option (DocumentRow Node)) → slice_get rows k ≡ found → option_map (λ (row : DocumentRow Node). row.root) found ≡ Some root → HasRoot rows k root
root_at rows k root None e read = absurd (none_there root (sym read))
root_at rows k root (Some row) e read = record { row = row; here = get_or_from_slice_get rows k row row e; is = one_value row.root root read }

pub debt_more : (nodes : List (Shape ℕ)) (rows : List (DocumentRow Node)) (k owed next d : ℕ) (root : Node) → k < length rows
    → option_map (λ (row : DocumentRow Node). row.root) (slice_get rows k) ≡ Some root
    → owed ≡ min (documents_debt nodes (take k rows)) most_count → d ≡ min (tree_debt nodes root.0) most_count
    → next ≡ min (owed + d) most_count → next ≡ min (documents_debt nodes (take (k + 1) rows)) most_count
debt_more nodes rows k owed next d root lt read so_far is value =
    let found = root_at rows k root (slice_get rows k) refl read in
    let more : documents_debt nodes (take (k + 1) rows) ≡ documents_debt nodes (take k rows) + tree_debt nodes (get_or rows k found.row).root.0 = sum_by_more (λ (row : DocumentRow Node). tree_debt nodes row.root.0) rows k found.row lt in
    let here : tree_debt nodes (get_or rows k found.row).root.0 ≡ tree_debt nodes root.0 = ap (λ (row : DocumentRow Node). tree_debt nodes row.root.0) found.here ∙ ap (λ (n : Node). tree_debt nodes n.0) found.is in
    omega (arith, more, here, so_far, is, value)

pub depth_more : (nodes : List (Shape ℕ)) (rows : List (DocumentRow Node)) (k deepest next d : ℕ) (root : Node) → k < length rows
    → option_map (λ (row : DocumentRow Node). row.root) (slice_get rows k) ≡ Some root
    → deepest ≡ min (documents_depth nodes (take k rows)) 4294967295 → d ≡ min (depth_of text_widths nodes root.0) 4294967295
    → next ≡ max deepest d → next ≡ min (documents_depth nodes (take (k + 1) rows)) 4294967295
depth_more nodes rows k deepest next d root lt read so_far is value =
    let found = root_at rows k root (slice_get rows k) refl read in
    let more : documents_depth nodes (take (k + 1) rows) ≡ max (documents_depth nodes (take k rows)) (depth_of text_widths nodes (get_or rows k found.row).root.0) = fold_more (λ depth (row : DocumentRow Node). max depth (depth_of text_widths nodes row.root.0)) 0 rows k found.row lt in
    let here : depth_of text_widths nodes (get_or rows k found.row).root.0 ≡ depth_of text_widths nodes root.0 = ap (λ (row : DocumentRow Node). depth_of text_widths nodes row.root.0) found.here ∙ ap (λ (n : Node). depth_of text_widths nodes n.0) found.is in
    omega (arith, more, here, so_far, is, value)
