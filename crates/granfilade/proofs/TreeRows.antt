-- The rows of an empty tree, and of a tree of which later nodes are dropped.
use Rattle.std.proofs.Common.{◌≡◌, ℕ, ◌<◌, List, [], ◌∷◌, ◌++◌, length, get_or, take, ap, ◌∙◌, sym}
use Rattle.std.proofs.lemmas.List.{get_or-take}
use Rattle.enfilade_core.specs.declared.tree.Row.{Row}
use Rattle.enfilade_core.specs.Rows.{Shape, Rows, rows_in, rows_table, rows_of}
use Rattle.enfilade_core.proofs.Tables.{table-none, table-push, table-take}

pub rows-kept : {L : Type 0} (nodes now : List (Shape L)) (n k : ℕ) → now ≡ take n nodes → k < n → rows_of now k ≡ rows_of nodes k
rows-kept nodes now n k is lt =
    ap (λ ns. rows_of ns k) is ∙ ap (λ t. get_or t k []) (sym (table-take rows_in n nodes)) ∙ get_or-take n (rows_table nodes) k [] lt

pub rows-empty : {L : Type 0} (old nodes : List (Shape L)) (root : ℕ) → old ≡ [] → nodes ≡ old ++ Rows [] ∷ [] → root ≡ length old → rows_of nodes root ≡ []
rows-empty {L} old nodes root none is at =
    ap (λ (ns : List (Shape L)). rows_of ns root) is
    ∙ ap (rows_of (old ++ Rows [] ∷ [])) at
    ∙ ap (λ (ns : List (Shape L)). rows_of (ns ++ Rows [] ∷ []) (length ns)) none
    ∙ ap (λ (t : List (List (Row L))). get_or t 0 []) (table-push rows_in [] (Rows []))
    ∙ ap (λ (t : List (List (Row L))). get_or (t ++ [] ∷ []) 0 []) (table-none rows_in)
