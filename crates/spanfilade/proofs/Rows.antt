-- The rows of a tree.
use Rattle.std.proofs.Common.{◌≡◌, ℕ, ◌<◌, List, [], ◌∷◌, ◌++◌, length, get_or, ap, sym, ◌∙◌, refl, map, arith, append_assoc, length-append}
use Rattle.std.proofs.lemmas.List.{get_or_push, append-nil}
use Rattle.enfilade_core.specs.declared.tree.Row.{Row}
use Rattle.enfilade_core.specs.Rows.{Shape, Rows, rows_in, rows_table, rows_of}
use Rattle.enfilade_core.specs.Exchange.{Grows}
use Rattle.enfilade_core.specs.Edits.{KeepsRows}
use Rattle.enfilade_core.specs.Plain.{plain_row}
use Rattle.enfilade_core.proofs.Tables.{table-push, length-table}

pub empty_rows : (old new : List (Shape (List ℕ))) (k : ℕ) → new ≡ old ++ Rows [] ∷ [] → k ≡ length old → rows_of new k ≡ []
empty_rows old new k e at =
    ap (λ (nodes : List (Shape (List ℕ))). rows_of nodes k) e
    ∙ (ap (λ table. get_or table k []) (table-push rows_in old (Rows []))
    ∙ get_or_push (rows_table old) [] [] k (length-table rows_in old ∙ sym at))

-- a row of this plane is as plain as it is
pub plain_rows : (rows : List (Row (List ℕ))) → map (plain_row (λ (width : List ℕ). width)) rows ≡ rows
plain_rows [] = refl
plain_rows (row ∷ rows) = ap (λ (rs : List (Row (List ℕ))). row ∷ rs) (plain_rows rows)

pub grows_none : (nodes : List (Shape (List ℕ))) → Grows nodes nodes
grows_none nodes = record { more = []; is = sym (append-nil nodes) }

-- ---- nodes that come in, once more

pub grows_again : (old mid new : List (Shape (List ℕ))) → Grows old mid → Grows mid new → Grows old new
grows_again old mid new first then = record {
  more = first.more ++ then.more;
  is = then.is ∙ ap (λ (nodes : List (Shape (List ℕ))). nodes ++ then.more) first.is ∙ append_assoc old first.more then.more;
}

grown_below : (old new : List (Shape (List ℕ))) (k : ℕ) → Grows old new → k < length old → k < length new
grown_below old new k g lt = let long = ap length g.is ∙ length-append old g.more in omega (arith, long, lt)

pub keeps_again : (old mid new : List (Shape (List ℕ))) → Grows old mid → KeepsRows old mid → KeepsRows mid new → KeepsRows old new
keeps_again old mid new g first then k lt = then k (grown_below old mid k g lt) ∙ first k lt
