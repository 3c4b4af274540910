-- What is kept of a bottom node is the same in every arena.
use Rattle.std.proofs.Common.{◌≡◌, ℕ, ◌<◌, ◌++◌, ◌∷◌, [], List, length, take, ap, ◌∙◌, sym, subst}
use Rattle.enfilade_core.specs.declared.tree.Row.{Row}
use Rattle.enfilade_core.specs.declared.stored_node.StoredNode.{StoredNode}
use Rattle.enfilade_core.specs.declared.summary.Summary.{Summary}
use Rattle.enfilade_core.specs.declared.balance_state.BalanceState.{BalanceState}
use Rattle.enfilade_core.specs.Rows.{Shape, Rows, node_at}
use Rattle.enfilade_core.specs.Axes.{Widths}
use Rattle.enfilade_core.specs.WellFormed.{IsWellFormed, AreWellFormed}
use Rattle.enfilade_core.specs.Summary.{summary_in, summaries, summary_of, kept, no_summary}
use Rattle.enfilade_core.specs.BalanceState.{balance_state_in, balance_states, balance_state_of, kept_balance_state, no_balance_state}
use Rattle.enfilade_core.specs.Plain.{shape}
use Rattle.enfilade_core.specs.StoredNode.{held_shapes, IsArena}
use Rattle.enfilade_core.proofs.Tables.{table-item}
use Rattle.enfilade_core.proofs.Arenas.{Added, arena-add}

bottom_well_formed : {L : Type 0} (w : Widths L) (nodes before : List (Shape L)) (k : ℕ) (rows : List (Row L)) → AreWellFormed w nodes → k < length nodes → node_at nodes k ≡ Rows rows → IsWellFormed w before (Rows rows)
bottom_well_formed w nodes before k rows well_formed lt is =
    let there : IsWellFormed w (take k nodes) (Rows rows) = subst (IsWellFormed w (take k nodes)) is (well_formed.each k lt) in
    record { branches = there.branches; first_origins = there.first_origins; second_origins = there.second_origins; rows = there.rows; ordered = there.ordered }

bottom_told : {L : Type 0} (w : Widths L) (nodes : List (Shape L)) (told : List Summary) (k : ℕ) (rows : List (Row L)) → k < length nodes → node_at nodes k ≡ Rows rows → summary_of w nodes k ≡ summary_in w told (Rows rows)
bottom_told w nodes told k rows lt is = table-item (summary_in w) nodes k no_summary lt ∙ ap (summary_in w (summaries w (take k nodes))) is

bottom_stood : {L : Type 0} (nodes : List (Shape L)) (told : List BalanceState) (k : ℕ) (rows : List (Row L)) → k < length nodes → node_at nodes k ≡ Rows rows → balance_state_of nodes k ≡ balance_state_in told (Rows rows)
bottom_stood nodes told k rows lt is = table-item balance_state_in nodes k no_balance_state lt ∙ ap (balance_state_in (balance_states (take k nodes))) is

-- a bottom node of another arena is added, with what is kept of it there
pub copy-added : {L : Type 0} (plain : L → L) (w : Widths L) (old new : List (StoredNode L)) (nodes others : List (Shape L)) (k : ℕ) (held : StoredNode L) → held_shapes plain old ≡ nodes → new ≡ old ++ held ∷ [] → IsArena plain w old
    → AreWellFormed w others → k < length others → (rows : List (Row L)) → node_at others k ≡ Rows rows → shape plain held.children ≡ Rows rows
    → held.summary ≡ kept (summary_of w others k) → held.balance_state ≡ kept_balance_state (balance_state_of others k) → Added plain w nodes new (node_at others k)
copy-added {L} plain w old new nodes others k held view pushed arena well_formed lt rows there is told stood =
    let node : shape plain held.children ≡ node_at others k = is ∙ sym there in
    subst (Added plain w nodes new) node
    (arena-add plain w old new nodes held view pushed arena (subst (IsWellFormed w nodes) (sym is) (bottom_well_formed w others nodes k rows well_formed lt there))
    (told ∙ ap kept (bottom_told w others (summaries w nodes) k rows lt there ∙ ap (summary_in w (summaries w nodes)) (sym is)))
    (stood ∙ ap kept_balance_state (bottom_stood others (balance_states nodes) k rows lt there ∙ ap (balance_state_in (balance_states nodes)) (sym is))))
