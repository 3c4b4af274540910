-- How an arena holds its nodes. Only the arena's own type cites this.
use Rattle.std.specs.Prelude.{◌≡◌, List, map}
use Rattle.enfilade_core.specs.declared.stored_node.StoredNode.{StoredNode}
use Rattle.enfilade_core.specs.declared.summary.Summary.{Summary}
use Rattle.enfilade_core.specs.declared.balance_state.BalanceState.{BalanceState}
use Rattle.enfilade_core.specs.Rows.{Shape}
use Rattle.enfilade_core.specs.Axes.{Widths}
use Rattle.enfilade_core.specs.WellFormed.{AreWellFormed}
use Rattle.enfilade_core.specs.Summary.{summaries, kept}
use Rattle.enfilade_core.specs.BalanceState.{balance_states, kept_balance_state}
use Rattle.enfilade_core.specs.Plain.{shape}

abbrev pub held_shapes : {L : Type 0} → (L → L) → List (StoredNode L) → List (Shape L)
held_shapes plain helds = map (λ held. shape plain held.children) helds

abbrev pub held_summaries : {L : Type 0} → List (StoredNode L) → List Summary
held_summaries helds = map (λ held. held.summary) helds

abbrev pub held_balance_states : {L : Type 0} → List (StoredNode L) → List BalanceState
held_balance_states helds = map (λ held. held.balance_state) helds

-- the nodes have well formed children, and what is kept beside them is so
pub record IsArena {L : Type 0} (plain : L → L) (w : Widths L) (helds : List (StoredNode L)) : Type 0 where
  pub well_formed : AreWellFormed w (held_shapes plain helds)
  pub told : held_summaries helds ≡ map kept (summaries w (held_shapes plain helds))
  pub stood : held_balance_states helds ≡ map kept_balance_state (balance_states (held_shapes plain helds))
