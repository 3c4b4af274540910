-- Nodes while the marked ones are moved to the front of their list. Only private functions cite this.
use Rattle.std.specs.Prelude.{◌≡◌, ℕ, ◌<◌, ◌≤◌, Bool, List, length, All, slice_index_or, IsTrue}
use Rattle.enfilade_core.specs.declared.tree.Branch.{Branch}
use Rattle.enfilade_core.specs.declared.stored_node.StoredNode.{StoredNode}
use Rattle.enfilade_core.specs.Rows.{Shape, branches_under}
use Rattle.enfilade_core.specs.Plain.{shape}
use Rattle.enfilade_core.specs.NewNumbers.{renamed, is_marked, rank}

-- all nodes that hang under a node have numbers below n
abbrev pub HangBelow : {L : Type 0} → ℕ → Shape L → Type 0
HangBelow n node = All (λ (branch : Branch). branch.node.0 < n) (branches_under node)

-- a node as it was, but for the numbers of what hangs under it
pub record IsRenamed {L : Type 0} (plain : L → L) (place : ℕ → ℕ) (old new : StoredNode L) : Type 0 where
  pub children : shape plain new.children ≡ renamed place (shape plain old.children)
  pub summary : new.summary ≡ old.summary
  pub balance_state : new.balance_state ≡ old.balance_state

-- of the nodes before number n the marked ones are each at their place, and those from there on where they were
pub record AreMoved {L : Type 0} (plain : L → L) (marks : List Bool) (place : ℕ → ℕ) (old new : List (StoredNode L)) (n : ℕ) : Type 0 where
  pub long : length new ≡ length old
  pub moved : (k : ℕ) (d : StoredNode L) → k < n → IsTrue (is_marked marks k) → IsRenamed plain place (slice_index_or old k d) (slice_index_or new (rank marks k) d)
  pub later : (k : ℕ) (d : StoredNode L) → n ≤ k → k < length old → slice_index_or new k d ≡ slice_index_or old k d
