-- Which nodes are marked, by their numbers, while a sweep looks for what its roots reach.
use Rattle.std.specs.Prelude.{◌≡◌, ◌⊎◌, ◌↔◌, ℕ, ◌≤◌, Bool, List, length, IsTrue}
use Rattle.std.specs.List.{Contains}
use Rattle.enfilade_core.specs.Rows.{Shape, node_at}
use Rattle.enfilade_core.specs.NewNumbers.{under, is_marked}
use Rattle.enfilade_sweep.specs.Sweep.{Reached}

-- these are marked too, and no others
abbrev pub MarksMore : List ℕ → (old new : List Bool) → Type 0
MarksMore more old new = (k : ℕ) → IsTrue (is_marked new k) ↔ (IsTrue (is_marked old k) ⊎ Contains more k)

-- what is marked is reached, the roots are marked, and so is what hangs under marked nodes from number n on
pub record AreMarked {L : Type 0} (nodes : List (Shape L)) (roots : List ℕ) (marks : List Bool) (n : ℕ) : Type 0 where
  pub long : length marks ≡ length nodes
  pub sound : (k : ℕ) → IsTrue (is_marked marks k) → Reached nodes roots k
  pub rooted : (k : ℕ) → Contains roots k → IsTrue (is_marked marks k)
  pub closed : (j k : ℕ) → n ≤ j → IsTrue (is_marked marks j) → Contains (under (node_at nodes j)) k → IsTrue (is_marked marks k)
