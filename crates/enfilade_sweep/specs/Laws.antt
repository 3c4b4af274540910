-- Laws of what is reached.
use Rattle.std.specs.Prelude.{◌≡◌, ◌↔◌, ℕ, List, IsTrue}
use Rattle.enfilade_core.specs.Rows.{Shape}
use Rattle.enfilade_sweep.specs.Sweep.{Reached, AllReached, is_reached, unreached_count}

-- the nodes that are counted as reached are those that are
abbrev pub ReachedAreCounted : {L : Type 0} → List (Shape L) → Type 0
ReachedAreCounted nodes = (roots : List ℕ) (k : ℕ) → IsTrue (is_reached nodes roots k) ↔ Reached nodes roots k

-- where the count leaves no node over, each is reached
abbrev pub NoneIsLeft : {L : Type 0} → List (Shape L) → Type 0
NoneIsLeft nodes = (roots : List ℕ) → unreached_count nodes roots ≡ 0 → AllReached nodes roots
