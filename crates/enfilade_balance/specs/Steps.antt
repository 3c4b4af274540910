-- Steps of the balancer.
use Rattle.std.specs.Prelude.{Bool, true, false}
use Rattle.enfilade_core.specs.declared.tree.Node.{Node}
use Rattle.enfilade_balance.specs.declared.balance.Balance.{Balance}
use Rattle.enfilade_balance.specs.declared.balance.Balance.TheVariants.{Split, Merged, Dropped, Idle}

-- the root of a tree after a step
abbrev pub root_after : Node → Balance → Node
root_after root (Split made) = made
root_after root (Merged made) = made
root_after root (Dropped made) = made
root_after root Idle = root

-- whether no step was made
abbrev pub is_idle : Balance → Bool
is_idle (Split made) = false
is_idle (Merged made) = false
is_idle (Dropped made) = false
is_idle Idle = true

-- whether the root's one child came into its place
abbrev pub is_dropped : Balance → Bool
is_dropped (Split made) = false
is_dropped (Merged made) = false
is_dropped (Dropped made) = true
is_dropped Idle = false
