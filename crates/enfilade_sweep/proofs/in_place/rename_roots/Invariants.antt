use Rattle.std.proofs.Common.{◌≡◌, ◌++◌, take, drop, map, get_or}
use Rattle.enfilade_core.specs.declared.tree.Node.{Node}
use Rattle.enfilade_sweep.proofs.in_place.rename_roots.Given as goal

abbrev pub invariant-loop-k : goal.invariant-loop-k
invariant-loop-k g l = l.roots ≡ map (λ (node : Node). record { 0 = get_or l.ranks node.0 0 }) (take l.k l.initial.roots) ++ drop l.k l.initial.roots
