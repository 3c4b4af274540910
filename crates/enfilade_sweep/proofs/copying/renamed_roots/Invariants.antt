use Rattle.std.proofs.Common.{◌≡◌, take, map, get_or}
use Rattle.enfilade_sweep.specs.Sweep.{numbers}
use Rattle.enfilade_sweep.proofs.copying.renamed_roots.Given as goal

abbrev pub invariant-loop-root : goal.invariant-loop-root
invariant-loop-root g l = numbers l.made.items ≡ map (λ k. get_or l.ranks k 0) (numbers (take l.root-index l.roots))
