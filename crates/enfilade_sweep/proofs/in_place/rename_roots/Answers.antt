use Rattle.std.proofs.Common.{◌∙◌, ℕ, get_or, set, ap}
use Rattle.enfilade_core.specs.declared.tree.Node.{Node}
use Rattle.enfilade_core.proofs.Changed.{changed_reads, changed_next, changed_all}
use Rattle.enfilade_sweep.specs.Sweep.{numbers}
use Rattle.enfilade_sweep.proofs.Renamed.{renamed_numbers}
use Rattle.enfilade_sweep.proofs.in_place.rename_roots.Goals as goal

pub loop-k-preserved : goal.loop-k-preserved
loop-k-preserved g c =
    let f : Node → Node = λ (node : Node). record { 0 = get_or c.args.ranks.now node.0 0 } in
    let is = c.node_there.ensures ∙ ap (λ (node : Node). get_or c.args.ranks.now node.0 0) (changed_reads f c.args.roots.now c.loop-k.k _ c.loop-k-test.true c.loop-k.roots c.loop-k.invariant) in
    (λ i. set c.loop-k.roots c.loop-k.k (record { 0 = is i })) ∙ changed_next f c.args.roots.now c.loop-k.k _ c.loop-k-test.true c.loop-k.roots c.loop-k.invariant

pub returns : goal.returns
returns g c =
    let place : ℕ → ℕ = λ k. get_or c.args.ranks.now k 0 in
    ap numbers (changed_all (λ (node : Node). record { 0 = place node.0 }) c.args.roots.now c.loop-k.roots c.loop-k.k c.loop-k-test.false c.loop-k.invariant) ∙ renamed_numbers place c.args.roots.now
