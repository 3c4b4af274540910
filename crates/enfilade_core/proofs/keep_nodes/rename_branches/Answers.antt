use Rattle.std.proofs.Common.{◌≡◌, ◌∙◌, get_or, set}
use Rattle.std.proofs.lemmas.List.{get_or_default}
use Rattle.enfilade_core.specs.declared.tree.Branch.{Branch}
use Rattle.enfilade_core.specs.NewNumbers.{renamed_branch}
use Rattle.enfilade_core.proofs.Changed.{changed_reads, changed_next}
use Rattle.enfilade_core.proofs.keep_nodes.rename_branches.Goals as goal

pub loop-k-preserved : goal.loop-k-preserved
loop-k-preserved c =
    let f : Branch → Branch = renamed_branch (λ i. get_or c.args.ranks.now i 0) in
    let olds = c.args.branches.now in
    let nows = c.loop-k.branches in
    let k = c.loop-k.k in
    let d = c.index-branches-k.result in
    let other = c.index-branches-k-in-loop-k.result in
    let named : get_or nows k d ≡ get_or olds k d = changed_reads f olds k d c.loop-k-test.true nows c.loop-k.invariant in
    let rest : get_or nows k other ≡ get_or olds k d = changed_reads f olds k other c.loop-k-test.true nows c.loop-k.invariant ∙ get_or_default olds k other d c.loop-k-test.true in
    (λ i. set nows k (record (rest i) { node = record { 0 = get_or c.args.ranks.now (named i).node.0 0 } })) ∙ changed_next f olds k d c.loop-k-test.true nows c.loop-k.invariant
