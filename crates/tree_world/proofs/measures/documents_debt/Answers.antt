use Rattle.std.proofs.Common.{◌<◌, min, ap, sym, subst, ◌∙◌}
use Rattle.enfilade_core.specs.Summary.{most_count}
use Rattle.enfilade_core.specs.BalanceState.{tree_debt}
use Rattle.tree_world.proofs.Measured.{debt_more}
use Rattle.tree_world.proofs.measures.documents_debt.Goals as goal

pub loop-k-preserved : goal.loop-k-preserved
loop-k-preserved c =
    debt_more c.args.pooms.now c.args.documents.now c.loop-k.k c.loop-k.owed c.saturating_add-owed.result c.debt.result c.in-Some.root
    (subst (λ n. c.loop-k.k < n) c.len-k-end.ensures.value c.loop-k-test.true) (sym c.root_at.ensures ∙ c.in-Some.is) c.loop-k.invariant
    (c.debt.ensures ∙ ap (λ nodes. min (tree_debt nodes c.in-Some.root.0) most_count) c.arena.ensures) c.saturating_add-owed.ensures
