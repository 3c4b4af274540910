-- Documents are counted in whatever order.
use Rattle.std.proofs.Common.{◌≡◌, ℕ, List, subst}
use Rattle.std.specs.Prelude.{IfOk}
use Rattle.world_rows.proofs.Turns.{next_moved}
use Rattle.world_rows.proofs.turned.TurnedWorldLookUp.next_version.Goals as goal

pub returns-clause-value : goal.returns-clause-value
returns-clause-value g c view of =
    subst (λ (next : List ℕ). IfOk c.next_version.result (λ document. document ≡ next)) (next_moved of.base.world.documents view.world.documents c.args.document.now of.turned.documents)
    (c.next_version.ensures.value of.base of.stood)
