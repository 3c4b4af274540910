-- Documents are counted in whatever order.
use Rattle.std.proofs.Common.{◌≡◌, ℕ, List, [], ◌∷◌, ◌++◌, subst}
use Rattle.std.specs.Prelude.{IfOk}
use Rattle.world_rows.proofs.Turns.{next_moved}
use Rattle.world_rows.proofs.turned.TurnedWorldLookUp.next_document.Goals as goal

pub returns-clause-value : goal.returns-clause-value
returns-clause-value g c view of =
    subst (λ (next : List ℕ). IfOk c.next_document.result (λ document. document ≡ next)) (next_moved of.base.world.documents view.world.documents (c.args.account.now ++ 0 ∷ []) of.turned.documents)
    (c.next_document.ensures.value of.base of.stood)
