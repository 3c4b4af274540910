-- Links are counted in whatever order.
use Rattle.std.proofs.Common.{◌≡◌, ℕ, ◌+◌, ◌^◌, ◌<◌, subst}
use Rattle.std.specs.Prelude.{IsOk, IfOk}
use Rattle.world_rows.proofs.Turns.{made_moved}
use Rattle.world_rows.proofs.turned.TurnedWorldLookUp.next_link.Goals as goal

pub returns-clause-value : goal.returns-clause-value
returns-clause-value g c view of =
    subst (λ (made : ℕ). IfOk c.next_link.result (λ number. number ≡ made + 1)) (made_moved of.base view c.args.home.now of.turned)
    (c.next_link.ensures.value of.base of.stood)

pub returns-clause-accepted : goal.returns-clause-accepted
returns-clause-accepted g c view of =
    subst (λ (made : ℕ). made + 1 < 2 ^ 32 → IsOk c.next_link.result) (made_moved of.base view c.args.home.now of.turned)
    (c.next_link.ensures.accepted of.base of.stood)
