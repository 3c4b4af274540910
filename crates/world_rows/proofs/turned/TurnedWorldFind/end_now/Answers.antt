-- An id names the same link.
use Rattle.std.proofs.Common.{◌≡◌, List, map, Some, subst}
use Rattle.std.specs.Prelude.{IfOk}
use Rattle.febe_data.specs.Plain.{PlainSpec, plain_spec}
use Rattle.world_rows.proofs.Turns.{follow_moved}
use Rattle.world_rows.proofs.turned.TurnedWorldFind.end_now.Goals as goal

pub returns-clause-value : goal.returns-clause-value
returns-clause-value g c view of =
    subst (λ (now : List PlainSpec). IfOk c.end_now.result (λ made. map plain_spec made.items ≡ now)) (follow_moved of.base view c.args.session c.args.id.now (Some c.args.end) of.turned)
    (c.end_now.ensures.value of.base of.stood)
