-- Text is in an end of some link in whatever order they are.
use Rattle.std.proofs.Common.{◌≡◌, List, map, subst}
use Rattle.std.specs.Prelude.{IfOk}
use Rattle.febe_data.specs.Plain.{PlainSpec, plain_spec}
use Rattle.world_rows.proofs.Turns.{set_moved}
use Rattle.world_rows.proofs.turned.TurnedWorldFind.end_set.Goals as goal

pub returns-clause-value : goal.returns-clause-value
returns-clause-value g c view of =
    subst (λ (now : List PlainSpec). IfOk c.end_set.result (λ made. map plain_spec made.items ≡ now)) (set_moved of.base view c.args.session c.args.end (map plain_spec c.args.specs.now) of.turned)
    (c.end_set.ensures.value of.base of.stood)
