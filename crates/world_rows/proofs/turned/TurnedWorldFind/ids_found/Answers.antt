-- Ids ascend, in whatever order the links are.
use Rattle.std.proofs.Common.{◌≡◌, ℕ, List, subst}
use Rattle.std.specs.Prelude.{IfOk}
use Rattle.febe_data.specs.Plain.{plain_want}
use Rattle.world_rows.proofs.Turns.{ids_moved, of_itself}
use Rattle.world_rows.proofs.turned.TurnedWorldFind.ids_found.Goals as goal

pub ids_found-requires : goal.ids_found-requires
ids_found-requires g c view stood = c.requires view (of_itself _ view stood)

pub returns-clause-items : goal.returns-clause-items
returns-clause-items g c view of =
    subst (λ (found : List (List ℕ)). IfOk c.ids_found.result (λ made. made.items ≡ found)) (ids_moved of.base view c.args.session (plain_want c.args.want.now) of.turned)
    (c.ids_found.ensures.items of.base of.stood)
