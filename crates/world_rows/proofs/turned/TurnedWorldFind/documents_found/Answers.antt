-- What is found ascends, in whatever order it was looked at.
use Rattle.std.proofs.Common.{◌≡◌, ℕ, List, map, subst}
use Rattle.std.specs.Prelude.{IfOk}
use Rattle.febe_data.specs.Plain.{plain_spec}
use Rattle.world_rows.proofs.Turns.{found_moved}
use Rattle.world_rows.proofs.turned.TurnedWorldFind.documents_found.Goals as goal

pub returns-clause-items : goal.returns-clause-items
returns-clause-items g c view of =
    subst (λ (found : List (List ℕ)). IfOk c.documents_found.result (λ made. made.items ≡ found)) (found_moved of.base view c.args.session (map plain_spec c.args.specs.now) of.turned)
    (c.documents_found.ensures.items of.base of.stood)
