-- Links are counted in whatever order.
use Rattle.std.proofs.Common.{◌≡◌, ℕ, subst}
use Rattle.std.specs.Prelude.{IfOk}
use Rattle.febe_data.specs.Plain.{plain_want}
use Rattle.world_rows.proofs.Turns.{count_moved, of_itself}
use Rattle.world_rows.proofs.turned.TurnedWorldFind.links_found.Goals as goal

pub links_found-requires : goal.links_found-requires
links_found-requires g c view stood = c.requires view (of_itself _ view stood)

pub returns : goal.returns
returns g c view of =
    subst (λ (found : ℕ). IfOk c.links_found.result (λ count. count ≡ found)) (count_moved of.base view c.args.session (plain_want c.args.want.now) of.turned)
    (c.links_found.ensures of.base of.stood)
