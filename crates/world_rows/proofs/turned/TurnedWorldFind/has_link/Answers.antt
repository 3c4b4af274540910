-- An id names the same link.
use Rattle.std.proofs.Common.{◌∙◌, not, ap, Option}
use Rattle.std.specs.Prelude.{is_none}
use Rattle.world_rules.specs.World.{LinkRow}
use Rattle.world_rows.proofs.Turns.{link_moved}
use Rattle.world_rows.proofs.turned.TurnedWorldFind.has_link.Goals as goal

pub returns : goal.returns
returns g c view of = c.has_link.ensures of.base of.stood ∙ ap (λ (found : Option LinkRow). not (is_none found)) (link_moved of.base view c.args.session c.args.id.now of.turned)
