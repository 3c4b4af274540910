use Rattle.std.proofs.Common.{◌≡◌, take, map}
use Rattle.std.specs.Prelude.{filter}
use Rattle.febe_data.specs.Plain.{plain_want}
use Rattle.world_rules.specs.World.{LinkRow, ascending}
use Rattle.flat_rows.specs.PlainLink.{plain_link}
use Rattle.flat_rows.specs.Meeting.{is_met_by}
use Rattle.flat_rows.proofs.finding.ids_met.Given as goal

abbrev pub invariant-loop-link : goal.invariant-loop-link
invariant-loop-link l = l.ids.keys ≡ ascending (map (λ (link : LinkRow). link.id) (filter (is_met_by l.published l.account (plain_want l.want) l.wanted) (map plain_link (take l.link-index l.links))))
