-- What the laws of placed histories say of one world.
use Rattle.std.proofs.Common.{◌≡◌, List, sym, subst}
use Rattle.febe_data.specs.Plain.{PlainEntry}
use Rattle.world_rules.specs.World.{World, empty_world}
use Rattle.world_rules.specs.Apply.{world_of}
use Rattle.world_rules.specs.Placed.{AllPlaced}
use Rattle.world_rules.proofs.Linked.{links_numbered}
use Rattle.world_elders.proofs.Elders.{elders_are_there}
use Rattle.world_elders.proofs.Listed.{bytes_are_there, links_are_there}
use Rattle.world_elders.proofs.Whole.{bytes_are_owned, shows_bytes_there, link_rows_name_links, homes_are_there}
use Rattle.world_pages.proofs.World.{IsKept}

kept_after : (history : List PlainEntry) → AllPlaced empty_world history → IsKept (world_of history)
kept_after history placed = record {
  elders = elders_are_there history placed;
  homes = homes_are_there history placed;
  numbered = links_numbered history placed;
  owned = bytes_are_owned history placed;
  bytes = bytes_are_there history placed;
  shown = shows_bytes_there history placed;
  named = link_rows_name_links history placed;
  links = links_are_there history placed;
}

pub kept_by : (world : World) (history : List PlainEntry) → AllPlaced empty_world history → world ≡ world_of history → IsKept world
kept_by world history placed is = subst IsKept (sym is) (kept_after history placed)
