use Rattle.std.proofs.Common.{◌≡◌, map, take}
use Rattle.page_tables.specs.Plain.{plain_link}
use Rattle.world_pages.specs.Pages.{table_link}
use Rattle.paged_world.proofs.tables.table_links.Given as goal

abbrev pub invariant-loop-k : goal.invariant-loop-k
invariant-loop-k l = map plain_link l.made.items ≡ map table_link (take l.k l.links.links)
