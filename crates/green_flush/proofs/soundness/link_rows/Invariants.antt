use Rattle.std.proofs.Common.{◌≡◌, map, take, ◌+◌, length, ◌≤◌}
use Rattle.links.specs.LinkLists.{plain_link as kept_link}
use Rattle.page_tables.specs.Plain.{plain_link}
use Rattle.green_flush.specs.Sound.{link_row}
use Rattle.green_flush.proofs.soundness.link_rows.Given as goal

abbrev pub invariant-loop-link : goal.invariant-loop-link
invariant-loop-link l = (map kept_link l.rows.items ≡ map link_row (map plain_link (take l.link-index l.links))) × (length l.links ≤ l.rows.spare + l.link-index)
