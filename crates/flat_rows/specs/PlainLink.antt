-- A link as a plain value.
use Rattle.flat_rows.specs.declared.links.LinkRow.{LinkRow}
use Rattle.world_rules.specs.World as plain

abbrev pub plain_link : LinkRow → plain.LinkRow
plain_link l = record { id = l.id; home = l.home; from = l.from.items; to = l.to.items; three = l.three.items }
