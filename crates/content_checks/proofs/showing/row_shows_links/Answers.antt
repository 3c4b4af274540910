-- What the row shows, if it shows bytes, was looked for.
use Rattle.std.proofs.Common.{map}
use Rattle.page_tables.specs.Plain.{plain_link}
use Rattle.content_checks.specs.Listed.{listed_ids}
use Rattle.content_checks.proofs.BackedRows.{row_backed, nothing_shown}
use Rattle.content_checks.proofs.showing.row_shows_links.Goals as goal

pub has_links-requires : goal.has_links-requires
has_links-requires c = record { links = c.requires; right = c.in-Some.ensures.some.right }

pub returns-in-Some : goal.returns-in-Some
returns-in-Some c = row_backed 2 (listed_ids (map plain_link c.args.listed.now)) c.args.row.now c.in-Some.shown c.has_links.result c.in-Some.ensures.some c.has_links.ensures

pub returns-in-None : goal.returns-in-None
returns-in-None c = nothing_shown 2 (listed_ids (map plain_link c.args.listed.now)) c.args.row.now c.in-None.ensures.none
