-- What the row shows, if it shows bytes, was looked for.
use Rattle.content_checks.specs.Listed.{listed_bytes}
use Rattle.content_checks.proofs.BackedRows.{row_backed, nothing_shown}
use Rattle.content_checks.proofs.showing.row_shows_bytes.Goals as goal

pub has_bytes-requires : goal.has_bytes-requires
has_bytes-requires c = record { documents = c.requires; right = c.in-Some.ensures.some.right }

pub returns-in-Some : goal.returns-in-Some
returns-in-Some c = row_backed 1 (listed_bytes c.args.documents.now) c.args.row.now c.in-Some.shown c.has_bytes.result c.in-Some.ensures.some c.has_bytes.ensures

pub returns-in-None : goal.returns-in-None
returns-in-None c = nothing_shown 1 (listed_bytes c.args.documents.now) c.args.row.now c.in-None.ensures.none
