-- The text stands in front of the links, and nothing behind them.
use Rattle.content_checks.proofs.PartRows.{no_text, no_links, one_document}
use Rattle.content_checks.proofs.parts.is_one_document.Goals as goal

pub returns-in_default : goal.returns-in_default
returns-in_default c = no_text c.args.rows.now c.in_default.ensures.none

pub returns-in_default-behind_part : goal.returns-in_default-behind_part
returns-in_default-behind_part c = no_links c.args.rows.now c.in-Some.links.now c.in-Some.ensures.some c.in_default-behind_part.ensures.none

pub returns : goal.returns
returns c = one_document c.args.rows.now c.in-Some.links.now c.in-Some-behind_part.rest.now c.is_empty.result c.in-Some.ensures.some c.in-Some-behind_part.ensures.some c.is_empty.ensures
