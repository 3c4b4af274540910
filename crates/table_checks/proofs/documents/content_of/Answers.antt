use Rattle.table_checks.proofs.Listed.{content_past, content_other, content_there}
use Rattle.table_checks.proofs.documents.content_of.Goals as goal

pub returns-then-at-rows : goal.returns-then-at-rows
returns-then-at-rows c = content_past c.args.address.now c.args.rows.now c.place-at.result c.requires c.place-at.ensures c.if-at-rows.true

pub returns-then-ne : goal.returns-then-ne
returns-then-ne c = content_other c.args.address.now c.args.rows.now c.place-at.result c.requires c.place-at.ensures c.index-rows-at.result c.if-at-rows.false c.index-rows-at.is c.if-ne.ensures

pub returns : goal.returns
returns c = content_there c.args.address.now c.args.rows.now c.place-at.result c.requires c.place-at.ensures c.index-rows-at.result c.if-at-rows.false c.index-rows-at.is c.if-ne.ensures
