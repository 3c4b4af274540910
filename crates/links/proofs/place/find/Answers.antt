use Rattle.links.proofs.Changed.{absent_past, absent_at}
use Rattle.links.proofs.place.find.Goals as goal

pub returns-then-at-links-clause-none : goal.returns-then-at-links-clause-none
returns-then-at-links-clause-none c = absent_past c.args.id.now c.args.links.now c.place-at.result c.requires c.place-at.ensures c.if-at-links.true

pub returns-then-ne-clause-none : goal.returns-then-ne-clause-none
returns-then-ne-clause-none c =
    absent_at c.args.id.now c.args.links.now c.place-at.result c.index-links-at.result c.requires c.place-at.ensures c.if-at-links.false c.index-links-at.is c.deref.result.now c.deref.ensures c.if-ne.ensures
