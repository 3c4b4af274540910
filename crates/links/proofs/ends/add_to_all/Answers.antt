use Rattle.std.proofs.Common.{refl}
use Rattle.links.proofs.EndsKept.{grows_same}
use Rattle.links.proofs.ends.add_to_all.Goals as goal

pub returns-in_default-add_all-clause-grows : goal.returns-in_default-add_all-clause-grows
returns-in_default-add_all-clause-grows c = (
  grows_same c.args.from.now c.back-in_default-add_all-2.new.self (c.back-in_default-add_all-2.ensures.restored c.args.from.now c.add_all.ensures.grows c.mark-from_mark.ensures.mark),
  grows_same c.args.to.now c.back-in_default-add_all.new.self (c.back-in_default-add_all.ensures.restored c.args.to.now c.add_all-2.ensures.grows c.mark-to_mark.ensures.mark),
  grows_same c.args.three.now c.args.three.now refl,
)

pub returns-in_default-add_all-2-clause-grows : goal.returns-in_default-add_all-2-clause-grows
returns-in_default-add_all-2-clause-grows c = (
  grows_same c.args.from.now c.back-in_default-add_all-2-4.new.self (c.back-in_default-add_all-2-4.ensures.restored c.args.from.now c.add_all.ensures.grows c.mark-from_mark.ensures.mark),
  grows_same c.args.to.now c.back-in_default-add_all-2-3.new.self (c.back-in_default-add_all-2-3.ensures.restored c.args.to.now c.add_all-2.ensures.grows c.mark-to_mark.ensures.mark),
  grows_same c.args.three.now c.back-in_default-add_all-2-2.new.self (c.back-in_default-add_all-2-2.ensures.restored c.args.three.now c.add_all-3.ensures.grows c.mark-three_mark.ensures.mark),
)
