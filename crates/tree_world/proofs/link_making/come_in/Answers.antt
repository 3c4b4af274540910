use Rattle.tree_world.proofs.LinkMade.{grown_back}
use Rattle.tree_world.proofs.link_making.come_in.Goals as goal

pub returns-in_default-clause-grows : goal.returns-in_default-clause-grows
returns-in_default-clause-grows c = grown_back c.args.pooms.now c.add_link.new.self c.back.new.self c.mark-mark.result c.add_link.ensures.grows c.mark-mark.ensures c.back.ensures
