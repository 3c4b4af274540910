use Rattle.tree_world.specs.inside.Reads.{links_for}
use Rattle.tree_world.proofs.ByContent.{numbers_more}
use Rattle.tree_world.proofs.world.TreeWorld.find_numbers.Goals as goal

pub returns : goal.returns
returns c =
    numbers_more c.args.end (links_for c.args.self.now c.args.account.now) c.args.extents.now c.args.known.now c.insert.new.self c.args.document.now c.copy.result c.in-Some.extent.now c.in_ok-numbers.numbers c.in-Some.ensures.value c.in_ok-insert.ensures.updates c.copy.ensures
    c.in_ok-numbers.ensures c.requires
