use Rattle.links.specs.LinkLists.{plain_link}
use Rattle.paged_world.proofs.Listed.{link_more}
use Rattle.paged_world.proofs.tables.table_links.Goals as goal

pub loop-k-preserved : goal.loop-k-preserved
loop-k-preserved c =
    link_more c.args.links.now.links c.loop-k.k (plain_link c.in-Some.link.now) c.loop-k.made.items c.push.new.self.items c.in_ok-table_link.field-0 c.in-Some.ensures c.in_ok-table_link.ensures c.in_ok-push.ensures.ok c.loop-k.invariant
