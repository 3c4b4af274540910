use Rattle.std.proofs.Common.{map}
use Rattle.febe_data.specs.Plain.{plain_item}
use Rattle.world_rules.proofs.Valid.{tumblers_push}
use Rattle.tree_world.proofs.Retrieved.{link_more}
use Rattle.tree_world.proofs.retrieving.push_links.Goals as goal

pub loop-id-preserved : goal.loop-id-preserved
loop-id-preserved c = (
  link_more c.args.ids.now c.loop-id.id-index c.id-item.result (map plain_item c.args.items.now.items) c.loop-id.items.items c.push.new.self.items c.link_item.result c.loop-id-test.true c.id-item.is c.in_ok-push.ensures.ok c.link_item.ensures.item
      c.loop-id.invariant.0,
  λ all. tumblers_push c.loop-id.items.items c.push.new.self.items c.link_item.result c.in_ok-push.ensures.ok c.link_item.ensures.valid (c.loop-id.invariant.1 all),
)
