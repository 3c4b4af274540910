-- The entries that were passed are told, the nodes only came in unless they were swept, and none was passed yet at the first.
use Rattle.std.proofs.Common.{◌≡◌, take, false}
use Rattle.febe_data.specs.Plain.{plain_history}
use Rattle.tree_world.specs.Nodes.{AllGrown}
use Rattle.green_store.specs.Replayed.{AreTold}
use Rattle.green_store.proofs.opening.retell.Given as goal

abbrev pub invariant-loop-count : goal.invariant-loop-count
invariant-loop-count g l = record {
  told : AreTold (plain_history (take l.count l.entries)) (g.W.LookUp.stands l.world) l.serials;
  nodes : l.swept ≡ false → AllGrown (g.W.Rebalance.world_nodes l.fn.world) (g.W.Rebalance.world_nodes l.world);
  idle : l.count ≡ l.from → l.world ≡ l.fn.world;
}
