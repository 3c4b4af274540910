-- Nodes came in with the entry, and with the step behind it.
use Rattle.std.proofs.Common.{◌≡◌, ◌⊎◌, ⊎_elim}
use Rattle.tree_world.specs.Nodes.{WorldNodes, AllGrown}
use Rattle.tree_world.proofs.Grown.{all_again}
use Rattle.green_store.specs.declared.tending.Tended.{Tended}
use Rattle.green_store.specs.declared.tending.Tended.TheVariants.{Balanced, Swept, Idle}
use Rattle.green_store.proofs.opening.retell_one.Goals as goal

balanced : (done : Tended) (old new : WorldNodes) → done ≡ Balanced → (done ≡ Swept) ⊎ AllGrown old new → AllGrown old new
balanced done old new is grown = ⊎_elim (λ swept. absurd cc) (λ has. has) grown

idle : (done : Tended) (old new : WorldNodes) → done ≡ Idle → (done ≡ Swept) ⊎ AllGrown old new → AllGrown old new
idle done old new is grown = ⊎_elim (λ swept. absurd cc) (λ has. has) grown

pub returns-in-Balanced : goal.returns-in-Balanced
returns-in-Balanced g c = record {
  stands = λ view stood. c.tend.ensures.stands _ (c.in_ok-replay.ensures.ok view stood);
  noted = λ past noted. c.in_ok-add.ensures.added past noted;
  nodes = λ none. (none, all_again _ _ _ c.in_ok-replay.ensures.grown (balanced _ _ _ c.in-Balanced.is c.in_ok-tend.ensures.grown));
}

pub returns-in-Idle : goal.returns-in-Idle
returns-in-Idle g c = record {
  stands = λ view stood. c.tend.ensures.stands _ (c.in_ok-replay.ensures.ok view stood);
  noted = λ past noted. c.in_ok-add.ensures.added past noted;
  nodes = λ none. (none, all_again _ _ _ c.in_ok-replay.ensures.grown (idle _ _ _ c.in-Idle.is c.in_ok-tend.ensures.grown));
}
