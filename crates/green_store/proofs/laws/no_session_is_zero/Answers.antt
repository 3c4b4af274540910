use Rattle.std.proofs.Common.{◌≡◌, false, subst}
use Rattle.febe_data.specs.Plain.{plain_history}
use Rattle.world_rules.specs.History.{is_live}
use Rattle.green_store.specs.StoreView.{StoreView}
use Rattle.green_store.proofs.Owners.{none_is_zero}
use Rattle.green_store.proofs.laws.no_session_is_zero.Goals as goal

pub returns : goal.returns
returns g c = subst (λ (v : StoreView). is_live v.history 0 ≡ false) c.store.view_is (none_is_zero (plain_history c.store.inside.history.items) c.store.invariant.regular.sessions)
