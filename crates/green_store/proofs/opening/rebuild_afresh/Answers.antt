-- All entries are told, and no trees are gone on from.
use Rattle.std.proofs.Common.{length, take, refl, arith}
use Rattle.febe_data.specs.Plain.{plain_history}
use Rattle.green_store.proofs.GoneOn.{none_told, all_told, unfit_is, whole_is, rebuilt_afresh}
use Rattle.green_store.proofs.opening.rebuild_afresh.Goals as goal

pub retell-requires : goal.retell-requires
retell-requires g c = record { order = omega arith; within = omega arith; told = none_told (g.W.LookUp.stands c.args.world.now) c.new-serials.result c.requires c.new-serials.ensures }

pub returns-in-Unfit : goal.returns-in-Unfit
returns-in-Unfit g c = record {
  rebuilt =
      unfit_is (plain_history c.args.entries.now) (plain_history (take (length c.args.entries.now) c.args.entries.now)) (g.W.LookUp.stands c.retell.new.world) c.retell.new.serials (g.W.Rebalance.world_nodes c.args.world.now) (g.W.Rebalance.world_nodes c.retell.new.world)
      c.in_ok-at.field-0 c.in-Unfit.at c.in-Unfit.is c.in_ok-at.ensures.told;
  afresh = tt;
}

pub returns : goal.returns
returns g c =
    let told =
    whole_is (plain_history c.args.entries.now) (plain_history (take (length c.args.entries.now) c.args.entries.now)) (g.W.LookUp.stands c.retell.new.world) c.retell.new.serials (g.W.Rebalance.world_nodes c.args.world.now) (g.W.Rebalance.world_nodes c.retell.new.world)
    c.in_ok-at.field-0 c.in-Whole.swept c.in-Whole.is c.in_ok-at.ensures.told in
    record {
      rebuilt = rebuilt_afresh c.args.entries.now (g.W.LookUp.stands c.retell.new.world) (all_told c.args.entries.now (length c.args.entries.now) (g.W.LookUp.stands c.retell.new.world) c.retell.new.serials refl told.0);
      afresh = (refl, refl);
    }
