-- So many entries are told first.
use Rattle.std.proofs.Common.{take, arith}
use Rattle.febe_data.specs.Plain.{plain_history}
use Rattle.green_store.proofs.GoneOn.{none_told, unfit_is, whole_is}
use Rattle.green_store.proofs.opening.rebuild_on.Goals as goal

pub retell-requires : goal.retell-requires
retell-requires g c = record { order = omega arith; within = c.requires.within; told = none_told (g.W.LookUp.stands c.args.world.now) c.new-serials.result c.requires.stands c.new-serials.ensures }

pub returns-in-Unfit : goal.returns-in-Unfit
returns-in-Unfit g c = record {
  rebuilt =
      unfit_is (plain_history c.args.entries.now) (plain_history (take (c.args.position) c.args.entries.now)) (g.W.LookUp.stands c.retell.new.world) c.retell.new.serials (g.W.Rebalance.world_nodes c.args.world.now) (g.W.Rebalance.world_nodes c.retell.new.world)
      c.in_ok-at.field-0 c.in-Unfit.at c.in-Unfit.is c.in_ok-at.ensures.told;
  gone_on = λ plain are. tt;
}

pub rebuild_behind-requires : goal.rebuild_behind-requires
rebuild_behind-requires g c =
    let told =
    whole_is (plain_history c.args.entries.now) (plain_history (take (c.args.position) c.args.entries.now)) (g.W.LookUp.stands c.retell.new.world) c.retell.new.serials (g.W.Rebalance.world_nodes c.args.world.now) (g.W.Rebalance.world_nodes c.retell.new.world)
    c.in_ok-at.field-0 c.in-Whole.swept c.in-Whole.is c.in_ok-at.ensures.told in
    record { within = c.requires.within; told = told.0; sound = c.requires.sound }

pub returns-in-Whole : goal.returns-in-Whole
returns-in-Whole g c = record { rebuilt = c.rebuild_behind.ensures.rebuilt; gone_on = c.rebuild_behind.ensures.gone_on }
