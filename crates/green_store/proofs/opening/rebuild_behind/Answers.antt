-- The world goes on from the trees where these stand for what it stood for, and all entries are told.
use Rattle.std.proofs.Common.{length, take, refl, sym, ap, subst, arith}
use Rattle.febe_data.specs.Plain.{plain_history}
use Rattle.world_rules.specs.FlatView.{view_of}
use Rattle.paged_world.specs.Standing.{AreIn}
use Rattle.green_store.proofs.GoneOn.{still_told, all_told, unfit_is, whole_is, rebuilt_is, gone_on_is}
use Rattle.green_store.proofs.opening.rebuild_behind.Goals as goal

pub retell-requires : goal.retell-requires
retell-requires g c = record {
  order = c.requires.within;
  within = omega arith;
  told = still_told (plain_history (take c.args.position c.args.entries.now)) (g.W.LookUp.stands c.args.world.now) (g.W.LookUp.stands c.adopt.new.self) c.args.serials c.adopt.ensures.stands c.requires.told;
}

pub returns-in-Unfit : goal.returns-in-Unfit
returns-in-Unfit g c = record {
  rebuilt =
      unfit_is (plain_history c.args.entries.now) (plain_history (take (length c.args.entries.now) c.args.entries.now)) (g.W.LookUp.stands c.retell.new.world) c.retell.new.serials (g.W.Rebalance.world_nodes c.adopt.new.self) (g.W.Rebalance.world_nodes c.retell.new.world)
      c.in_ok-at.field-0 c.in-Unfit.at c.in-Unfit.is c.in_ok-at.ensures.told;
  gone_on = λ plain are. tt;
}

pub returns : goal.returns
returns g c =
    let told =
    whole_is (plain_history c.args.entries.now) (plain_history (take (length c.args.entries.now) c.args.entries.now)) (g.W.LookUp.stands c.retell.new.world) c.retell.new.serials (g.W.Rebalance.world_nodes c.adopt.new.self) (g.W.Rebalance.world_nodes c.retell.new.world)
    c.in_ok-at.field-0 c.in-Whole.swept c.in-Whole.is c.in_ok-at.ensures.told in
    record {
      rebuilt =
          rebuilt_is c.in_ok-adopted.adopted c.in-Whole.swept c.args.position c.went_on.result c.args.entries.now (g.W.LookUp.stands c.retell.new.world) c.went_on.ensures c.requires.within
          (all_told c.args.entries.now (length c.args.entries.now) (g.W.LookUp.stands c.retell.new.world) c.retell.new.serials refl told.0);
      gone_on = λ plain are.
          gone_on_is c.in_ok-adopted.adopted c.in-Whole.swept (record { trees = plain; position = c.args.position }) c.went_on.result c.args.entries.now (g.W.Rebalance.condition c.retell.new.world) (g.W.Rebalance.world_nodes c.adopt.new.self) (g.W.Rebalance.world_nodes c.retell.new.world)
          c.went_on.ensures c.requires.within
          (c.in_ok-adopted.ensures.told plain (view_of (plain_history (take c.args.position c.args.entries.now))) are c.requires.told.stood)
          (c.in_ok-adopted.ensures.nodes plain are)
          (λ all yes. subst (AreIn plain) (sym (ap g.W.Rebalance.condition (c.retell.ensures.idle all))) (c.in_ok-adopted.ensures.condition plain are yes))
          told.1;
    }
