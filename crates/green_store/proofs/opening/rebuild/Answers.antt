-- Trees are gone on from where some were loaded whose position is among the entries.
use Rattle.std.proofs.Common.{None}
use Rattle.febe_data.specs.Plain.{plain_history}
use Rattle.green_store.specs.Replayed.{MayHaveGoneOn}
use Rattle.green_store.proofs.GoneOn.{if_ok, none_gone_on, beyond_gone_on, among_ok, sound_is}
use Rattle.green_store.proofs.opening.rebuild.Goals as goal

pub returns-in_default : goal.returns-in_default
returns-in_default g c =
    let entries = plain_history c.args.entries.now in
    let trees = g.W.Rebalance.condition c.rebuild_afresh.new.world in
    let nodes = g.W.Rebalance.world_nodes c.rebuild_afresh.new.world in
    record {
      rebuilt = c.rebuild_afresh.ensures.rebuilt;
      gone_on = λ now are.
          if_ok c.rebuild_afresh.result (MayHaveGoneOn None entries trees nodes) (MayHaveGoneOn now entries trees nodes) (λ r gone. none_gone_on c.args.loaded now entries trees nodes r c.in_default.is are gone) c.rebuild_afresh.ensures.afresh;
    }

pub returns-then-position-entries : goal.returns-then-position-entries
returns-then-position-entries g c =
    let entries = plain_history c.args.entries.now in
    let trees = g.W.Rebalance.condition c.rebuild_afresh-then-position-entries.new.world in
    let nodes = g.W.Rebalance.world_nodes c.rebuild_afresh-then-position-entries.new.world in
    record {
      rebuilt = c.rebuild_afresh-then-position-entries.ensures.rebuilt;
      gone_on = λ now are.
          if_ok c.rebuild_afresh-then-position-entries.result (MayHaveGoneOn None entries trees nodes) (MayHaveGoneOn now entries trees nodes)
          (λ r gone. beyond_gone_on c.args.loaded c.in-Some.trees c.in-Some.position now c.args.entries.now trees nodes r c.in-Some.is c.if-position-entries.true are gone) c.rebuild_afresh-then-position-entries.ensures.afresh;
    }

pub rebuild_on-requires : goal.rebuild_on-requires
rebuild_on-requires g c = record { stands = c.requires.stands; within = c.if-position-entries.false; sound = sound_is c.args.loaded c.in-Some.trees c.in-Some.position c.in-Some.is c.requires.sound }

pub returns : goal.returns
returns g c = record {
  rebuilt = c.rebuild_on.ensures.rebuilt;
  gone_on = λ now are.
      among_ok c.rebuild_on.result c.args.loaded c.in-Some.trees c.in-Some.position now (plain_history c.args.entries.now) (g.W.Rebalance.condition c.rebuild_on.new.world) (g.W.Rebalance.world_nodes c.rebuild_on.new.world) c.in-Some.is c.rebuild_on.ensures.gone_on are;
}
