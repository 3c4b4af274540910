use Rattle.std.proofs.Common.{◌∙◌, ◌++◌, [], refl}
use Rattle.green_top.specs.declared.session_end.SessionEnd.TheVariants as ends
use Rattle.green_top.proofs.Chains.{chain_nothing, chain_both, leads_nothing, leads_both}
use Rattle.green_top.proofs.Conversations.{starts, still_live, greeting_fails, goes_on_under, less_under, comes_to_under}
use Rattle.green_top.proofs.Rounds.{live_still}
use Rattle.green_top.proofs.session.converse.Goals as goal

pub returns-in-WriteFault-clause-conversed : goal.returns-in-WriteFault-clause-conversed
returns-in-WriteFault-clause-conversed g c = ([], greeting_fails _ _ _ _ _ _ _ _ _ _ _ _ _ c.requires.begun c.in-WriteFault.ensures.put, leads_nothing _ _ ends.WriteFault _ _ _)

pub returns-in-WriteFault-clause-live : goal.returns-in-WriteFault-clause-live
returns-in-WriteFault-clause-live g c = still_live (g.P.PlaySession.limits c.args.first.now) _ _ _ _ _ _ _ (g.K.Sink.taken c.args.sink.now) (g.K.Sink.taken c.args.sink.now) _ (g.K.Sink.fault_count c.args.sink.now) _ c.requires.begun

pub loop-closing-init : goal.loop-closing-init
loop-closing-init g c = record {
  ready = c.requires.ready;
  limits = refl;
  number = refl;
  so_far = ([], starts _ _ _ _ _ _ _ _ _ _ _ _ _ c.requires.begun c.in-Done.ensures.put, chain_nothing _ _ _ _ _);
}

pub loop-closing-smaller : goal.loop-closing-smaller
loop-closing-smaller g c =
    let so_far = c.loop-closing.invariant in
    less_under _ _ so_far.limits _ _ so_far.number _ _ _ _ _ so_far.so_far.1 c.in_default.ensures.round.1

pub loop-closing-preserved : goal.loop-closing-preserved
loop-closing-preserved g c =
    let now = c.loop-closing.invariant in
    let so_far = now.so_far in
    let next = c.in_default.ensures in
    record {
      ready = next.ready;
      limits = next.limits ∙ now.limits;
      number = next.number ∙ now.number;
      so_far = (so_far.0 ++ next.round.0, goes_on_under _ _ now.limits _ _ now.number _ _ _ _ _ so_far.1 next.round.1, chain_both _ _ _ _ _ _ _ _ _ so_far.2 _ _ _ _ _ next.round.2);
    }

pub returns-in-Some : goal.returns-in-Some
returns-in-Some g c =
    let now = c.loop-closing.invariant in
    let so_far = now.so_far in
    let next = c.in-Some.ensures in
    record {
      ready = next.ready;
      limits = next.limits ∙ now.limits;
      number = next.number ∙ now.number;
      conversed = (so_far.0 ++ next.round.0, comes_to_under _ _ now.limits _ _ now.number _ _ _ _ _ so_far.1 c.in-Some.closing.end next.round.1.0, leads_both _ _ c.in-Some.closing.end _ _ _ _ _ _ _ so_far.2 _ _ _ _ next.round.2);
      live = live_still (g.P.PlaySession.seen c.answer_next-closing.new.first c.answer_next-closing.new.second) (g.P.PlaySession.seen c.answer_next-closing.new.first c.answer_next-closing.new.second) _ _ _ refl next.number next.round.1.1;
    }
