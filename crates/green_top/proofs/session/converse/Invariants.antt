use Rattle.std.specs.Prelude.{◌≡◌, ◌+◌, ◌-◌, true, List, length}
use Rattle.world_rules.specs.Legal.{Exchange}
use Rattle.green_top.specs.Ends.{most_input}
use Rattle.green_top.specs.inside.Conversation.{state_by, IsConversing}
use Rattle.green_top.specs.inside.Play.{Chain}
use Rattle.green_top.proofs.session.converse.Given as goal

abbrev pub invariant-loop-closing : goal.invariant-loop-closing
invariant-loop-closing g l = record {
  ready : g.P.PlaySession.ready l.player l.first l.second;
  limits : g.P.PlaySession.limits l.first ≡ g.P.PlaySession.limits l.fn.first;
  number : g.P.PlaySession.number l.first ≡ g.P.PlaySession.number l.fn.first;
  so_far : (exchanges : List Exchange)
      × IsConversing (g.P.PlaySession.limits l.fn.first) (g.P.PlaySession.number l.fn.first)
      (state_by g.P.PlaySession.seen g.P.PlaySession.faults g.S.Source.left g.S.Source.fault_count g.K.Sink.taken g.K.Sink.fault_count l.fn.first l.fn.second l.fn.source l.fn.sink l.fn.talk)
      (state_by g.P.PlaySession.seen g.P.PlaySession.faults g.S.Source.left g.S.Source.fault_count g.K.Sink.taken g.K.Sink.fault_count l.first l.second l.source l.sink l.talk) exchanges
      × Chain g.P.PlaySession.tells g.P.PlaySession.tended l.fn.first l.fn.second (g.C.Clock.coming l.fn.clock) exchanges true l.first l.second (g.C.Clock.coming l.clock);
}

abbrev pub decreases-loop-closing : goal.decreases-loop-closing
decreases-loop-closing g l = (most_input + 4096 - l.talk.turns.taken) + length l.talk.feed.held
