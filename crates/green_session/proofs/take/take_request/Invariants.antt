use Rattle.std.specs.Prelude.{◌-◌}
use Rattle.green_session.specs.Taking.{read_state}
use Rattle.green_session.proofs.Reading.{HasRead}
use Rattle.green_session.proofs.take.take_request.Given as goal

abbrev pub invariant-loop-request : goal.invariant-loop-request
invariant-loop-request g l =
    HasRead
    (read_state (g.S.Source.left l.initial.source) (g.S.Source.fault_count l.initial.source) l.initial.feed (record { limit = l.initial.turns-inside.limit; taken = l.initial.turns-inside.taken }))
    (read_state (g.S.Source.left l.source) (g.S.Source.fault_count l.source) l.feed (record { limit = l.turns-inside.limit; taken = l.turns-inside.taken }))

abbrev pub decreases-loop-request : goal.decreases-loop-request
decreases-loop-request g l = l.turns-inside.limit - l.turns-inside.taken
