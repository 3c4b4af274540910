use Rattle.std.proofs.Common.{◌≡◌, length}
use Rattle.world_rules.specs.Apply.{without_session}
use Rattle.access_table.proofs.openings.Openings.end.Given as goal

-- what other sessions have open is there as before
abbrev pub invariant-loop-document : goal.invariant-loop-document
invariant-loop-document l = without_session l.session l.self ≡ without_session l.session l.initial.self

abbrev pub decreases-loop-document : goal.decreases-loop-document
decreases-loop-document l = length l.self
