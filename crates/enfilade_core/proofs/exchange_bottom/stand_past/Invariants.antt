use Rattle.std.proofs.Common.{take, All}
use Rattle.tumbler.specs.Laws.{StandsBefore}
use Rattle.enfilade_core.proofs.exchange_bottom.stand_past.Given as goal

abbrev pub invariant-loop-row : goal.invariant-loop-row
invariant-loop-row g l = record {
  first : All (λ row. StandsBefore l.first row.first) (take l.row-index l.rows);
  second : All (λ row. StandsBefore l.second row.second) (take l.row-index l.rows);
}
