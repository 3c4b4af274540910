use Rattle.std.proofs.Common.{◌≡◌, ◌-◌}
use Rattle.febe_fields.specs.Reading.{many_at}
use Rattle.febe_fields.proofs.ManyLoop.{with_items}
use Rattle.page_tables.specs.TableReading.{run_at}
use Rattle.page_tables.proofs.runs.many_runs_at.Given as goal

abbrev pub invariant-loop : goal.invariant-loop
invariant-loop l = with_items l.runs.items (many_at run_at (l.count - l.counter) l.rest) ≡ many_at run_at l.count l.bytes
