use Rattle.std.proofs.Common.{◌≡◌, take}
use Rattle.std.specs.Prelude.{filter}
use Rattle.febe_data.specs.declared.run.Run.{Run}
use Rattle.world_rules.specs.Readable.{is_readable_by}
use Rattle.flat_world.proofs.ends.readable_runs.Given as goal

abbrev pub invariant-loop-run : goal.invariant-loop-run
invariant-loop-run l = l.made.items ≡ filter (λ (run : Run). is_readable_by l.published l.account run.origin) (take l.run-index l.runs)
