use Rattle.std.proofs.Common.{take}
use Rattle.disk_fields.proofs.Written.{AreWritten}
use Rattle.page_tables.specs.TableBytes.{run_bytes, IsRun}
use Rattle.page_tables.proofs.runs.append_each_run.Given as goal

abbrev pub invariant-loop-run : goal.invariant-loop-run
invariant-loop-run l = AreWritten IsRun run_bytes l.initial.out.items l.out.items (take l.run-index l.runs)
