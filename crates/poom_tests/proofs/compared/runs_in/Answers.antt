use Rattle.std.proofs.Common.{arith}
use Rattle.enfilade_core.specs.Rows.{rows_of}
use Rattle.poom.specs.Laid.{texts}
use Rattle.poom.specs.Edited.{run_addresses}
use Rattle.poom.proofs.Trials.{picked_within}
use Rattle.poom_tests.proofs.compared.runs_in.Goals as goal

pub returns-clause-few : goal.returns-clause-few
returns-clause-few g c =
    picked_within c.args.span.now (texts (rows_of c.args.poom.now c.args.root.0)) (run_addresses c.in-Ok.runs.items) c.length-long.result 100000000
    c.in-Ok.ensures.bytes c.length-long.ensures (omega arith)
