use Rattle.green_top.proofs.Alone.{served_alone}
use Rattle.green_top.proofs.beside.serve_beside.Goals as goal

pub returns : goal.returns
returns g c =
    let run = c.serve.ensures.run in
    let alone = served_alone g.D.Disk.state g.D.Disk.fault_count c.args.serves.now c.args.disk.now _ c.requires.placed c.requires.unnumbered c.serve.result.end run.0 _ _ _ run.2 in
    record { run = (run.0, run.1, alone.0, alone.1) }
