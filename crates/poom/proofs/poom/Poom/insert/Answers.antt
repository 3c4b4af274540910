use Rattle.enfilade_core.specs.Rows.{rows_of}
use Rattle.poom.specs.Laid.{texts}
use Rattle.poom.proofs.Inserts.{inserted_fits}
use Rattle.poom.proofs.poom.Poom.insert.Goals as goal

pub put-requires-clause-fits : goal.put-requires-clause-fits
put-requires-clause-fits c = inserted_fits c.args.n (record { document = c.copy.result; first = c.args.first; count = c.args.k }) (texts (rows_of c.args.self.now c.args.root.0)) c.requires.room
