use Rattle.green_store.proofs.Reopened.{opening_keeps_rows}
use Rattle.green_store.proofs.laws.opening_keeps_rows.Goals as goal

pub returns : goal.returns
returns c = opening_keeps_rows c.one_reading.ensures c.old_has_new.ensures
