use Rattle.paged_world.proofs.Told.{one_read}
use Rattle.paged_world.proofs.adopting.tables_beside.Goals as goal

pub returns : goal.returns
returns c =
    one_read c.one_tables.ensures c.as_slice.result.now c.args.loaded.now.tables.items c.in_ok-read.field-0 c.in-Some.read c.as_slice.ensures c.in_ok-read.ensures c.in-Some.is
