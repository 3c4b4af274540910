use Rattle.green_io.proofs.Beside.{then_others}
use Rattle.green_io.proofs.laws.left_alone_in_a_row.Goals as goal

pub returns : goal.returns
returns g c touched first then = then_others touched _ _ _ (g.met.D.Disk.is_disk c.args.between.now) first then
