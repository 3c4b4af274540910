use Rattle.green_io.proofs.Beside.{others_now}
use Rattle.green_io.proofs.laws.images_left_alone.Goals as goal

pub returns : goal.returns
returns g c touched leaves = others_now touched _ _ (g.met.D.Disk.is_disk c.args.new.now) leaves
