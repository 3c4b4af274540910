use Rattle.green_flush.proofs.Held.{resting-loads}
use Rattle.green_flush.proofs.laws.each_image_loads.Goals as goal

pub returns : goal.returns
returns g c = λ was now stands image is. resting-loads (g.D.Disk.state c.args.disk.now) c.args.flush.now was now stands image is
