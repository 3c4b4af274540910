use Rattle.green_flush.proofs.Held.{log-stays}
use Rattle.green_flush.proofs.laws.log_calls_stay.Goals as goal

pub returns : goal.returns
returns g c was now leaves stands = log-stays (g.D.Disk.state c.args.old.now) (g.D.Disk.state c.args.new.now) c.args.flush.now was now (g.met.D.Disk.is_disk c.args.new.now) leaves stands
