use Rattle.edit_log.proofs.Wholes.{pending_whole}
use Rattle.edit_log.proofs.laws.pending_is_whole.Goals as goal

pub returns : goal.returns
returns g c rows row may pending image is = pending_whole c.args.log.now.pending rows row image may.before may.next (pending.images.each image is)
