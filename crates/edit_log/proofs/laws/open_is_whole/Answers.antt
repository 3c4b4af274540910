use Rattle.edit_log.proofs.Wholes.{shut_whole}
use Rattle.edit_log.proofs.laws.open_is_whole.Goals as goal

pub returns : goal.returns
returns g c rows are opened image is = shut_whole rows image are (opened.images.each image is)
