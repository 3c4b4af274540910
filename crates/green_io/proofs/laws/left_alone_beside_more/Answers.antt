use Rattle.green_io.proofs.Beside.{wider_others}
use Rattle.green_io.proofs.laws.left_alone_beside_more.Goals as goal

pub returns : goal.returns
returns g c touched more follows leaves = wider_others touched more _ _ follows leaves
