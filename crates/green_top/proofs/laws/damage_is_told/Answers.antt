use Rattle.green_top.proofs.Readings.{damage_is_told}
use Rattle.green_top.proofs.laws.damage_is_told.Goals as goal

pub returns : goal.returns
returns c = damage_is_told c.one_opening.ensures
