use Rattle.green_top.proofs.Complete.{completeness}
use Rattle.green_top.proofs.laws.completeness.Goals as goal

pub returns : goal.returns
returns c = completeness c.one_reading.ensures c.one_opening.ensures
