use Rattle.green_top.proofs.Complete.{generated_completeness}
use Rattle.green_top.proofs.laws.generated_completeness.Goals as goal

pub returns : goal.returns
returns c = generated_completeness c.one_reading.ensures c.one_opening.ensures
