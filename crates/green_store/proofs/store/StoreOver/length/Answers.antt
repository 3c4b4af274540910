use Rattle.std.proofs.Common.{arith}
use Rattle.green_store.proofs.store.StoreOver.length.Goals as goal

pub returns-clause-bound : goal.returns-clause-bound
returns-clause-bound g c = omega (arith, c.as_slice-entries.type_inv.1)
