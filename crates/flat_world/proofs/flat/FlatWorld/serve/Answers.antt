use Rattle.std.proofs.Common.{refl}
use Rattle.flat_world.proofs.flat.FlatWorld.serve.Goals as goal

pub returns-clause-served : goal.returns-clause-served
returns-clause-served c = c.serve.ensures.served c.args.self.now refl
