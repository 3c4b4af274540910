use Rattle.std.proofs.Common.{refl}
use Rattle.flat_world.proofs.flat.FlatWorld.answer.Goals as goal

pub returns-clause-reply : goal.returns-clause-reply
returns-clause-reply c = c.answer.ensures.reply c.args.self.now refl
