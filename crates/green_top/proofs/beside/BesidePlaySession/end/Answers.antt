use Rattle.green_top.proofs.BesideSteps.{ends_here}
use Rattle.green_top.proofs.beside.BesidePlaySession.end.Goals as goal

pub returns-clause-ends : goal.returns-clause-ends
returns-clause-ends g c = ends_here c.args.first.now.store c.step-ended.new.self c.args.first.now.session c.step-ended.result _ c.requires.live c.step-ended.ensures.step
