use Rattle.session_pool.proofs.Servings.{served_one}
use Rattle.session_pool.proofs.serving.serve_one.Goals as goal

pub returns-clause-served : goal.returns-clause-served
returns-clause-served g c = (_, served_one g.L.IssuePasses.owner _ _ _ _ c.another-own.ensures.same.1 c.end.ensures.taken_in)
