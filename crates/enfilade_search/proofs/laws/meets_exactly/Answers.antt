use Rattle.enfilade_search.proofs.Touching.{meets_exactly}
use Rattle.enfilade_search.proofs.laws.meets_exactly.Goals as goal

pub returns : goal.returns
returns g c = meets_exactly g.P.Plane.widths
