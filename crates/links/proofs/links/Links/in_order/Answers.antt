use Rattle.std.proofs.Common.{All, subst}
use Rattle.links.specs.LinkLists.{LinkLists, IsLink}
use Rattle.links.proofs.links.Links.in_order.Goals as goal

pub returns-clause-runs : goal.returns-clause-runs
returns-clause-runs c = subst (λ (lists : LinkLists). All IsLink lists.links) c.self.view_is c.self.invariant.0
