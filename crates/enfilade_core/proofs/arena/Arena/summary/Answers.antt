use Rattle.std.proofs.Common.{◌∙◌, ap, get_or}
use Rattle.enfilade_core.proofs.BranchTests.{summary-held}
use Rattle.enfilade_core.proofs.arena.Arena.summary.Goals as goal

pub returns-clause-told : goal.returns-clause-told
returns-clause-told g c =
    ap (λ helds. (get_or helds c.args.node.0 c.index-as_slice-node.result).summary) c.as_slice.ensures
    ∙ summary-held g.P.Plane.plain g.P.Plane.widths c.self.inside.nodes.items c.args.self.now c.args.node.0 c.index-as_slice-node.result c.self.view_is c.self.invariant c.requires
