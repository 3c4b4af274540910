use Rattle.std.proofs.Common.{◌∙◌, ap, get_or}
use Rattle.enfilade_core.proofs.BranchTests.{balance_state-held}
use Rattle.enfilade_core.proofs.arena.Arena.balance_state.Goals as goal

pub returns : goal.returns
returns g c =
    ap (λ helds. (get_or helds c.args.node.0 c.index-as_slice-node.result).balance_state) c.as_slice.ensures
    ∙ balance_state-held g.P.Plane.plain g.P.Plane.widths c.self.inside.nodes.items c.args.self.now c.args.node.0 c.index-as_slice-node.result c.self.view_is c.self.invariant c.requires
