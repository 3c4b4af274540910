use Rattle.std.proofs.Common.{refl}
use Rattle.enfilade_core.specs.Plain.{shape}
use Rattle.enfilade_core.proofs.PackedNode.{placed-last, grows-none}
use Rattle.enfilade_core.proofs.Stood.{balance_state-last}
use Rattle.enfilade_core.proofs.arena.Arena.placed.Goals as goal

pub returns-clause-placed : goal.returns-clause-placed
returns-clause-placed g c =
    placed-last g.P.Plane.widths g.met.P.Plane.widths_stay c.args.self.now c.add_node.new.self (shape g.P.Plane.plain c.args.children) c.args.first c.args.second
    record { node = c.in_ok-node.node; first = c.args.first; second = c.args.second; first_extent = c.summary-summary.result.now.first_extent; second_extent = c.summary-summary.result.now.second_extent }
    c.summary-summary.result.now c.in_ok-node.ensures.ok c.in_ok-node.ensures.made c.summary-summary.ensures.well_formed c.summary-summary.ensures.told refl refl refl refl c.requires

pub returns-clause-balance_state : goal.returns-clause-balance_state
returns-clause-balance_state g c = balance_state-last c.args.self.now c.add_node.new.self (shape g.P.Plane.plain c.args.children) c.in_ok-node.node.0 c.in_ok-node.ensures.ok c.in_ok-node.ensures.made

pub returns-in_err-node-clause-grows : goal.returns-in_err-node-clause-grows
returns-in_err-node-clause-grows g c = grows-none c.args.self.now c.add_node.new.self c.in_err-node.ensures.err
