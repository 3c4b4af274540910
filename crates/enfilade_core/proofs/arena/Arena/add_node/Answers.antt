use Rattle.std.proofs.Common.{length, arith, ap, sym, subst}
use Rattle.enfilade_core.specs.StoredNode.{IsArena}
use Rattle.enfilade_core.specs.Plain.{shape}
use Rattle.enfilade_core.proofs.Parts.{well_formed_names_below}
use Rattle.enfilade_core.proofs.Arenas.{arena-add}
use Rattle.enfilade_core.proofs.arena.Arena.add_node.Goals as goal

pub children_balance_state-balance_state-requires : goal.children_balance_state-balance_state-requires
children_balance_state-balance_state-requires g c = well_formed_names_below g.P.Plane.widths c.args.self.now (shape g.P.Plane.plain c.args.children) (length c.args.self.now) (omega arith) c.requires.branches

pub invariant_of-self : goal.invariant_of-self
invariant_of-self g c = subst (IsArena g.P.Plane.plain g.P.Plane.widths) (ap (λ list. list.items) (sym c.in_err-push.ensures.err)) c.self.invariant

pub invariant_of-self-2 : goal.invariant_of-self-2
invariant_of-self-2 g c =
    (arena-add g.P.Plane.plain g.P.Plane.widths c.self.inside.nodes.items c.push.new.self.items c.args.self.now record { children = c.args.children; summary = c.children_told-summary.result; balance_state = c.children_balance_state-balance_state.result }
    c.self.view_is c.in_ok-push.ensures.ok c.self.invariant c.requires c.children_told-summary.ensures c.children_balance_state-balance_state.ensures).arena

pub returns-clause-ok : goal.returns-clause-ok
returns-clause-ok g c =
    (arena-add g.P.Plane.plain g.P.Plane.widths c.self.inside.nodes.items c.push.new.self.items c.args.self.now record { children = c.args.children; summary = c.children_told-summary.result; balance_state = c.children_balance_state-balance_state.result }
    c.self.view_is c.in_ok-push.ensures.ok c.self.invariant c.requires c.children_told-summary.ensures c.children_balance_state-balance_state.ensures).view
