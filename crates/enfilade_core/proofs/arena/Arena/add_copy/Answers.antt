use Rattle.std.proofs.Common.{◌++◌, List, map, ap, ◌∙◌}
use Rattle.enfilade_core.specs.declared.tree.Row.{Row}
use Rattle.enfilade_core.specs.declared.tree.Children.TheVariants.{Bottom}
use Rattle.enfilade_core.specs.Rows.{Rows, node_at, rows_under}
use Rattle.enfilade_core.specs.Plain.{plain_row}
use Rattle.enfilade_core.proofs.Copies.{copy-added}
use Rattle.enfilade_core.proofs.arena.Arena.add_copy.Goals as goal

pub invariant_of-self-2 : goal.invariant_of-self-2
invariant_of-self-2 g c =
    (copy-added g.P.Plane.plain g.P.Plane.widths c.self.inside.nodes.items c.push.new.self.items c.args.self.now c.args.other.now c.args.node.0
    record { children = Bottom c.append_copies.new.into; summary = c.copy.result; balance_state = c.balance_state.result }
    c.self.view_is c.in_ok-push.ensures.ok c.self.invariant c.summary.ensures.well_formed c.requires.below (rows_under (node_at c.args.other.now c.args.node.0)) c.requires.bottom
    (ap Rows (c.in_ok-append_copies.ensures ∙ ap (λ (rows : List (Row _)). map (plain_row g.P.Plane.plain) rows ++ map (plain_row g.P.Plane.plain) c.rows_under-held.result.now) (c.reserve.ensures.items ∙ c.new-rows.ensures.items) ∙ c.rows_under-held.ensures))
    (c.copy.ensures ∙ c.summary.ensures.told) c.balance_state.ensures).arena
