use Rattle.std.proofs.Common.{refl, sym, ◌∙◌, []}
use Rattle.enfilade_core.specs.Rows.{Rows}
use Rattle.enfilade_core.specs.Rows.{rows_in, rows_table}
use Rattle.enfilade_core.specs.Plain.{shape}
use Rattle.enfilade_core.proofs.Rooted.{grows_if, rows_if, rows_if_none, level_if, level_if_none}
use Rattle.enfilade_core.proofs.arena.Arena.rooted.Goals as goal

pub returns-then-is_empty-clause-rows : goal.returns-then-is_empty-clause-rows
returns-then-is_empty-clause-rows g c =
    rows_if c.args.self.now c.empty.new.self (Rows []) (rows_in (rows_table c.args.self.now) (shape g.P.Plane.plain c.args.children)) c.empty.result c.empty.ensures.ok c.empty.ensures.made
    (sym (rows_if_none g.P.Plane.plain (rows_table c.args.self.now) c.args.children (sym c.is_empty.ensures ∙ c.if-is_empty.true)))

pub returns-clause-grows : goal.returns-clause-grows
returns-clause-grows g c = grows_if c.args.self.now c.add_node.new.self (shape g.P.Plane.plain c.args.children) c.add_node.result c.add_node.ensures.ok c.add_node.ensures.err

pub returns-clause-rows : goal.returns-clause-rows
returns-clause-rows g c =
    rows_if c.args.self.now c.add_node.new.self (shape g.P.Plane.plain c.args.children) (rows_in (rows_table c.args.self.now) (shape g.P.Plane.plain c.args.children)) c.add_node.result c.add_node.ensures.ok c.add_node.ensures.made refl

pub returns-then-is_empty-clause-level : goal.returns-then-is_empty-clause-level
returns-then-is_empty-clause-level g c =
    level_if_none g.P.Plane.widths c.args.self.now c.empty.new.self (shape g.P.Plane.plain c.args.children) c.empty.result (rows_if_none g.P.Plane.plain (rows_table c.args.self.now) c.args.children (sym c.is_empty.ensures ∙ c.if-is_empty.true))

pub returns-clause-level : goal.returns-clause-level
returns-clause-level g c = level_if g.P.Plane.widths c.args.self.now c.add_node.new.self (shape g.P.Plane.plain c.args.children) c.add_node.result c.add_node.ensures.ok c.add_node.ensures.made
