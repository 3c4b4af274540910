use Rattle.std.proofs.Common.{sym}
use Rattle.access_table.proofs.Writers.{no_writer, other_writer, first_writer}
use Rattle.access_table.proofs.openings.Openings.writer.Goals as goal

pub returns-in_default-clause-none : goal.returns-in_default-clause-none
returns-in_default-clause-none c =
    no_writer c.self.inside.opened c.self.inside.writers c.args.self.now c.args.document.now c.copy.result c.range.result c.copy.ensures c.self.view_is c.self.invariant.1 (c.range.ensures.in_range tt) c.in_default.ensures.steps.0

pub returns-then-eq-clause-found : goal.returns-then-eq-clause-found
returns-then-eq-clause-found c =
    first_writer c.self.inside.opened c.self.inside.writers c.args.self.now c.args.document.now c.copy.result c.range.result c.copy.ensures c.self.view_is c.self.invariant.1 (c.range.ensures.in_range tt) c.in-Some.field-0.now _ c.in-Some.ensures.steps (sym c.if-eq.ensures)

pub returns-else-eq-clause-none : goal.returns-else-eq-clause-none
returns-else-eq-clause-none c =
    other_writer c.self.inside.opened c.self.inside.writers c.args.self.now c.args.document.now c.copy.result c.range.result c.copy.ensures c.self.view_is c.self.invariant.1 (c.range.ensures.in_range tt) c.in-Some.field-0.now _ c.in-Some.ensures.steps (sym c.if-eq.ensures)
