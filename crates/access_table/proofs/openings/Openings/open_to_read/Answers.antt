use Rattle.std.proofs.Common.{false, Some, refl}
use Rattle.febe_data.specs.declared.access.Mode.TheVariants.{Read}
use Rattle.access_table.proofs.Writers.{opened_rows, writers_changed}
use Rattle.access_table.proofs.openings.Openings.open_to_read.Goals as goal

pub invariant_of-self-2 : goal.invariant_of-self-2
invariant_of-self-2 c = (
  c.insert.ensures.ordered,
  writers_changed c.args.session c.args.document.now c.copy.result c.copy-2.result c.self.inside.opened c.insert.new.self c.self.inside.writers c.remove.new.self (Some Read) false c.copy.ensures c.copy-2.ensures refl
      c.self.invariant.1 c.in_ok-insert.ensures.updates.0 c.remove.ensures.updates.0,
)

pub returns-clause-opened : goal.returns-clause-opened
returns-clause-opened c =
    opened_rows c.args.session c.args.document.now c.copy.result Read c.self.inside.opened c.insert.new.self c.args.self.now c.copy.ensures c.self.view_is c.self.invariant.0 c.in_ok-insert.ensures.entries
