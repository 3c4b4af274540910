use Rattle.std.proofs.Common.{true, Some, refl}
use Rattle.febe_data.specs.declared.access.Mode.TheVariants.{Write}
use Rattle.access_table.proofs.Writers.{opened_rows, writers_changed, writers_back}
use Rattle.access_table.proofs.openings.Openings.open_to_write.Goals as goal

pub invariant_of-self-in-Ok : goal.invariant_of-self-in-Ok
invariant_of-self-in-Ok c = (
  c.insert-2.ensures.ordered,
  writers_changed c.args.session c.args.document.now c.copy-2.result c.copy.result c.self.inside.opened c.insert-2.new.self c.self.inside.writers c.insert.new.self (Some Write) true c.copy-2.ensures c.copy.ensures refl
      c.self.invariant.1 c.in-Ok.ensures.updates.0 c.in_ok-insert.ensures.updates.0,
)

pub invariant_of-self-in_default : goal.invariant_of-self-in_default
invariant_of-self-in_default c = (
  c.insert-2.ensures.ordered,
  writers_back c.args.session c.args.document.now c.copy-2.result c.copy.result c.copy-in_default.result c.self.inside.opened c.insert-2.new.self c.self.inside.writers c.insert.new.self c.remove.new.self c.copy-2.ensures
      c.copy.ensures c.copy-in_default.ensures c.self.invariant.1 c.in_default.ensures.absent c.in_default.ensures.err c.in_ok-insert.ensures.updates.0 c.remove.ensures.updates.0,
)

pub returns-clause-opened : goal.returns-clause-opened
returns-clause-opened c =
    opened_rows c.args.session c.args.document.now c.copy-2.result Write c.self.inside.opened c.insert-2.new.self c.args.self.now c.copy-2.ensures c.self.view_is c.self.invariant.0 c.in-Ok.ensures.entries
