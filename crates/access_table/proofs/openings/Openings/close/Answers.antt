use Rattle.std.proofs.Common.{false, None, refl}
use Rattle.access_table.proofs.Writers.{closed_rows, writers_changed}
use Rattle.access_table.proofs.openings.Openings.close.Goals as goal

pub invariant_of-self : goal.invariant_of-self
invariant_of-self c = (
  c.remove.ensures.ordered,
  writers_changed c.args.session c.args.document.now c.copy.result c.copy-2.result c.self.inside.opened c.remove.new.self c.self.inside.writers c.remove-2.new.self None false c.copy.ensures c.copy-2.ensures refl
      c.self.invariant.1 c.remove.ensures.updates.0 c.remove-2.ensures.updates.0,
)

pub returns : goal.returns
returns c =
    closed_rows c.args.session c.args.document.now c.copy.result c.self.inside.opened c.remove.new.self c.args.self.now c.copy.ensures c.self.view_is c.self.invariant.0 c.remove.ensures.entries
