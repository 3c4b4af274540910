use Rattle.doc_table.proofs.RootsSet.{roots_hold}
use Rattle.doc_table.proofs.table.DocTable.set_roots.Goals as goal

pub invariant_of-self : goal.invariant_of-self
invariant_of-self g c = roots_hold c.self.inside.rows.items c.set_roots.new.rows.items c.args.roots.now c.self.inside.counts c.set_roots.ensures c.self.invariant
