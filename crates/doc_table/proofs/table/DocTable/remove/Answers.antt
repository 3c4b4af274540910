use Rattle.std.proofs.Common.{subst}
use Rattle.doc_table.specs.inside.Kept.{IsAt}
use Rattle.doc_table.proofs.Changed.{remove_holds, remove_shows}
use Rattle.doc_table.proofs.table.DocTable.remove.Goals as goal

pub invariant_of-self : goal.invariant_of-self
invariant_of-self g c =
    remove_holds c.args.document.now c.self.inside.rows.items c.in-Some.at c.self.invariant.1 (subst (λ xs. IsAt c.args.document.now xs c.in-Some.at) c.as_slice.ensures.value c.in-Some.ensures.found) c.remove.result c.remove.new.self.items c.first_sibling.result
    c.self.inside.counts c.count_down.new.counts c.remove.ensures.items c.first_sibling.ensures c.self.invariant c.count_down.ensures

pub returns : goal.returns
returns g c =
    remove_shows c.args.document.now c.self.inside.rows.items c.in-Some.at c.self.invariant.1 (subst (λ xs. IsAt c.args.document.now xs c.in-Some.at) c.as_slice.ensures.value c.in-Some.ensures.found) c.remove.result c.remove.new.self.items c.args.self.now c.remove.ensures.items
    c.self.view_is
