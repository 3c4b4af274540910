use Rattle.std.proofs.Common.{ap, subst, refl}
use Rattle.doc_table.specs.inside.Kept.{IsAt}
use Rattle.doc_table.proofs.Changed.{set_holds, set_shows, row_with_mark}
use Rattle.doc_table.proofs.table.DocTable.set_published.Goals as goal

pub invariant_of-self : goal.invariant_of-self
invariant_of-self g c =
    set_holds c.args.document.now c.self.inside.rows.items c.in-Some.at c.self.invariant.1 (subst (λ xs. IsAt c.args.document.now xs c.in-Some.at) c.as_slice.ensures.value c.in-Some.ensures.found) (row_with_mark c.args.mark) c.index_mut-row.result.now _ c.index_mut-row.ensures.value (ap (row_with_mark c.args.mark) c.deref_mut.ensures.value) (λ row. refl)
    c.self.inside.counts c.self.invariant

pub returns : goal.returns
returns g c =
    set_shows c.args.document.now c.self.inside.rows.items c.in-Some.at c.self.invariant.1 (subst (λ xs. IsAt c.args.document.now xs c.in-Some.at) c.as_slice.ensures.value c.in-Some.ensures.found) (row_with_mark c.args.mark) c.index_mut-row.result.now _ c.index_mut-row.ensures.value (ap (row_with_mark c.args.mark) c.deref_mut.ensures.value) c.args.self.now
    c.self.view_is
