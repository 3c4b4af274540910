use Rattle.std.proofs.Common.{◌++◌, List, sym, subst}
use Rattle.std.specs.List.{All}
use Rattle.std.specs.List.Sorted.{IsPermutation}
use Rattle.std.proofs.lemmas.List.Sorted.{All-permutation}
use Rattle.tumbler.specs.declared.span.Span.{Span}
use Rattle.tumbler.specs.Span.{SpanFits}
use Rattle.enfilade_core.specs.Rows.{rows_of}
use Rattle.spanfilade.specs.Index.{IndexTree, rows_in_index, rows_for}
use Rattle.spanfilade.proofs.GroupRows.{rows_sorted}
use Rattle.spanfilade.proofs.spanfilade.Spanfilade.add_all.Goals as goal

pub put_all-requires-clause-fit : goal.put_all-requires-clause-fit
put_all-requires-clause-fit c =
    subst (All SpanFits) (sym c.as_slice-2.ensures.value) (All-permutation SpanFits c.as_slice.result.now c.in_ok-sorted.sorted.items c.in_ok-sorted.ensures.moved (subst (All SpanFits) (sym c.as_slice.ensures) c.requires))

pub returns-clause-added : goal.returns-clause-added
returns-clause-added c =
    let new = rows_of c.put_all.new.arena c.in_ok-self-inside.field-0.0 in
    subst (λ (tree : IndexTree). IsPermutation (rows_for c.args.spans.now.items c.args.key.now ++ rows_in_index tree) new) c.self.view_is
    (rows_sorted c.args.spans.now.items c.in_ok-sorted.sorted.items c.as_slice-2.result.now c.args.key.now (rows_of c.self.inside.arena c.self.inside.root.0) new
    (subst (λ (xs : List Span). IsPermutation xs c.in_ok-sorted.sorted.items) c.as_slice.ensures c.in_ok-sorted.ensures.moved) c.as_slice-2.ensures.value c.in_ok-self-inside.ensures.rows)
