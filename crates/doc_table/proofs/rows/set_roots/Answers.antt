use Rattle.std.proofs.Common.{ap, refl, arith}
use Rattle.doc_table.proofs.RootsSet.{still_long, next_set}
use Rattle.doc_table.proofs.Changed.{row_with_root}
use Rattle.doc_table.proofs.rows.set_roots.Goals as goal

pub index_mut-row-requires : goal.index_mut-row-requires
index_mut-row-requires g c =
    let long = still_long c.loop-k.rows.items c.args.rows.now.items c.args.roots.now c.loop-k.k c.loop-k.invariant in
    omega (arith, c.loop-k.rows.ok.0, long, c.loop-k-test.true, c.requires)

pub loop-k-preserved : goal.loop-k-preserved
loop-k-preserved g c =
    next_set c.loop-k.rows.items c.args.rows.now.items _ c.args.roots.now c.loop-k.k c.index-roots-k.result c.index_mut-row.result.now _ c.requires c.loop-k-test.true c.loop-k.invariant c.index_mut-row.ensures.value c.index-roots-k.is
    (ap (row_with_root c.index-roots-k.result) c.deref_mut.ensures.value) refl
