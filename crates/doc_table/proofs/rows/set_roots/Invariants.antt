use Rattle.std.proofs.Common.{◌≡◌, take}
use Rattle.doc_table.specs.DocumentRows.{with_roots}
use Rattle.doc_table.specs.inside.Kept.{unboxed}
use Rattle.doc_table.proofs.rows.set_roots.Given as goal

abbrev pub invariant-loop-k : goal.invariant-loop-k
invariant-loop-k g l = unboxed l.rows.items ≡ with_roots (take l.k l.roots) (unboxed l.initial.rows.items)
