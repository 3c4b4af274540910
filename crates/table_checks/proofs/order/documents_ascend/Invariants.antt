use Rattle.page_tables.specs.declared.tables.TableDocument.{TableDocument}
use Rattle.table_checks.proofs.Ordered.{Adjacent}
use Rattle.table_checks.proofs.order.documents_ascend.Given as goal

abbrev pub invariant-loop-k : goal.invariant-loop-k
invariant-loop-k l = Adjacent (λ (row : TableDocument). row.document) l.rows l.k
