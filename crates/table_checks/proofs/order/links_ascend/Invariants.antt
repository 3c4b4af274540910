use Rattle.page_tables.specs.declared.tables.TableLink.{TableLink}
use Rattle.table_checks.proofs.Ordered.{Adjacent}
use Rattle.table_checks.proofs.order.links_ascend.Given as goal

abbrev pub invariant-loop-k : goal.invariant-loop-k
invariant-loop-k l = Adjacent (λ (link : TableLink). link.id) l.links l.k
