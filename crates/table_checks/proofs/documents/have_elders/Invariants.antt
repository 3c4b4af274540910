use Rattle.std.proofs.Common.{All, take}
use Rattle.page_tables.specs.declared.tables.TableDocument.{TableDocument}
use Rattle.table_checks.specs.Sound.{HasElder}
use Rattle.table_checks.proofs.documents.have_elders.Given as goal

abbrev pub invariant-loop-row : goal.invariant-loop-row
invariant-loop-row l = All (λ (row : TableDocument). HasElder l.rows row.document) (take l.row-index l.rows)
