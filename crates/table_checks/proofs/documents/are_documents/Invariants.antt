use Rattle.std.proofs.Common.{All, take}
use Rattle.tumbler.specs.Address.{IsDocument}
use Rattle.page_tables.specs.declared.tables.TableDocument.{TableDocument}
use Rattle.table_checks.proofs.documents.are_documents.Given as goal

abbrev pub invariant-loop-row : goal.invariant-loop-row
invariant-loop-row l = All (λ (row : TableDocument). IsDocument row.document) (take l.row-index l.rows)
