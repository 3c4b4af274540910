use Rattle.std.proofs.Common.{◌≡◌, map, take}
use Rattle.world_pages.specs.Pages.{table_document}
use Rattle.paged_world.proofs.tables.table_documents.Given as goal

abbrev pub invariant-loop-k : goal.invariant-loop-k
invariant-loop-k l = l.made.items ≡ map table_document (take l.k l.documents)
