-- The roots of a world's own documents, among the rows of its tables.
use Rattle.std.proofs.Common.{◌≡◌, ◌∙◌, ℕ, List, sym, ap, subst}
use Rattle.std.specs.Prelude.{All}
use Rattle.std.proofs.lemmas.List.Elements.{All-map}
use Rattle.enfilade_core.specs.declared.tree.Node.{Node}
use Rattle.enfilade_core.specs.Rows.{Shape}
use Rattle.poom.specs.Laid.{IsRoot}
use Rattle.doc_table.specs.declared.rows.DocumentRow.{DocumentRow}
use Rattle.page_tables.specs.declared.tables.TableDocument.{TableDocument}
use Rattle.page_tables.specs.Plain.{PlainTables}
use Rattle.tree_world.specs.Trees.{Trees}
use Rattle.world_pages.specs.Pages.{table_document, tables_of_world}
use Rattle.paged_world.specs.inside.Same.{AreRoots}

pub own_roots : (world : Trees) (nodes : List (Shape ℕ)) (own : PlainTables) (rows : List TableDocument) → nodes ≡ world.nodes → own ≡ tables_of_world world → rows ≡ own.documents
    → All (λ (row : DocumentRow Node). IsRoot world.nodes row.root.0) world.documents → AreRoots nodes rows
own_roots world nodes own rows same is rows_are stand =
    subst (λ (some : List (Shape ℕ)). AreRoots some rows) (sym same)
    (subst (AreRoots world.nodes) (sym (rows_are ∙ ap (λ (t : PlainTables). t.documents) is)) (All-map (λ (row : TableDocument). IsRoot world.nodes row.root) table_document world.documents stand))
