-- What documents show, as runs. Only private functions cite this.
use Rattle.std.specs.Prelude.{◌≡◌, ℕ, List, [], ◌∷◌, ◌++◌, All}
use Rattle.tumbler.specs.declared.span.Span.{Span}
use Rattle.febe_data.specs.declared.run.Run.{Run}
use Rattle.enfilade_core.specs.Rows.{Shape, rows_of}
use Rattle.page_tables.specs.declared.tables.TableDocument.{TableDocument}
use Rattle.poom.specs.Edited.{IsContentRun, run_addresses}
use Rattle.poom.specs.Laid.{texts}

-- the V-addresses of all text
abbrev pub whole_text : Span
whole_text = record { start = 1 ∷ []; width = 1 ∷ [] }

-- the runs show a document's text, read through the document
pub record AreTextRuns (nodes : List (Shape ℕ)) (row : TableDocument) (runs : List Run) : Type 0 where
  pub bytes : run_addresses runs ≡ texts (rows_of nodes row.root)
  pub origin : All (λ (run : Run). run.origin ≡ row.document) runs
  pub content : All IsContentRun runs

-- the runs show the text of the documents, one document after another
abbrev pub AreRunsOf : List (Shape ℕ) → List TableDocument → List Run → Type 0
AreRunsOf nodes [] runs = runs ≡ []
AreRunsOf nodes (row ∷ rows) runs = (own : List Run) × (more : List Run) × AreTextRuns nodes row own × AreRunsOf nodes rows more × (runs ≡ own ++ more)
