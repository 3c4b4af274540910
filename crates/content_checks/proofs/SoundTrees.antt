-- Trees and tables that can stand together.
use Rattle.std.proofs.Common.{◌≡◌, ◌↔◌, ℕ, ◌<◌, ◌≤◌, Bool, true, false, IsTrue, List, length, arith, sym, ◌∙◌, true≢false}
use Rattle.std.specs.List.{All}
use Rattle.tumbler.specs.ListView.{ListView}
use Rattle.enfilade_core.specs.Rows.{Shape, rows_of}
use Rattle.page_tables.specs.declared.tables.TableDocument.{TableDocument}
use Rattle.page_tables.specs.Plain.{PlainTables}
use Rattle.content_checks.specs.Sound.{AreContents, IsShown, AreSound}

module _ (contents : List (Shape (ListView ℕ))) (nodes : List (Shape ℕ)) (tables : PlainTables) where
  pub no_root : length contents ≤ tables.granfilade → IsTrue false ↔ AreSound contents nodes tables
  no_root le = (λ never. absurd cc, λ are. let lt = are.there in absurd (omega arith))

  pub no_contents : (b : Bool) → b ≡ false → IsTrue b ↔ AreContents tables.documents (rows_of contents tables.granfilade) → IsTrue false ↔ AreSound contents nodes tables
  no_contents b none test = (λ never. absurd cc, λ are. absurd (true≢false (sym (test.1 are.content) ∙ none)))

  pub last_test : (b s : Bool) → tables.granfilade < length contents → b ≡ true → IsTrue b ↔ AreContents tables.documents (rows_of contents tables.granfilade) → IsTrue s ↔ All (λ (row : TableDocument). IsShown nodes tables row.root) tables.documents
      → IsTrue s ↔ AreSound contents nodes tables
  last_test b s lt right content shown = (λ all. record { there = lt; content = content.0 right; each = shown.0 all }, λ are. shown.1 are.each)
