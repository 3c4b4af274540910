-- Which addresses an index has for a document.
use Rattle.std.specs.Prelude.{ℕ, ◌&&◌, Bool, List, All, IsTrue}
use Rattle.std.specs.List.{list_any}
use Rattle.febe_data.specs.declared.run.Run.{Run}
use Rattle.enfilade_core.specs.declared.tree.Row.{Row}
use Rattle.spanfilade.specs.Index.{IndexTree, rows_in_index, row_end}
use Rattle.world_rules.specs.World.{is_same}
use Rattle.world_rules.specs.Picking.{is_between}
use Rattle.poom.specs.Pieces.{addresses_from}

-- the row of an index is the document's, and its span has the address
abbrev pub covers : List ℕ → List ℕ → Row (List ℕ) → Bool
covers document address row = is_same row.second document && is_between row.first (row_end row) address

-- the index has the address for the document
abbrev pub IsCovered : IndexTree → List ℕ → List ℕ → Type 0
IsCovered index document address = IsTrue (list_any (covers document address) (rows_in_index index))

-- the index has all bytes of the run, for the document that shows it
abbrev pub IsRunCovered : IndexTree → Run → Type 0
IsRunCovered index run = All (IsCovered index run.origin) (addresses_from 1 run.content run.first run.length)
