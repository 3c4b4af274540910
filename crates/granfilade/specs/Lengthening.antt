-- The last row in front of a put, where new bytes lengthen it. Only private functions cite this.
use Rattle.std.specs.Prelude.{◌≡◌, ℕ, Some, List, ◌++◌}
use Rattle.tumbler.specs.ListView.{ListView}
use Rattle.enfilade_core.specs.declared.tree.Row.{Row}
use Rattle.enfilade_core.specs.Edits.{last_before}
use Rattle.granfilade.specs.declared.lengthened.Lengthened.{Lengthened}
use Rattle.granfilade.specs.Puts.{end_of_row}

-- the last row before the start ends there; the longer one begins as it does, and has its bytes and then the new ones
pub record Lengthens (start bytes : List ℕ) (rows : List (Row (ListView ℕ))) (made : Lengthened) : Type 0 where
  pub row : Row (ListView ℕ)
  pub last : last_before start rows ≡ Some row
  pub ends : end_of_row row ≡ start
  pub place : made.from ≡ row.first
  pub text : made.text.items ≡ row.leaf.items ++ bytes
