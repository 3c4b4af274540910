-- What two trees of contents have in common once they hold the same bytes.
use Rattle.std.specs.Prelude.{◌≡◌, ℕ, List, IsPermutation}
use Rattle.tumbler.specs.ListView.{ListView}
use Rattle.enfilade_core.specs.declared.tree.Row.{Row}
use Rattle.granfilade.specs.Content.{laid_out}
use Rattle.granfilade.specs.Puts.{IsContent}

-- rows of contents that have the same bytes at the same addresses, in whatever order, have them in the same order
abbrev pub SameBytesInOrder : Type 0
SameBytesInOrder = (rows others : List (Row (ListView ℕ))) → IsContent rows → IsContent others → IsPermutation (laid_out rows) (laid_out others) → laid_out rows ≡ laid_out others
