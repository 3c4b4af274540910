-- New rows for bytes that are put. Only private functions cite this.
use Rattle.std.specs.Prelude.{◌≡◌, ℕ, List, length, All}
use Rattle.tumbler.specs.ListView.{ListView}
use Rattle.tumbler.specs.Places.{IsUpTo}
use Rattle.enfilade_core.specs.declared.tree.Row.{Row}
use Rattle.enfilade_core.specs.Axes.{IsWellFormedRow}
use Rattle.enfilade_core.specs.Planes.{content_widths}
use Rattle.granfilade.specs.Content.{so_far_on, laid, laid_out}
use Rattle.granfilade.specs.Puts.{IsLeaf, end_of_row, Linked}

-- rows that have these bytes from a start on, and reach no further
pub record AreLeaves (start bytes : List ℕ) (rows : List (Row (ListView ℕ))) : Type 0 where
  pub are_laid : laid_out rows ≡ laid start bytes
  pub well_formed : All (IsWellFormedRow content_widths) rows
  pub leaves : All IsLeaf rows
  pub past : All (λ row. IsUpTo start row.first) rows
  pub ended : All (λ row. IsUpTo (end_of_row row) (so_far_on start (length bytes))) rows
  pub apart : Linked end_of_row rows
