-- Bytes that stand one after another, as they lie in the rows of a tree. Only private functions cite this.
use Rattle.std.specs.Prelude.{◌≢◌, ℕ, ◌+◌, ◌≤◌, ◌<◌, List, [], length}
use Rattle.std.specs.List.{flat_map}
use Rattle.tumbler.specs.ListView.{ListView}
use Rattle.tumbler.specs.Places.{place_bound, sum, Fits}
use Rattle.enfilade_core.specs.declared.tree.Row.{Row}
use Rattle.granfilade.specs.Content.{ByteAt, laid}
use Rattle.granfilade.specs.Steps.{last_of}
use Rattle.tree_compare.specs.declared.stretch.Stretch.{Stretch}

-- how many bytes a stretch has
abbrev pub byte_count : Stretch → ℕ
byte_count stretch = length stretch.bytes.now

-- the bytes of a stretch, each at its address
abbrev pub laid_stretch : Stretch → List ByteAt
laid_stretch stretch = laid stretch.start stretch.bytes.now

-- those of stretches, one after another
abbrev pub laid_stretches : List Stretch → List ByteAt
laid_stretches stretches = flat_map laid_stretch stretches

-- some bytes from a place on, all of which have addresses
pub record IsStretch (stretch : Stretch) : Type 0 where
  pub placed : stretch.start ≢ []
  pub filled : 1 ≤ length stretch.bytes.now
  pub room : last_of stretch.start + length stretch.bytes.now < place_bound

-- the bytes of a row that is seen from a base
abbrev pub laid_row_at : List ℕ → Row (ListView ℕ) → List ByteAt
laid_row_at first row = laid (sum first row.first) row.leaf.items

abbrev pub laid_at : List ℕ → List (Row (ListView ℕ)) → List ByteAt
laid_at first rows = flat_map (laid_row_at first) rows

-- a row that is seen from a base has some bytes, all of which have addresses
pub record LiesAt (first : List ℕ) (row : Row (ListView ℕ)) : Type 0 where
  pub fits : Fits first row.first
  pub placed : sum first row.first ≢ []
  pub filled : 1 ≤ length row.leaf.items
  pub room : last_of (sum first row.first) + length row.leaf.items < place_bound
