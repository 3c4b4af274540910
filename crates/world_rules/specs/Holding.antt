-- Who has a document open for writing.
use Rattle.std.specs.Prelude.{ℕ, ◌&&◌, Bool, List, Option}
use Rattle.std.specs.List.{find}
use Rattle.std.specs.Option.{option_map}
use Rattle.world_rules.specs.declared.rows.OpenRow.{OpenRow}
use Rattle.world_rules.specs.World.{World, is_same, is_write}

-- the row has the document open for writing
abbrev pub opens_for_writing : List ℕ → OpenRow → Bool
opens_for_writing document row = is_same row.document document && is_write row.mode

-- the session that has the document open for writing: that of the first such row, or none where there is no such row
abbrev pub holder : World → List ℕ → Option ℕ
holder world document = option_map (λ (row : OpenRow). row.session) (find (opens_for_writing document) world.open_rows)
