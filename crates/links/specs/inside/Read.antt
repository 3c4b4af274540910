-- What a search keeps of ids and of rows: what is of links that may be read.
use Rattle.std.specs.Prelude.{ℕ, Bool, List, [], ◌∷◌, if◌then◌else◌, filter}
use Rattle.std.specs.BTreeSet.{insert_key}
use Rattle.enfilade_core.specs.declared.tree.Row.{Row}
use Rattle.world_rules.specs.World.{LinkRow}
use Rattle.links.specs.LinkLists.{link_in}
use Rattle.links.specs.Readable.{is_read}
use Rattle.links.specs.inside.Pairs.{pair_of, pair_cmp}

-- the id, or none
abbrev pub id_if_read : (List ℕ → Bool) → List LinkRow → List ℕ → List (List ℕ)
id_if_read may links id = if is_read may (link_in links id) then id ∷ [] else []

-- the row is of a link that may be read
abbrev pub is_row_read : (List ℕ → Bool) → List LinkRow → Row (List ℕ) → Bool
is_row_read may links row = is_read may (link_in links row.second)

-- the rows that are
abbrev pub rows_read : (List ℕ → Bool) → List LinkRow → List (Row (List ℕ)) → List (Row (List ℕ))
rows_read may links rows = filter (is_row_read may links) rows

-- the row's pair comes in, or nothing does
abbrev pub with_pair_if_read : (List ℕ → Bool) → List LinkRow → List (List ℕ × List ℕ) → Row (List ℕ) → List (List ℕ × List ℕ)
with_pair_if_read may links pairs row = if is_row_read may links row then insert_key pair_cmp pairs (pair_of row) else pairs
