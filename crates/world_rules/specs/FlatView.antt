-- What contracts see of the flat world.
use Rattle.std.specs.Prelude.{ℕ, ◌+◌, ◌==◌, List, [], ◌∷◌, Option, if◌then◌else◌}
use Rattle.std.specs.List.{fold, find}
use Rattle.std.specs.Option.{option_map, unwrap_or}
use Rattle.febe_data.specs.Plain.{PlainRequest, PlainEntry}
use Rattle.world_rules.specs.declared.rows.SessionRow.{SessionRow}
use Rattle.world_rules.specs.World.{World, empty_world}
use Rattle.world_rules.specs.Apply.{apply}
use Rattle.world_rules.specs.History.{is_durable}
use Rattle.world_rules.specs.Effects.{Effect, effect}

-- a world, how many counted entries made it, and how many entries each session has
pub record FlatView : Type 0 where
  pub world : World
  pub counted : ℕ
  pub sessions : List SessionRow

-- before any entry
abbrev pub nothing_yet : FlatView
nothing_yet = record { world = empty_world; counted = 0; sessions = [] }

-- one more entry of a session
abbrev pub with_entry : ℕ → List SessionRow → List SessionRow
with_entry session [] = record { session = session; entries = 1 } ∷ []
with_entry session (row ∷ rows) = if row.session == session then record row { entries = row.entries + 1 } ∷ rows else row ∷ with_entry session rows

-- one entry more
abbrev pub after_entry : FlatView → PlainEntry → FlatView
after_entry view entry =
    record { world = apply view.world entry; counted = if is_durable entry.change then view.counted + 1 else view.counted; sessions = with_entry entry.session view.sessions }

-- after all entries of a history
abbrev pub view_of : List PlainEntry → FlatView
view_of history = fold after_entry nothing_yet history

-- how many entries a session has
abbrev pub entries_in : List SessionRow → ℕ → ℕ
entries_in rows session = unwrap_or (option_map (λ (row : SessionRow). row.entries) (find (λ (row : SessionRow). row.session == session) rows)) 0

-- the entry of a session's change
abbrev pub entry_in : FlatView → ℕ → Effect → PlainEntry
entry_in view session made = record { session = session; serial = entries_in view.sessions session + 1; change = made.change }

-- the entry that a request makes, or none where it is a query
abbrev pub entry_for : FlatView → ℕ → PlainRequest → Option PlainEntry
entry_for view session request = option_map (entry_in view session) (effect view.world session request)
