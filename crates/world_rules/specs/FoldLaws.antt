-- What is seen of a history, part by part.
use Rattle.std.specs.Prelude.{◌≡◌, ℕ, List, length}
use Rattle.febe_data.specs.Plain.{PlainEntry}
use Rattle.world_rules.specs.Apply.{world_of}
use Rattle.world_rules.specs.History.{durable_entries, entries_of}
use Rattle.world_rules.specs.FlatView.{view_of, entries_in}

-- its world is the one that the history has built
abbrev pub FoldsToWorld : Type 0
FoldsToWorld = (history : List PlainEntry) → (view_of history).world ≡ world_of history

-- its number is that of the kept entries
abbrev pub CountsKept : Type 0
CountsKept = (history : List PlainEntry) → (view_of history).counted ≡ length (durable_entries history)

-- each session has as many entries as the history has of it
abbrev pub CountsEntries : Type 0
CountsEntries = (history : List PlainEntry) (session : ℕ) → entries_in (view_of history).sessions session ≡ length (entries_of session history)
