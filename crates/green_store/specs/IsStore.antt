-- What holds inside a store.
use Rattle.std.specs.Prelude.{◌≡◌, ℕ, ◌≤◌, ◌==◌, List, length}
use Rattle.std.specs.List.{list_any}
use Rattle.febe_data.specs.Plain.{PlainEntry}
use Rattle.entry_codec.specs.Logged.{timed}
use Rattle.world_rules.specs.FlatView.{FlatView, view_of}
use Rattle.world_rules.specs.History.{is_live, durable_entries}
use Rattle.entry_fits.specs.Laws.{IsRegular}
use Rattle.edit_log.specs.Images.{AreEntries}
use Rattle.green_store.specs.Sessions.{greatest_session}

-- The world stands for what the history has built, the live sessions and the greatest number are those of the history, and
-- there is room for the end of each live session. The history is regular, and there is a moment for each of its kept
-- entries, which with these are such as a log may have. The pages stand for no more entries than there are.
pub record IsStore (history : List PlainEntry) (moments : List ℕ) (room : ℕ) (stands : FlatView → Type 0) (live : List ℕ) (greatest flushed : ℕ) : Type 0 where
  pub world_stands : stands (view_of history)
  pub live_are : (session : ℕ) → list_any (λ s. s == session) live ≡ is_live history session
  pub greatest_is : greatest ≡ greatest_session history
  pub room_kept : length live ≤ room
  pub regular : IsRegular history
  pub timed_all : length moments ≡ length (durable_entries history)
  pub entries : AreEntries (timed (durable_entries history) moments)
  pub saved : flushed ≤ length (durable_entries history)
