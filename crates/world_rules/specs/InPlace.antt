-- Changes that never want for memory, and when the count of an entry does not.
use Rattle.std.specs.Prelude.{ℕ, ◌+◌, ◌==◌, ◌^◌, ◌<◌, List, IsTrue}
use Rattle.std.specs.List.{list_any}
use Rattle.febe_data.specs.declared.entry.Change.{Change}
use Rattle.febe_data.specs.declared.entry.Change.TheVariants.{Restart, Begin, End}
use Rattle.world_rules.specs.declared.rows.SessionRow.{SessionRow}
use Rattle.world_rules.specs.FlatView.{entries_in}

-- a restart and an end only drop rows, and a begin leaves them
abbrev pub DropsOnly : Change → Type 0
DropsOnly Restart = Unit {0}
DropsOnly Begin = Unit {0}
DropsOnly End = Unit {0}
DropsOnly other = ⊥

-- the session has an entry, and one more can be counted
pub record HasRoom (rows : List SessionRow) (session : ℕ) : Type 0 where
  pub known : IsTrue (list_any (λ (row : SessionRow). row.session == session) rows)
  pub countable : entries_in rows session + 1 < 2 ^ 64
