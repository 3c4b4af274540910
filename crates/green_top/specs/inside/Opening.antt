-- A session that begins.
use Rattle.std.specs.Prelude.{◌≡◌, ℕ, false, List, [], ◌∷◌, ◌++◌}
use Rattle.febe_data.specs.Plain.{PlainEntry}
use Rattle.world_rules.specs.History.{is_live, entries_of}
use Rattle.green_store.specs.Sessions.{begin_entry}

-- the session's Begin was added, as its first entry
pub record Begins (session : ℕ) (opened begun : List PlainEntry) : Type 0 where
  pub grows : begun ≡ opened ++ begin_entry session ∷ []
  pub no_entry : entries_of session opened ≡ []
  pub not_live : is_live opened session ≡ false
