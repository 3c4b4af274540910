-- Entries with their moments.
use Rattle.std.specs.Prelude.{ℕ, List, [], ◌∷◌, map}
use Rattle.febe_data.specs.Plain.{PlainEntry, plain_entry}
use Rattle.entry_codec.specs.declared.logged.Logged.{Logged}

-- an entry, and when it was made, in milliseconds since the year 1970 began
pub record PlainLogged : Type 0 where
  pub entry : PlainEntry
  pub moment : ℕ

-- an entry that was made at this moment
abbrev pub made_at_moment : PlainEntry → ℕ → PlainLogged
made_at_moment entry moment = record { entry = entry; moment = moment }

-- an entry whose moment was not logged: 0 stands for it
abbrev pub untimed : PlainEntry → PlainLogged
untimed entry = made_at_moment entry 0

abbrev pub plain_logged : Logged → PlainLogged
plain_logged logged = made_at_moment (plain_entry logged.entry) logged.moment

abbrev pub plain_log : List Logged → List PlainLogged
plain_log rows = map plain_logged rows

-- the entries of a log, without their moments
abbrev pub entries_of : List PlainLogged → List PlainEntry
entries_of rows = map (λ row. row.entry) rows

-- and the moments
abbrev pub moments_of : List PlainLogged → List ℕ
moments_of rows = map (λ row. row.moment) rows

-- each entry with the moment at its place
abbrev pub timed : List PlainEntry → List ℕ → List PlainLogged
timed [] moments = []
timed (entry ∷ entries) [] = []
timed (entry ∷ entries) (moment ∷ moments) = made_at_moment entry moment ∷ timed entries moments
