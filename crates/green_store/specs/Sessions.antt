-- Sessions in a history: their numbers, and the entries that begin and end them.
use Rattle.std.specs.Prelude.{ℕ, max, List}
use Rattle.std.specs.List.{fold}
use Rattle.febe_data.specs.Plain.{PlainEntry, began, ended}
use Rattle.world_rules.specs.History.{next_serial}

-- the greatest session number in a history; 0 where there is no entry of a session
abbrev pub greatest_session : List PlainEntry → ℕ
greatest_session history = fold (λ greatest (e : PlainEntry). max greatest e.session) 0 history

-- a session begins, with its first entry
abbrev pub begin_entry : ℕ → PlainEntry
begin_entry session = record { session = session; serial = 1; change = began }

-- a session ends, after this history
abbrev pub end_entry : List PlainEntry → ℕ → PlainEntry
end_entry before session = record { session = session; serial = next_serial before session; change = ended }
