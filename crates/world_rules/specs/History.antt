-- Which entries of a history are kept, whose sessions are live, and how entries are numbered.
use Rattle.std.specs.Prelude.{ℕ, ◌+◌, ◌==◌, ◌&&◌, ◌||◌, Bool, true, false, not, List, [], ◌∷◌, ◌++◌, length, filter}
use Rattle.std.specs.List.{fold}
use Rattle.febe_data.specs.Plain.{PlainChange, PlainEntry, restarted, began, ended, account_changed, document_opened, document_closed, document_created, version_made, copy_opened, text_inserted, span_deleted, blocks_swapped, specs_copied, link_made, document_published}

-- the changes that the limits count, and that are kept over a restart: those of documents, content and links, and what is published
abbrev pub is_durable : PlainChange → Bool
is_durable restarted = false
is_durable began = false
is_durable ended = false
is_durable (account_changed account) = false
is_durable (document_opened document mode) = false
is_durable (document_closed document) = false
is_durable (document_created document) = true
is_durable (version_made source document) = true
is_durable (copy_opened source document) = true
is_durable (text_inserted document at first text) = true
is_durable (span_deleted document span) = true
is_durable (blocks_swapped document cuts) = true
is_durable (specs_copied document at specs) = true
is_durable (link_made home number place from to three) = true
is_durable (document_published document) = true

-- the counted entries, in their order
abbrev pub durable_entries : List PlainEntry → List PlainEntry
durable_entries history = filter (λ e. is_durable e.change) history

-- the entry of a restart, which is of no session
abbrev pub restart_entry : PlainEntry
restart_entry = record { session = 0; serial = 0; change = restarted }

-- what a back end has of its history when it begins again: the kept entries, then a restart
abbrev pub recovered : List PlainEntry → List PlainEntry
recovered history = durable_entries history ++ restart_entry ∷ []

-- a session is live from its Begin on, until its End or a Restart
abbrev pub live_after : ℕ → Bool → PlainEntry → Bool
live_after session live entry = live_by entry.change
  where
    live_by : PlainChange → Bool
    live_by restarted = false
    live_by began = (entry.session == session) || live
    live_by ended = not (entry.session == session) && live
    live_by other = live

abbrev pub is_live : List PlainEntry → ℕ → Bool
is_live history session = fold (live_after session) false history

-- the entries of one session, in their order
abbrev pub entries_of : ℕ → List PlainEntry → List PlainEntry
entries_of session history = filter (λ e. e.session == session) history

-- the serial of a session's next entry
abbrev pub next_serial : List PlainEntry → ℕ → ℕ
next_serial history session = length (entries_of session history) + 1
