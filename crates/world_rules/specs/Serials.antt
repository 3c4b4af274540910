-- Serials count the entries of the sessions that began after the last Restart.
use Rattle.std.specs.Prelude.{◌≡◌, ◌≢◌, ℕ, ◌==◌, ◌||◌, Bool, false, IsTrue, List, [], ◌∷◌, ◌++◌, length, map}
use Rattle.std.specs.List.{fold}
use Rattle.febe_data.specs.LimitsView.{LimitsView}
use Rattle.febe_data.specs.Plain.{PlainRequest, PlainReply, PlainChange, PlainEntry, restarted, began}
use Rattle.world_rules.specs.History.{entries_of, next_serial, recovered}
use Rattle.world_rules.specs.Legal.{IsLegal}
use Rattle.world_rules.specs.Laws.{numbers_from}

-- a session has begun from its Begin on, also when it is over, until a Restart
abbrev pub begun_after : ℕ → Bool → PlainEntry → Bool
begun_after session begun entry = begun_by entry.change
  where
    begun_by : PlainChange → Bool
    begun_by restarted = false
    begun_by began = (entry.session == session) || begun
    begun_by other = begun

abbrev pub has_begun : List PlainEntry → ℕ → Bool
has_begun history session = fold (begun_after session) false history

-- the serial of each entry is its place among these, from 1
abbrev pub CountFromOne : List PlainEntry → Type 0
CountFromOne entries = map (λ (e : PlainEntry). e.serial) entries ≡ numbers_from 1 (length entries)

-- So are the serials of each session that began after the last Restart. Of an earlier session only the kept entries
-- may be left, and their serials are what they were.
abbrev pub SerialsCount : List PlainEntry → Type 0
SerialsCount history = (session : ℕ) → IsTrue (has_begun history session) → CountFromOne (entries_of session history)

-- the entry is no Restart, it has the next serial of its session, and a Begin is the first entry of its session
pub record ComesNext (history : List PlainEntry) (entry : PlainEntry) : Type 0 where
  pub no_restart : entry.change ≢ restarted
  pub is_next : entry.serial ≡ next_serial history entry.session
  pub is_first : entry.change ≡ began → entries_of entry.session history ≡ []

-- after such an entry serials still count
abbrev pub SerialsGoOn : Type 0
SerialsGoOn = (history : List PlainEntry) (entry : PlainEntry) → ComesNext history entry → SerialsCount history → SerialsCount (history ++ entry ∷ [])

-- So they do after a legal step of any session.
abbrev pub LegalStepsCount : Type 0
LegalStepsCount = (limits : LimitsView) (session : ℕ) (before : List PlainEntry) (request : PlainRequest) (reply : PlainReply) (added : List PlainEntry) (rose : Bool)
    → IsLegal limits session before request reply added rose → SerialsCount before → SerialsCount (before ++ added)

-- They do when a back end begins again, whatever is kept of the sessions before: none has begun yet.
abbrev pub RecoveredCounts : Type 0
RecoveredCounts = (history : List PlainEntry) → SerialsCount (recovered history)
