-- Which replies a request may be given, by the history before it.
use Rattle.std.specs.Prelude.{◌≡◌, ◌≢◌, ◌⊎◌, ℕ, Bool, List, [], ◌∷◌, ◌++◌, length, IsTrue, Option, MatchOption}
use Rattle.febe_data.specs.declared.refusal.Refusal.{Refusal}
use Rattle.febe_data.specs.declared.refusal.Refusal.TheVariants.{Memory, Disk}
use Rattle.febe_data.specs.LimitsView.{LimitsView}
use Rattle.febe_data.specs.Plain.{PlainRequest, quit, PlainReply, refused, PlainEntry}
use Rattle.world_rules.specs.Apply.{world_of}
use Rattle.world_rules.specs.History.{durable_entries, is_live, is_durable, next_serial}
use Rattle.world_rules.specs.Refusals.{wanted}
use Rattle.world_rules.specs.Effects.{Effect, effect}
use Rattle.world_rules.specs.Answers.{answer}

-- the refusal that the history gives to a session's request
abbrev pub wanted_after : LimitsView → List PlainEntry → ℕ → PlainRequest → Option Refusal
wanted_after limits before session request = wanted limits (length (durable_entries before)) (world_of before) session request

-- the entry that a change makes, after this history
abbrev pub entry_after : List PlainEntry → ℕ → Effect → PlainEntry
entry_after before session made = record { session = session; serial = next_serial before session; change = made.change }

-- there was no memory, and nothing is added; a quit never gets this
pub record IsOutOfMemory (request : PlainRequest) (reply : PlainReply) (added : List PlainEntry) : Type 0 where
  pub asks : request ≢ quit
  pub reply_is : reply ≡ refused Memory
  pub nothing : added ≡ []

-- the request is refused, and nothing is added
pub record IsRefused (refusal : Refusal) (reply : PlainReply) (added : List PlainEntry) : Type 0 where
  pub reply_is : reply ≡ refused refusal
  pub nothing : added ≡ []

-- the disk failed in this step, where the request makes a counted change; nothing is added
pub record IsDiskFault (made : Effect) (reply : PlainReply) (added : List PlainEntry) (rose : Bool) : Type 0 where
  pub counted : IsTrue (is_durable made.change)
  pub failed : IsTrue rose
  pub reply_is : reply ≡ refused Disk
  pub nothing : added ≡ []

-- the change is made: its one entry is added, and its reply is given
pub record IsDone (before : List PlainEntry) (session : ℕ) (made : Effect) (reply : PlainReply) (added : List PlainEntry) : Type 0 where
  pub reply_is : reply ≡ made.reply
  pub entry : added ≡ entry_after before session made ∷ []

-- a query is answered from the world as it is, and nothing is added
pub record IsQueryAnswered (before : List PlainEntry) (session : ℕ) (request : PlainRequest) (reply : PlainReply) (added : List PlainEntry) : Type 0 where
  pub reply_is : reply ≡ answer (world_of before) session request
  pub nothing : added ≡ []

-- what a request that nothing refuses may be given
abbrev pub IsServed : List PlainEntry → ℕ → PlainRequest → PlainReply → List PlainEntry → Bool → Type 0
IsServed before session request reply added rose =
    MatchOption (effect (world_of before) session request) (IsQueryAnswered before session request reply added)
    (λ made. IsDone before session made reply added ⊎ IsDiskFault made reply added rose)

-- A step is legal where the session is live, and there was no memory, or the wanted refusal is given,
-- or nothing is wanted and the request is served.
pub record IsLegal (limits : LimitsView) (session : ℕ) (before : List PlainEntry) (request : PlainRequest) (reply : PlainReply) (added : List PlainEntry) (rose : Bool) : Type 0 where
  pub live : IsTrue (is_live before session)
  pub given : IsOutOfMemory request reply added
      ⊎ MatchOption (wanted_after limits before session request) (IsServed before session request reply added rose)
      (λ refusal. IsRefused refusal reply added)

-- one request of a session, its reply, the length of the history after it, what it added, and whether the count of disk
-- faults rose meanwhile
pub record Exchange : Type 0 where
  pub request : PlainRequest
  pub reply : PlainReply
  pub point : ℕ
  pub added : List PlainEntry
  pub rose : Bool

-- The exchange took place at its point of the history: there what it added stands, last, and the step was legal.
-- Entries of others may stand before it and after it.
pub record TookPlace (limits : LimitsView) (session : ℕ) (history : List PlainEntry) (exchange : Exchange) : Type 0 where
  pub before : List PlainEntry
  pub more : List PlainEntry
  pub parts : history ≡ (before ++ exchange.added) ++ more
  pub point_is : exchange.point ≡ length (before ++ exchange.added)
  pub legal : IsLegal limits session before exchange.request exchange.reply exchange.added exchange.rose
