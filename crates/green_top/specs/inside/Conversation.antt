-- A session's requests, each taken, answered and written in turn.
use Rattle.std.specs.Prelude.{◌≡◌, ◌≢◌, ◌⊎◌, ℕ, ◌+◌, ◌≤◌, true, List, [], ◌++◌, length, Option, Some, None}
use Rattle.febe_data.specs.LimitsView.{LimitsView}
use Rattle.febe_data.specs.Plain.{PlainRequest, quit, PlainEntry}
use Rattle.febe_wire.specs.Sessions.{greeting}
use Rattle.febe_feed.specs.FeedView.{with_piece, FeedView, GivesRequest}
use Rattle.febe_feed.specs.Pieces.{HasGiven}
use Rattle.febe_feed.specs.Inputs.{NoQuits}
use Rattle.world_rules.specs.History.{is_live}
use Rattle.world_rules.specs.Legal.{Exchange}
use Rattle.green_session.specs.Taking.{TurnsView, ReadState, read_state, ReadsBytes, Comes}
use Rattle.green_session.specs.declared.take.Taken.{Taken}
use Rattle.green_session.specs.declared.take.Taken.TheVariants as take_answers
use Rattle.green_session.specs.declared.put.Put.{Put}
use Rattle.green_session.specs.declared.put.Put.TheVariants as put_results
use Rattle.green_top.specs.declared.session_end.SessionEnd.{SessionEnd}
use Rattle.green_top.specs.declared.session_end.SessionEnd.TheVariants as ends
use Rattle.green_top.specs.declared.exchange.Talk.{Talk}
use Rattle.green_top.specs.declared.exchange.Closing.{Closing}
use Rattle.green_top.specs.IoState.{IoState, io_state, with_disk_faults, Moves}
use Rattle.green_top.specs.Outcome.{Leaves}
use Rattle.green_top.specs.Ends.{most_input, Cause, AnsweredAndWritten}
use Rattle.green_top.specs.inside.Opening.{Begins}
use Rattle.green_top.specs.inside.Progress.{AnswerState, answer_state, HandlesRequest, Progress}

-- the state of a session: the history, as far as it was seen, the points of its replies, what was read and not yet answered,
-- and the source, the sink and the disk
pub record SessionState : Type 0 where
  pub history : List PlainEntry
  pub points : List ℕ
  pub feed : FeedView
  pub turns : TurnsView
  pub io : IoState

abbrev pub session_state : List PlainEntry → List ℕ → FeedView → TurnsView → IoState → SessionState
session_state history points feed turns io = record { history = history; points = points; feed = feed; turns = turns; io = io }

-- a source and a sink as these functions see them, beside a disk with this count
abbrev pub io_by : {S K : Type 0} → (S → Option (List ℕ)) → (S → ℕ) → (K → Option (List ℕ)) → (K → ℕ) → S → K → ℕ → IoState
io_by left source_faults taken sink_faults source sink disk_faults = io_state (left source) (source_faults source) (taken sink) (sink_faults sink) disk_faults

-- the state of a session whose player, source and sink are seen so
abbrev pub state_by : {F G S K : Type 0} → (F → G → List PlainEntry) → (F → G → ℕ) → (S → Option (List ℕ)) → (S → ℕ) → (K → Option (List ℕ)) → (K → ℕ) → F → G → S → K → Talk → SessionState
state_by seen faults left source_faults taken sink_faults first second source sink talk =
    session_state (seen first second) talk.points.items talk.feed talk.turns (io_by left source_faults taken sink_faults source sink (faults first second))

-- the same with another history, and another count of disk faults
abbrev pub with_history : SessionState → List PlainEntry → ℕ → SessionState
with_history s history disk_faults = session_state history s.points s.feed s.turns (with_disk_faults s.io disk_faults)

-- the part of it that reading changes, and that answering changes
abbrev pub reading : SessionState → ReadState
reading s = read_state s.io.left s.io.source_faults s.feed s.turns

abbrev pub answering : SessionState → AnswerState
answering s = answer_state s.history s.points s.io.taken s.io.sink_faults s.io.disk_faults

-- a request came, was answered in these exchanges, and this came of its reply
pub record IsAsked (limits : LimitsView) (session : ℕ) (before after : SessionState) (exchanges : List Exchange) (request : PlainRequest) (put : Put) : Type 0 where
  pub read : List ℕ
  pub reads : ReadsBytes (reading before) (reading after) read
  pub gives : GivesRequest (with_piece before.feed read) after.feed request
  pub answered : HandlesRequest limits session (answering before) (answering after) request put exchanges

-- no request came, but this
pub record IsNotAsked (before after : SessionState) (exchanges : List Exchange) (taken : Taken) : Type 0 where
  pub read : List ℕ
  pub reads : ReadsBytes (reading before) (reading after) read
  pub comes : Comes taken (reading before) (reading after) read
  pub no_exchange : exchanges ≡ []
  pub history_stays : after.history ≡ before.history
  pub points_stay : after.points ≡ before.points
  pub taken_stays : after.io.taken ≡ before.io.taken
  pub faults_stay : after.io.sink_faults ≡ before.io.sink_faults
  pub disk_faults_stay : after.io.disk_faults ≡ before.io.disk_faults

-- what came of a round that ends the conversation so
abbrev pub IsLastRound : LimitsView → ℕ → SessionState → SessionState → List Exchange → SessionEnd → Type 0
IsLastRound limits session before after exchanges ends.Quit = IsAsked limits session before after exchanges quit put_results.Done
IsLastRound limits session before after exchanges ends.End = IsNotAsked before after exchanges take_answers.End
IsLastRound limits session before after exchanges (ends.Malformed at) = IsNotAsked before after exchanges (take_answers.Malformed at)
IsLastRound limits session before after exchanges (ends.Truncated at) = IsNotAsked before after exchanges (take_answers.Truncated at)
IsLastRound limits session before after exchanges ends.ReadFault = IsNotAsked before after exchanges take_answers.ReadFault
IsLastRound limits session before after exchanges ends.WriteFault = (request : PlainRequest) × IsAsked limits session before after exchanges request put_results.WriteFault
IsLastRound limits session before after exchanges ends.Memory = IsNotAsked before after exchanges take_answers.Memory ⊎ ((request : PlainRequest) × IsAsked limits session before after exchanges request put_results.Memory)
IsLastRound limits session before after exchanges ends.Budget = IsNotAsked before after exchanges take_answers.Budget
IsLastRound limits session before after exchanges ends.NoNumber = ⊥

-- what came of taking one request and answering it: the session is live and goes on; or its conversation ends, and it is live
-- or not
abbrev pub IsRound : LimitsView → ℕ → SessionState → SessionState → List Exchange → Option Closing → Type 0
IsRound limits session before after exchanges None = ((request : PlainRequest) × (request ≢ quit) × IsAsked limits session before after exchanges request put_results.Done) × (is_live after.history session ≡ true)
IsRound limits session before after exchanges (Some closing) = IsLastRound limits session before after exchanges closing.end × (is_live after.history session ≡ closing.live)

-- the greeting was given, and as many bytes as were read are counted
pub record IsGreeted (start : SessionState) : Type 0 where
  pub greeted : start.feed.greeted ≡ true
  pub place : start.feed.offset ≡ 3
  pub turns_are : start.turns ≡ record { limit = most_input; taken = length (greeting ++ start.feed.held) }
  pub within : length (greeting ++ start.feed.held) ≤ most_input + 4095

-- all that was read, of a session that was greeted
abbrev pub all_read : SessionState → List ℕ → List ℕ
all_read start read = (greeting ++ start.feed.held) ++ read

-- the session has begun, and nothing was asked
pub record HasBegun (session : ℕ) (start : SessionState) : Type 0 where
  pub greeted : IsGreeted start
  pub opened : List PlainEntry
  pub begins : Begins session opened start.history
  pub no_points : start.points ≡ []

-- from its begin on the session's requests were answered in these exchanges and written, and it goes on
pub record IsConversing (limits : LimitsView) (session : ℕ) (start now : SessionState) (exchanges : List Exchange) : Type 0 where
  pub read : List ℕ
  pub written : List ℕ
  pub requests : List PlainRequest
  pub moves : Moves start.io now.io read written
  pub given : HasGiven (all_read start read) requests now.feed
  pub greeted : now.feed.greeted ≡ true
  pub no_quits : NoQuits requests
  pub turns_are : now.turns ≡ record { limit = most_input; taken = length (all_read start read) }
  pub within : length (all_read start read) ≤ most_input + 4095
  pub progress : Progress limits session start.history now.history exchanges now.points requests written
  pub live : is_live now.history session ≡ true

-- from its begin on the session's requests were answered in these exchanges, up to this end
pub record IsConversed (limits : LimitsView) (session : ℕ) (start after : SessionState) (exchanges : List Exchange) (end : SessionEnd) : Type 0 where
  pub read : List ℕ
  pub written : List ℕ
  pub answered : List PlainRequest
  pub output : List ℕ
  pub moves : Moves start.io after.io read written
  pub counted : after.turns.taken ≡ length (all_read start read)
  pub within : length (all_read start read) ≤ most_input + 4095
  pub progress : Progress limits session start.history after.history exchanges after.points answered output
  pub cause : Cause end (all_read start read) start.io after.io
  pub answered_and_written : AnsweredAndWritten end (all_read start read) answered output written

-- from its greeting on the session of this number was served to its end, or none began
pub record IsSession (limits : LimitsView) (session : ℕ) (start after : SessionState) (exchanges : List Exchange) (end : SessionEnd) : Type 0 where
  pub read : List ℕ
  pub written : List ℕ
  pub moves : Moves start.io after.io read written
  pub counted : after.turns.taken ≡ length (all_read start read)
  pub within : length (all_read start read) ≤ most_input + 4095
  pub cause : Cause end (all_read start read) start.io after.io
  pub leaves : Leaves limits session end (all_read start read) written after.history exchanges after.points
