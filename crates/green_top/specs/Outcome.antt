-- What one session leaves, by how it ended.
use Rattle.std.specs.Prelude.{◌≡◌, ◌≢◌, ◌⊎◌, ℕ, ◌+◌, ◌^◌, ◌<◌, ◌≤◌, false, List, [], ◌++◌, length}
use Rattle.febe_data.specs.LimitsView.{LimitsView}
use Rattle.febe_data.specs.Plain.{PlainRequest, PlainEntry}
use Rattle.world_rules.specs.World.{empty_world}
use Rattle.world_rules.specs.Placed.{AllPlaced}
use Rattle.world_rules.specs.History.{is_live, entries_of}
use Rattle.world_rules.specs.Legal.{Exchange}
use Rattle.green_store.specs.Sessions.{greatest_session}
use Rattle.green_top.specs.declared.session_end.SessionEnd.{SessionEnd}
use Rattle.green_top.specs.IoState.{IoState, Moves}
use Rattle.green_top.specs.Ends.{most_input, Cause, AnsweredAndWritten, NeverBegan}
use Rattle.green_top.specs.Transcript.{RisesWithin, Transcript}

-- no session began: there is no number, nothing was answered, and nothing was written
pub record NoSession (session : ℕ) (exchanges : List Exchange) (points written : List ℕ) : Type 0 where
  pub unnumbered : session ≡ 0
  pub none_answered : exchanges ≡ []
  pub no_points : points ≡ []
  pub nothing : written ≡ []

-- a session is over, and has left this history: these requests were answered in these exchanges with this output
pub record IsOver (limits : LimitsView) (session : ℕ) (history : List PlainEntry) (exchanges : List Exchange) (points : List ℕ) (answered : List PlainRequest) (output : List ℕ) : Type 0 where
  pub over : is_live history session ≡ false
  pub transcript : Transcript limits session history exchanges answered points output

-- The session of this number began, and ended so: it answered requests that it read, and wrote their output, or a prefix of it.
pub record IsEndedSession (limits : LimitsView) (session : ℕ) (end : SessionEnd) (read written : List ℕ) (history : List PlainEntry) (exchanges : List Exchange) (points : List ℕ) : Type 0 where
  pub numbered : session ≢ 0
  pub has_number : session < 2 ^ 64
  pub answered : List PlainRequest
  pub output : List ℕ
  pub over : IsOver limits session history exchanges points answered output
  pub answered_and_written : AnsweredAndWritten end read answered output written

-- no session began, or it was served to its end
abbrev pub Leaves : LimitsView → ℕ → SessionEnd → List ℕ → List ℕ → List PlainEntry → List Exchange → List ℕ → Type 0
Leaves limits session end read written history exchanges points =
    (NeverBegan history end read × NoSession session exchanges points written) ⊎ IsEndedSession limits session end read written history exchanges points

-- From this source and sink to those left, one session was held, of this number or of none: it ended so for its cause, after these
-- exchanges, and left this history and these points. Others may have added to the history meanwhile. The last read asked for at
-- most 4,096 bytes.
pub record IsRun (limits : LimitsView) (session : ℕ) (before after : IoState) (history : List PlainEntry) (exchanges : List Exchange) (points : List ℕ) (bytes_read : ℕ) (end : SessionEnd) : Type 0 where
  pub read : List ℕ
  pub written : List ℕ
  pub moves : Moves before after read written
  pub counted : bytes_read ≡ length read
  pub within : length read ≤ most_input + 4095
  pub cause : Cause end read before after
  pub leaves : Leaves limits session end read written history exchanges points

-- The session has the next number, and the history is the one that the back end opened with and the session's entries, which made
-- new documents, and changed them at places that were there. In no more of its exchanges did the count of disk faults rise than
-- it rose by in all.
pub record HasServedNext (opened : List PlainEntry) (session : ℕ) (history : List PlainEntry) (exchanges : List Exchange) (faults_before faults_after : ℕ) : Type 0 where
  pub number_is : session ≡ greatest_session opened + 1
  pub history_is : history ≡ opened ++ entries_of session history
  pub placed : AllPlaced empty_world history
  pub rises : RisesWithin exchanges faults_before faults_after

-- a back end that opened with this history had no session and left the history as it was, or it had one alone
abbrev pub HasServedAlone : (opened : List PlainEntry) → (session : ℕ) → (history : List PlainEntry) → List Exchange → (faults_before faults_after : ℕ) → Type 0
HasServedAlone opened session history exchanges faults_before faults_after =
    ((session ≡ 0) × (history ≡ opened)) ⊎ HasServedNext opened session history exchanges faults_before faults_after
