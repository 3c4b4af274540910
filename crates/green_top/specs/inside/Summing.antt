-- How a generated session goes, up to its summary.
use Rattle.std.specs.Prelude.{◌≡◌, ◌≢◌, ◌⊎◌, ℕ, ◌^◌, ◌<◌, ◌≤◌, List, [], ◌++◌, codes, Option, Result, Ok, Err}
use Rattle.std.specs.Io.KnownBytes.{Appends}
use Rattle.std.specs.List.{flat_map, AllByRecursion}
use Rattle.febe_data.specs.LimitsView.{standard_limits}
use Rattle.febe_data.specs.Plain.{PlainReply, PlainEntry, PlainChange, document_created, version_made, copy_opened, link_made}
use Rattle.febe_data.specs.Validity.{IsReply}
use Rattle.febe_reply.specs.ReplyGrammar.{spell_reply}
use Rattle.green_io.specs.Outside.{HasRisen}
use Rattle.world_rules.specs.Legal.{Exchange}
use Rattle.session_generator.specs.Generated.{generated_requests}
use Rattle.green_top.specs.declared.session_end.SessionEnd.{SessionEnd}
use Rattle.green_top.specs.declared.session_end.SessionEnd.TheVariants as ends
use Rattle.green_top.specs.Ends.{AllNumbersTaken}
use Rattle.green_top.specs.GeneratedRun.{IsSummedSession}
use Rattle.green_top.specs.Outcome.{NoSession, IsOver}
use Rattle.green_top.specs.Transcript.{IsProperPrefixOf}

-- how many documents a change makes
abbrev pub documents_by : PlainChange → ℕ
documents_by (document_created document) = 1
documents_by (version_made source document) = 1
documents_by (copy_opened source document) = 1
documents_by other = 0

-- and how many links
abbrev pub links_by : PlainChange → ℕ
links_by (link_made home number place from to three) = 1
links_by other = 0

-- the bytes spell these replies, one behind the other
pub record SpellReplies (bytes : List ℕ) (replies : List PlainReply) : Type 0 where
  pub spelled : bytes ≡ flat_map spell_reply replies
  pub valid : AllByRecursion IsReply replies

-- the bytes spell some replies
abbrev pub AreReplies : List ℕ → Type 0
AreReplies bytes = (replies : List PlainReply) × SpellReplies bytes replies

-- the bytes are a session's output: its greeting, and these replies
pub record IsOutput (output : List ℕ) (replies : List PlainReply) : Type 0 where
  pub parts : output ≡ codes "P0~" ++ flat_map spell_reply replies
  pub valid : AllByRecursion IsReply replies

-- how much of the summary was written, where a session ended so
abbrev pub TellsBy : SessionEnd → (summary written : List ℕ) → (faults_before faults_after : ℕ) → Type 0
TellsBy ends.Quit summary written faults_before faults_after = written ≡ summary
TellsBy ends.WriteFault summary written faults_before faults_after = IsProperPrefixOf written summary × HasRisen faults_before faults_after
TellsBy ends.Memory summary written faults_before faults_after = written ≡ []
TellsBy other summary written faults_before faults_after = ⊥

-- the sink took of the summary what was written
pub record Tells (summary : List ℕ) (taken taken' : Option (List ℕ)) (faults_before faults_after : ℕ) (end : SessionEnd) : Type 0 where
  pub written : List ℕ
  pub appended : Appends taken taken' written
  pub never_falls : faults_before ≤ faults_after
  pub told : TellsBy end summary written faults_before faults_after

-- how a session may end whose source has a whole input and does not fail
abbrev pub CanEnd : SessionEnd → Type 0
CanEnd (ends.Malformed at) = ⊥
CanEnd (ends.Truncated at) = ⊥
CanEnd ends.ReadFault = ⊥
CanEnd other = Unit {0}

-- what comes of a session with all its output in memory: a summary, or what ends the run
abbrev pub outcome_of : SessionEnd → Result (Unit {0}) SessionEnd
outcome_of ends.Quit = Ok tt
outcome_of ends.End = Ok tt
outcome_of ends.NoNumber = Err ends.NoNumber
outcome_of other = Err ends.Memory

-- the session of this number is over, and all requests were answered with this output
pub record IsAnswered (start session : ℕ) (history : List PlainEntry) (exchanges : List Exchange) (points output : List ℕ) : Type 0 where
  pub numbered : session ≢ 0
  pub has_number : session < 2 ^ 64
  pub over : IsOver standard_limits session history exchanges points (generated_requests start) output

-- there is no summary: no session began, or there was no memory before all requests were answered
abbrev pub HasNoSummary : (start session : ℕ) → SessionEnd → (history : List PlainEntry) → List Exchange → (points : List ℕ) → Type 0
HasNoSummary start session ends.NoNumber history exchanges points = AllNumbersTaken history × NoSession session exchanges points []
HasNoSummary start session ends.Memory history exchanges points = NoSession session exchanges points [] ⊎ IsSummedSession start session ends.Memory [] history exchanges points
HasNoSummary start session other history exchanges points = ⊥

-- all requests were answered with this output, or there is no summary, for the reason that ended the session
abbrev pub IsInnerRun : (start session : ℕ) → Result (Unit {0}) SessionEnd → (history : List PlainEntry) → List Exchange → (points output : List ℕ) → Type 0
IsInnerRun start session (Ok done) history exchanges points output = IsAnswered start session history exchanges points output
IsInnerRun start session (Err end) history exchanges points output = HasNoSummary start session end history exchanges points
