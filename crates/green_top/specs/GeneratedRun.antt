-- What a run does that makes its session's requests itself.
use Rattle.std.specs.Prelude.{◌≡◌, ◌≢◌, ◌⊎◌, ℕ, ◌^◌, ◌<◌, ◌≤◌, List, [], ◌++◌}
use Rattle.std.specs.Io.KnownBytes.{Appends}
use Rattle.febe_data.specs.LimitsView.{standard_limits}
use Rattle.febe_data.specs.Plain.{PlainRequest, PlainEntry}
use Rattle.green_io.specs.Outside.{HasRisen}
use Rattle.world_rules.specs.Apply.{world_of}
use Rattle.world_rules.specs.Legal.{Exchange}
use Rattle.session_generator.specs.Generated.{generated_requests}
use Rattle.green_top.specs.declared.session_end.SessionEnd.{SessionEnd}
use Rattle.green_top.specs.declared.session_end.SessionEnd.TheVariants as ends
use Rattle.green_top.specs.Ends.{AllNumbersTaken}
use Rattle.green_top.specs.IoState.{IoState}
use Rattle.green_top.specs.Outcome.{NoSession, IsOver}
use Rattle.green_top.specs.Summary.{replies_of, summary_of}
use Rattle.green_top.specs.Transcript.{IsProperPrefixOf}

-- these requests are the first of all
abbrev pub AreFirstOf : List PlainRequest → List PlainRequest → Type 0
AreFirstOf requests all = (more : List PlainRequest) × (all ≡ requests ++ more)

-- How many of the requests were answered, and how much of the summary was written, in a session that ended so: all, and the whole
-- of it, after a quit; all, and a prefix of it but not the whole, where the sink failed; some, and none of it, where there was no
-- memory.
abbrev pub AnsweredAndSummed : SessionEnd → (all answered : List PlainRequest) (summary written : List ℕ) → Type 0
AnsweredAndSummed ends.Quit all answered summary written = (answered ≡ all) × (written ≡ summary)
AnsweredAndSummed ends.WriteFault all answered summary written = (answered ≡ all) × IsProperPrefixOf written summary
AnsweredAndSummed ends.Memory all answered summary written = AreFirstOf answered all × (written ≡ [])
AnsweredAndSummed other all answered summary written = ⊥

-- How the session itself ended in a run that ended so: a sink that failed took the summary, when all replies were there.
abbrev pub inner_end : SessionEnd → SessionEnd
inner_end ends.WriteFault = ends.Quit
inner_end other = other

-- the sink failed where the session ended so for that
abbrev pub SinkFailed : SessionEnd → IoState → IoState → Type 0
SinkFailed ends.WriteFault before after = HasRisen before.sink_faults after.sink_faults
SinkFailed other before after = Unit {0}

-- no session began, for want of a number or of memory, and this history was left
abbrev pub CouldNotBegin : SessionEnd → List PlainEntry → Type 0
CouldNotBegin ends.NoNumber history = AllNumbersTaken history
CouldNotBegin ends.Memory history = Unit {0}
CouldNotBegin other history = ⊥

-- The session of this number began, answered the requests that this start generates, or the first of them, and ended so;
-- and the summary of its replies and of the world that it left was written.
pub record IsSummedSession (start session : ℕ) (end : SessionEnd) (written : List ℕ) (history : List PlainEntry) (exchanges : List Exchange) (points : List ℕ) : Type 0 where
  pub numbered : session ≢ 0
  pub has_number : session < 2 ^ 64
  pub answered : List PlainRequest
  pub output : List ℕ
  pub over : IsOver standard_limits session history exchanges points answered output
  pub answered_and_summed : AnsweredAndSummed end (generated_requests start) answered (summary_of start (replies_of exchanges) (world_of history)) written

-- A session that this start generates was held with the standard limits, of this number or of none, and left this history and these
-- points after these exchanges. The source was left alone, and the sink took of the summary what was written.
pub record IsGeneratedRun (start session : ℕ) (before after : IoState) (history : List PlainEntry) (exchanges : List Exchange) (points : List ℕ) (end : SessionEnd) : Type 0 where
  pub written : List ℕ
  pub left_stays : after.left ≡ before.left
  pub source_faults_stay : after.source_faults ≡ before.source_faults
  pub appended : Appends before.taken after.taken written
  pub sink_never_falls : before.sink_faults ≤ after.sink_faults
  pub disk_never_falls : before.disk_faults ≤ after.disk_faults
  pub cause : SinkFailed end before after
  pub leaves : (CouldNotBegin end history × NoSession session exchanges points written) ⊎ IsSummedSession start session end written history exchanges points
