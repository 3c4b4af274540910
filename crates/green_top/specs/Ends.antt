-- How a session ends, and why.
use Rattle.std.specs.Prelude.{◌≡◌, ℕ, ◌+◌, ◌^◌, ◌<◌, ◌≤◌, List, [], length}
use Rattle.std.specs.Io.KnownBytes.{IsAtEnd}
use Rattle.green_io.specs.Outside.{HasRisen}
use Rattle.febe_data.specs.Plain.{PlainRequest, PlainEntry}
use Rattle.febe_wire.specs.Sessions.{IsInputOf, EndsInQuit, IsMalformedAt, IsTruncated}
use Rattle.febe_feed.specs.Inputs.{NoQuits, IsOpenInput}
use Rattle.green_store.specs.Sessions.{greatest_session}
use Rattle.green_top.specs.declared.session_end.SessionEnd.{SessionEnd}
use Rattle.green_top.specs.declared.session_end.SessionEnd.TheVariants as ends
use Rattle.green_top.specs.IoState.{IoState}
use Rattle.green_top.specs.Requests.{IsNotGreeted, IsGreetedFirst, HasRequestPrefix, AreWholeRequests}
use Rattle.green_top.specs.Transcript.{IsPrefixOf, IsProperPrefixOf}

-- once a session has given so many bytes, no more are read
abbrev pub most_input : ℕ
most_input = 2 ^ 40

-- Why a session ended, after these bytes were read. A read is made only where fewer bytes than the most were
-- read before. That no number is left is said of sessions that never began.
abbrev pub Cause : SessionEnd → List ℕ → IoState → IoState → Type 0
Cause ends.Quit read before after = Unit {0}
Cause ends.End read before after = IsAtEnd after.left × (length read < most_input)
Cause (ends.Malformed at) read before after = IsMalformedAt read at
Cause (ends.Truncated at) read before after = IsTruncated read × IsAtEnd after.left × (length read < most_input) × (at ≡ length read)
Cause ends.ReadFault read before after = IsOpenInput read × (length read < most_input) × HasRisen before.source_faults after.source_faults
Cause ends.WriteFault read before after = HasRisen before.sink_faults after.sink_faults
Cause ends.Memory read before after = Unit {0}
Cause ends.Budget read before after = IsOpenInput read × (most_input ≤ length read)
Cause ends.NoNumber read before after = Unit {0}

-- how many of the requests read were answered with this output, and how much of it was written; and whether a quit was among them
-- where the status is 0
abbrev pub AnsweredAndWritten : SessionEnd → List ℕ → List PlainRequest → List ℕ → List ℕ → Type 0
AnsweredAndWritten ends.Quit read answered output written = AreWholeRequests read answered × EndsInQuit answered × (written ≡ output)
AnsweredAndWritten ends.End read answered output written = IsInputOf answered read × NoQuits answered × (written ≡ output)
AnsweredAndWritten ends.WriteFault read answered output written = HasRequestPrefix read answered × IsProperPrefixOf written output
AnsweredAndWritten ends.Memory read answered output written = HasRequestPrefix read answered × IsPrefixOf written output
AnsweredAndWritten ends.NoNumber read answered output written = ⊥
AnsweredAndWritten other read answered output written = AreWholeRequests read answered × (written ≡ output)

-- the greatest of all session numbers is taken
abbrev pub AllNumbersTaken : List PlainEntry → Type 0
AllNumbersTaken history = greatest_session history + 1 ≡ 2 ^ 64

-- A session that ended so never began, and left this history: nothing came, or no greeting, or there was no memory, or the
-- greeting came and no number was left.
abbrev pub NeverBegan : List PlainEntry → SessionEnd → List ℕ → Type 0
NeverBegan history ends.Quit read = ⊥
NeverBegan history ends.End read = read ≡ []
NeverBegan history ends.WriteFault read = ⊥
NeverBegan history ends.Memory read = Unit {0}
NeverBegan history ends.NoNumber read = AllNumbersTaken history × IsGreetedFirst read
NeverBegan history other read = IsNotGreeted read
