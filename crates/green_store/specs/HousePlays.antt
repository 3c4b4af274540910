-- What each play on a housed store does, told by what passes know: of the fixed numbers, the history, the number, the job,
-- the answer, the number and the history after it, and the marks before and after it.
use Rattle.std.specs.Prelude.{◌≡◌, ◌≢◌, ◌⊎◌, ℕ, ◌+◌, ◌≤◌, ◌<◌, ◌^◌, Bool, IsTrue, false, List, [], ◌∷◌, ◌++◌, length, drop, Option, None, Some}
use Rattle.febe_data.specs.declared.refusal.Refusal.TheVariants.{Memory}
use Rattle.febe_data.specs.LimitsView.{LimitsView}
use Rattle.febe_data.specs.Plain.{PlainRequest, plain_request, PlainReply, plain_reply, refused, PlainEntry}
use Rattle.febe_data.specs.Validity.{IsRequest, IsReply}
use Rattle.world_rules.specs.History.{is_live}
use Rattle.green_store.specs.declared.housed.HouseJob.{HouseJob}
use Rattle.green_store.specs.declared.housed.HouseJob.TheVariants as jobs
use Rattle.green_store.specs.declared.housed.Timed.{Timed}
use Rattle.green_store.specs.declared.step.Step.{Step}
use Rattle.green_store.specs.declared.step.Step.TheVariants as steps
use Rattle.green_store.specs.declared.step.StepAnswer.{StepAnswer}
use Rattle.green_store.specs.declared.step.StepAnswer.TheVariants as answers
use Rattle.green_store.specs.Durable.{has_risen}
use Rattle.green_store.specs.Marks.{limits_in, faults_in, debt_in, unsaved_in, due_in, unreached_in, last_in, but_last}
use Rattle.green_store.specs.Sessions.{greatest_session, begin_entry, end_entry}
use Rattle.green_store.specs.Steps.{Steps}

-- ---- jobs and steps

-- the step that is a number's job
abbrev pub step_for : ℕ → HouseJob → Step
step_for number jobs.Begin = steps.Begin
step_for number (jobs.Ask request) = steps.Ask number request
step_for number jobs.End = steps.End number
step_for number jobs.Background = steps.Background

-- The step is the number's job, and no session begins for a number that has one; where it would, there is no step.
abbrev pub IsStepOf : ℕ → HouseJob → Option Step → Type 0
IsStepOf number job (Some step) = (step ≡ step_for number job) × (job ≡ jobs.Begin → number ≡ 0)
IsStepOf number job None = (job ≡ jobs.Begin) × (number ≢ 0)

-- the number after a step: that of the session which has begun, or as it was
abbrev pub number_after : ℕ → StepAnswer → ℕ
number_after number (answers.Begun session) = session
number_after number other = number

-- ---- plays

-- the history and the number are as they were
pub record Stays (number next : ℕ) (before after : List PlainEntry) : Type 0 where
  pub number_stays : next ≡ number
  pub history_stays : after ≡ before

-- the number of the next session takes the place of 0, and that session's Begin is added
pub record PlaysBegun (before : List PlainEntry) (number session next : ℕ) (after : List PlainEntry) : Type 0 where
  pub was_none : number ≡ 0
  pub session_is : session ≡ greatest_session before + 1
  pub has_number : session < 2 ^ 64
  pub number_is : next ≡ session
  pub grows : after ≡ before ++ begin_entry session ∷ []

-- every number is taken, and nothing changed
pub record PlaysNoNumber (before : List PlainEntry) (number next : ℕ) (after : List PlainEntry) : Type 0 where
  pub was_none : number ≡ 0
  pub last_taken : greatest_session before + 1 ≡ 2 ^ 64
  pub stays : Stays number next before after

-- there is a number, but there was no memory, and nothing changed
pub record PlaysNoMemory (before : List PlainEntry) (number next : ℕ) (after : List PlainEntry) : Type 0 where
  pub was_none : number ≡ 0
  pub has_number : greatest_session before + 1 < 2 ^ 64
  pub stays : Stays number next before after

-- the number has its session already, and nothing changed
pub record PlaysSecondBegin (before : List PlainEntry) (number next : ℕ) (after : List PlainEntry) (old new : List ℕ) : Type 0 where
  pub has_one : number ≢ 0
  pub stays : Stays number next before after
  pub marks_stay : but_last new ≡ but_last old

-- the number's session is not live, and nothing changed
pub record PlaysNoSession (before : List PlainEntry) (number next : ℕ) (after : List PlainEntry) : Type 0 where
  pub not_live : is_live before number ≡ false
  pub stays : Stays number next before after

-- The live session's request has this reply, with the number of entries after it: by a legal step within the limits
-- where the request is valid, and else it is refused as if there were no memory, and nothing changed.
pub record PlaysReply (limits : LimitsView) (before : List PlainEntry) (number : ℕ) (request : PlainRequest) (reply : PlainReply) (point next : ℕ) (after : List PlainEntry) (rose : Bool) : Type 0 where
  pub live : IsTrue (is_live before number)
  pub number_stays : next ≡ number
  pub point_is : point ≡ length after
  pub valid : IsReply reply
  pub given : (IsRequest request × Steps limits number before request reply after rose)
      ⊎ ((¬ IsRequest request) × (reply ≡ refused Memory) × (after ≡ before))

-- the live session has ended: its End is added
pub record PlaysEnded (before : List PlainEntry) (number next : ℕ) (after : List PlainEntry) : Type 0 where
  pub live : IsTrue (is_live before number)
  pub number_stays : next ≡ number
  pub grows : after ≡ before ++ end_entry before number ∷ []

-- something was to be put right: by one step in a tree, after which the trees owe less
pub record PlaysBalanced (old new : List ℕ) : Type 0 where
  pub due : due_in old ≡ 1
  pub lowers : debt_in new + 1 ≤ debt_in old

-- something was to be put right: now no kept entry stands past those for which the pages stand
pub record PlaysFlushed (old new : List ℕ) : Type 0 where
  pub due : due_in old ≡ 1
  pub saved : unsaved_in new ≡ 0

-- something was to be put right, but the disk failed, and all else is as it was
pub record PlaysStopped (old new : List ℕ) : Type 0 where
  pub due : due_in old ≡ 1
  pub failed : IsTrue (has_risen (faults_in old) (faults_in new))
  pub stays : drop 1 (but_last new) ≡ drop 1 (but_last old)

-- something was to be put right: now every node is reached from a root
pub record PlaysSwept (old new : List ℕ) : Type 0 where
  pub due : due_in old ≡ 1
  pub reached : unreached_in new ≡ 0

-- nothing was to be put right, and nothing changed
pub record PlaysIdle (old new : List ℕ) : Type 0 where
  pub none_due : due_in old ≡ 0
  pub stays : but_last new ≡ but_last old

-- Something was to be put right, but there was no memory for it, and nothing changed. Only where pages were to be written the
-- disk may have had faults meanwhile.
pub record PlaysPutOff (limits : LimitsView) (old new : List ℕ) : Type 0 where
  pub due : due_in old ≡ 1
  pub stays : drop 1 (but_last new) ≡ drop 1 (but_last old)
  pub no_fault : unsaved_in old < limits.flush → but_last new ≡ but_last old

-- What each job comes to. What is not listed never happens.
abbrev pub ComesTo : List ℕ → List PlainEntry → ℕ → HouseJob → StepAnswer → ℕ → List PlainEntry → List ℕ → List ℕ → Type 0
ComesTo fixed before number jobs.Begin (answers.Begun session) next after old new = PlaysBegun before number session next after
ComesTo fixed before number jobs.Begin answers.NoNumber next after old new = PlaysNoNumber before number next after
ComesTo fixed before number jobs.Begin answers.Memory next after old new = PlaysNoMemory before number next after
ComesTo fixed before number jobs.Begin answers.NoSession next after old new = PlaysSecondBegin before number next after old new
ComesTo fixed before number (jobs.Ask request) (answers.Reply reply point) next after old new =
    PlaysReply (limits_in fixed) before number (plain_request request) (plain_reply reply) point next after (has_risen (faults_in old) (faults_in new))
ComesTo fixed before number (jobs.Ask request) answers.NoSession next after old new = PlaysNoSession before number next after
ComesTo fixed before number jobs.End answers.Ended next after old new = PlaysEnded before number next after
ComesTo fixed before number jobs.End answers.NoSession next after old new = PlaysNoSession before number next after
ComesTo fixed before number jobs.Background answers.Balanced next after old new = Stays number next before after × PlaysBalanced old new
ComesTo fixed before number jobs.Background answers.Flushed next after old new = Stays number next before after × PlaysFlushed old new
ComesTo fixed before number jobs.Background answers.Disk next after old new = Stays number next before after × PlaysStopped old new
ComesTo fixed before number jobs.Background answers.Swept next after old new = Stays number next before after × PlaysSwept old new
ComesTo fixed before number jobs.Background answers.Idle next after old new = Stays number next before after × PlaysIdle old new
ComesTo fixed before number jobs.Background answers.Memory next after old new = Stays number next before after × PlaysPutOff (limits_in fixed) old new
ComesTo fixed before number job answer next after old new = ⊥

-- What each job comes to that is given at this moment, which is the last mark afterwards, whatever the job comes to.
abbrev pub HousePlays : List ℕ → List PlainEntry → ℕ → Timed → StepAnswer → ℕ → List PlainEntry → List ℕ → List ℕ → Type 0
HousePlays fixed before number timed answer next after old new = (last_in new ≡ timed.moment) × ComesTo fixed before number timed.job answer next after old new
