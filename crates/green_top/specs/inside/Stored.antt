-- What the steps of a session tell where a store plays them beside its disk.
use Rattle.std.specs.Prelude.{◌≡◌, ℕ, ◌≤◌, Option}
use Rattle.febe_data.specs.declared.request.Request.{Request}
use Rattle.febe_data.specs.declared.reply.Reply.{Reply}
use Rattle.febe_data.specs.Plain.{plain_request, plain_reply}
use Rattle.febe_data.specs.Validity.{IsRequest}
use Rattle.entry_codec.specs.Logged.{PlainLogged}
use Rattle.green_io.specs.Clock.{IsNext}
use Rattle.green_io.specs.Disk.{DiskState, LeavesOnly}
use Rattle.world_rules.specs.Legal.{Exchange}
use Rattle.green_store.specs.declared.step.Step.{Step}
use Rattle.green_store.specs.declared.step.Step.TheVariants as steps
use Rattle.green_store.specs.declared.step.StepAnswer.{StepAnswer}
use Rattle.green_store.specs.declared.step.StepAnswer.TheVariants as answers
use Rattle.green_store.specs.Durable.{has_risen, Keeps, HoldsStep, KeepsStep}
use Rattle.green_store.specs.IsStep.{IsStep}
use Rattle.green_store.specs.Steps.{Steps}
use Rattle.green_store.specs.StoreView.{StoreView}
use Rattle.green_store.specs.TimedStep.{IsTimedStep}
use Rattle.green_top.specs.Times.{Coming}
use Rattle.green_top.specs.declared.beside.Serves.{Serves}

-- the store made this step over its disk at this moment, with this answer, while the count of faults went from this to that
pub record HasStepped (moment : ℕ) (step : Step) (answer : StepAnswer) (store : StoreView) (disk : DiskState) (faults : ℕ) (store' : StoreView) (disk' : DiskState) (faults' : ℕ) : Type 0 where
  pub is_step : IsStep store step store' answer (has_risen faults faults')
  pub is_timed : IsTimedStep store moment store'
  pub limits_stay : store'.limits ≡ store.limits
  pub any_moment : (pending : Option PlainLogged) → Keeps disk store pending → LeavesOnly disk disk' (HoldsStep store pending moment step)
  pub keeps : (pending : Option PlainLogged) → Keeps disk store pending → KeepsStep store pending moment step store' answer disk'
  pub never_falls : faults ≤ faults'

-- the number of the session that an answer names, or 0
abbrev pub number_in : StepAnswer → ℕ
number_in (answers.Begun session) = session
number_in other = 0

module _ {D : Type 0} (state : D → DiskState) (faults : D → ℕ) where
  -- The clock was asked once, and at the moment that it gave the step led from one store and disk to another.
  pub record Stepped (step : Step) (answer : StepAnswer) (serves : Serves) (disk : D) (coming : Coming) (serves' : Serves) (disk' : D) (coming' : Coming) : Type 0 where
    pub moment : ℕ
    pub next : IsNext moment coming coming'
    pub made : HasStepped moment step answer serves.store (state disk) (faults disk) serves'.store (state disk') (faults disk')

  -- a Begin was made, and the session has the number of the answer
  pub record HasBegunIn (serves : Serves) (disk : D) (coming : Coming) (serves' : Serves) (disk' : D) (coming' : Coming) : Type 0 where
    pub answer : StepAnswer
    pub stepped : Stepped steps.Begin answer serves disk coming serves' disk' coming'
    pub number_is : serves'.session ≡ number_in answer

  -- a valid request of the session was replied to in this exchange
  pub record HasAskedIn (serves : Serves) (disk : D) (coming : Coming) (exchange : Exchange) (serves' : Serves) (disk' : D) (coming' : Coming) : Type 0 where
    pub request : Request
    pub reply : Reply
    pub point : ℕ
    pub valid : IsRequest (plain_request request)
    pub stepped : Stepped (steps.Ask serves.session request) (answers.Reply reply point) serves disk coming serves' disk' coming'
    pub legal : Steps serves.store.limits serves.session serves.store.history (plain_request request) (plain_reply reply) serves'.store.history (has_risen (faults disk) (faults disk'))
    pub exchange_is : exchange ≡ record { request = plain_request request; reply = plain_reply reply; point = point; added = legal.added; rose = has_risen (faults disk) (faults disk') }
    pub number_stays : serves'.session ≡ serves.session

  -- a background step was made
  pub record HasTendedIn (serves : Serves) (disk : D) (coming : Coming) (serves' : Serves) (disk' : D) (coming' : Coming) : Type 0 where
    pub answer : StepAnswer
    pub stepped : Stepped steps.Background answer serves disk coming serves' disk' coming'
    pub number_stays : serves'.session ≡ serves.session

  -- an End of the session was made
  pub record HasEndedIn (serves : Serves) (disk : D) (coming : Coming) (serves' : Serves) (disk' : D) (coming' : Coming) : Type 0 where
    pub answer : StepAnswer
    pub stepped : Stepped (steps.End serves.session) answer serves disk coming serves' disk' coming'
    pub number_stays : serves'.session ≡ serves.session
