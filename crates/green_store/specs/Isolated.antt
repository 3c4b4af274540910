-- What a session is answered does not depend on what it may not read.
use Rattle.febe_data.specs.Plain.{plain_request, plain_reply}
use Rattle.world_rules.specs.Isolated.{IsIsolated}
use Rattle.green_store.specs.declared.step.Step.{Step}
use Rattle.green_store.specs.declared.step.Step.TheVariants as steps
use Rattle.green_store.specs.declared.step.StepAnswer.{StepAnswer}
use Rattle.green_store.specs.declared.step.StepAnswer.TheVariants as answers
use Rattle.green_store.specs.StoreView.{StoreView}

-- Where a session makes a query and is replied to, the reply is that which each other history gives in which the session
-- sees the same, and which refuses the query nothing; or there was no memory.
abbrev pub IsolatesStep : StoreView → Step → StepAnswer → Type 0
IsolatesStep before (steps.Ask session request) (answers.Reply reply point) = IsIsolated before.limits session before.history (plain_request request) (plain_reply reply)
IsolatesStep before step answer = Unit {0}
