-- A step's reply to a query rests on what the session may read alone.
use Rattle.std.proofs.Common.{ℕ, Bool, inl, inr}
use Rattle.febe_data.specs.Plain.{PlainRequest, PlainReply, plain_request, plain_reply}
use Rattle.world_rules.specs.Isolated.{IsIsolated}
use Rattle.world_laws.proofs.Isolated.{legal_steps_isolate}
use Rattle.green_store.specs.declared.step.Step.TheVariants as steps
use Rattle.green_store.specs.declared.step.StepAnswer.TheVariants as answers
use Rattle.green_store.specs.IsStep.{IsGiven}
use Rattle.green_store.specs.Laws.{StepsIsolate}
use Rattle.green_store.specs.StoreView.{StoreView}

given_isolates : (before after : StoreView) (session : ℕ) (request : PlainRequest) (reply : PlainReply) (rose : Bool) → IsGiven before session request reply after rose → IsIsolated before.limits session before.history request reply
given_isolates before after session request reply rose (inl given) = legal_steps_isolate before.limits session before.history request reply given.1.added rose given.1.legal
given_isolates before after session request reply rose (inr invalid) = λ other same query allowed. inr invalid.1.reply_is

pub steps_isolate : StepsIsolate
steps_isolate before after (steps.Ask session request) (answers.Reply reply point) rose step = given_isolates before after session (plain_request request) (plain_reply reply) rose step.given
steps_isolate before after step answer rose is = tt
