-- What holds of the histories of all stores.
use Rattle.std.specs.Prelude.{◌≡◌, ◌⊎◌, ℕ, Bool, List, [], ◌∷◌}
use Rattle.febe_data.specs.LimitsView.{LimitsView}
use Rattle.febe_data.specs.Plain.{PlainRequest, PlainReply, PlainEntry}
use Rattle.world_rules.specs.World.{empty_world}
use Rattle.world_rules.specs.Legal.{IsLegal}
use Rattle.world_rules.specs.Placed.{AllPlaced}
use Rattle.world_rules.specs.Serials.{SerialsCount}
use Rattle.green_store.specs.declared.step.Step.{Step}
use Rattle.green_store.specs.declared.step.StepAnswer.{StepAnswer}
use Rattle.green_store.specs.IsStep.{IsStep}
use Rattle.green_store.specs.Isolated.{IsolatesStep}
use Rattle.green_store.specs.Marks.{owner_of}
use Rattle.green_store.specs.StoreView.{StoreView}

-- Steps of any sessions make new documents, and change them at places that are there. So the laws of such
-- histories hold of a store's, which begins with a restart.
abbrev pub StepsStayPlaced : Type 0
StepsStayPlaced = (before after : StoreView) (step : Step) (answer : StepAnswer) (rose : Bool) → AllPlaced empty_world before.history
    → IsStep before step after answer rose → AllPlaced empty_world after.history

-- And they leave the serials of each session that began after the last restart counting its entries from 1.
abbrev pub StepsCount : Type 0
StepsCount = (before after : StoreView) (step : Step) (answer : StepAnswer) (rose : Bool) → SerialsCount before.history
    → IsStep before step after answer rose → SerialsCount after.history

-- Whatever a session may not read, its queries are answered as if that were otherwise, or not there.
abbrev pub StepsIsolate : Type 0
StepsIsolate = (before after : StoreView) (step : Step) (answer : StepAnswer) (rose : Bool) → IsStep before step after answer rose → IsolatesStep before step answer

-- one entry is added, which is of this session
pub record AddsOwn (session : ℕ) (added : List PlainEntry) : Type 0 where
  pub entry : PlainEntry
  pub one : added ≡ entry ∷ []
  pub session_is : entry.session ≡ session
  pub owner_is : owner_of entry ≡ session

-- What a legal step of a session adds is nothing, or one entry of this session.
abbrev pub LegalStepsAddOwn : Type 0
LegalStepsAddOwn = (limits : LimitsView) (session : ℕ) (before : List PlainEntry) (request : PlainRequest) (reply : PlainReply) (added : List PlainEntry) (rose : Bool)
    → IsLegal limits session before request reply added rose → (added ≡ []) ⊎ AddsOwn session added
