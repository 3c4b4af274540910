-- What comes of a request: its refusal, its change with the reply, or its answer.
use Rattle.std.specs.Prelude.{◌≡◌, ℕ, Option, Some, None}
use Rattle.febe_data.specs.declared.refusal.Refusal.{Refusal}
use Rattle.world_rules.specs.Effects as plain
use Rattle.febe_data.specs.Plain.{PlainRequest, plain_reply, PlainReply, refused}
use Rattle.febe_data.specs.LimitsView.{LimitsView}
use Rattle.febe_data.specs.Validity.{IsReply}
use Rattle.world_rules.specs.declared.effects.Effect.{Effect}
use Rattle.world_rules.specs.declared.requests.Served.{Served}
use Rattle.world_rules.specs.declared.requests.Served.TheVariants.{Refused, Changed, Answered}
use Rattle.world_rules.specs.Refusals.{wanted}
use Rattle.world_rules.specs.Effects.{effect}
use Rattle.world_rules.specs.Answers.{answer}
use Rattle.world_rules.specs.FlatView.{FlatView}
use Rattle.world_rules.specs.PlainEffect.{plain_effect}

-- nothing refuses the request, and this is its effect
pub record IsChanged (limits : LimitsView) (view : FlatView) (session : ℕ) (request : PlainRequest) (made : Effect) : Type 0 where
  pub allowed : wanted limits view.counted view.world session request ≡ None
  pub effect_is : effect view.world session request ≡ Some (plain_effect made)

-- nothing refuses the request, it changes nothing, and this is its answer
pub record IsAnsweredBy (limits : LimitsView) (view : FlatView) (session : ℕ) (request : PlainRequest) (reply : PlainReply) : Type 0 where
  pub allowed : wanted limits view.counted view.world session request ≡ None
  pub query : effect view.world session request ≡ None
  pub reply_is : reply ≡ answer view.world session request

abbrev pub IsServedAs : LimitsView → FlatView → ℕ → PlainRequest → Served → Type 0
IsServedAs limits view session request (Refused refusal) = wanted limits view.counted view.world session request ≡ Some refusal
IsServedAs limits view session request (Changed made) = IsChanged limits view session request made
IsServedAs limits view session request (Answered reply) = IsAnsweredBy limits view session request (plain_reply reply)

-- its reply is one that the grammar can spell
abbrev pub IsValidServed : Served → Type 0
IsValidServed (Refused refusal) = Unit {0}
IsValidServed (Changed made) = IsReply (plain_reply made.reply)
IsValidServed (Answered reply) = IsReply (plain_reply reply)

-- what a request is told: its refusal, the reply to its change, or its answer
abbrev pub told : Option Refusal → Option plain.Effect → PlainReply → PlainReply
told (Some refusal) made given = refused refusal
told None (Some made) given = made.reply
told None None given = given

abbrev pub reply_for : LimitsView → FlatView → ℕ → PlainRequest → PlainReply
reply_for limits view session request = told (wanted limits view.counted view.world session request) (effect view.world session request) (answer view.world session request)
