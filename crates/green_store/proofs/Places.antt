-- Sessions make new documents, and change them at places that are there.
use Rattle.std.proofs.Common.{◌≡◌, ℕ, Bool, List, [], ◌∷◌, ◌++◌, length, Option, Some, None, ap, refl, sym, subst, inl, inr, ◌⊎◌}
use Rattle.std.specs.Prelude.{MatchOption, fold}
use Rattle.std.proofs.lemmas.List.{append-nil}
use Rattle.febe_data.specs.declared.refusal.Refusal.{Refusal}
use Rattle.febe_data.specs.LimitsView.{LimitsView}
use Rattle.febe_data.specs.Plain.{PlainRequest, PlainReply, PlainEntry}
use Rattle.world_rules.specs.World.{World, empty_world}
use Rattle.world_rules.specs.Apply.{apply, world_of}
use Rattle.world_rules.specs.History.{durable_entries}
use Rattle.world_rules.specs.Effects.{Effect, effect}
use Rattle.world_rules.specs.Legal.{IsLegal, IsServed, IsRefused, IsQueryAnswered, IsDone, IsDiskFault, wanted_after, entry_after}
use Rattle.world_rules.specs.Placed.{IsPlaced, AllPlaced}
use Rattle.world_rules.proofs.Placed.{served_is_placed}
use Rattle.febe_data.specs.Plain.{plain_request, plain_reply}
use Rattle.green_store.specs.declared.step.Step.TheVariants as steps
use Rattle.green_store.specs.declared.step.StepAnswer.TheVariants as answers
use Rattle.green_store.specs.IsStep.{IsReplied}
use Rattle.green_store.specs.Laws.{StepsStayPlaced}
use Rattle.green_store.specs.Sessions.{begin_entry, end_entry}
use Rattle.green_store.specs.StoreView.{StoreView, with_one}

pub placed_push : (world : World) (h : List PlainEntry) (x : PlainEntry) → AllPlaced world h → IsPlaced (fold apply world h) x.change → AllPlaced world (h ++ x ∷ [])
placed_push world [] x all is = (is, tt)
placed_push world (e ∷ h) x all is = (all.0, placed_push (apply world e) h x all.1 is)

abbrev GoOn : List PlainEntry → List PlainEntry → Type 0
GoOn h added = AllPlaced empty_world (h ++ added)

by_none : (h added : List PlainEntry) → AllPlaced empty_world h → added ≡ [] → GoOn h added
by_none h added p e = subst (GoOn h) (sym e) (subst (AllPlaced empty_world) (sym (append-nil h)) p)

by_served : (limits : LimitsView) (session : ℕ) (h : List PlainEntry) (request : PlainRequest) (reply : PlainReply) (added : List PlainEntry) (rose : Bool) (made : Option Effect) → AllPlaced empty_world h
    → wanted_after limits h session request ≡ None → effect (world_of h) session request ≡ made
    → MatchOption made (IsQueryAnswered h session request reply added) (λ m. IsDone h session m reply added ⊎ IsDiskFault m reply added rose) → GoOn h added
by_served limits session h request reply added rose None p none e a = by_none h added p a.nothing
by_served limits session h request reply added rose (Some m) p none e (inl a) =
    subst (GoOn h) (sym a.entry) (placed_push empty_world h (entry_after h session m) p (served_is_placed limits (length (durable_entries h)) (world_of h) session request m none e))
by_served limits session h request reply added rose (Some m) p none e (inr a) = by_none h added p a.nothing

by_given : (limits : LimitsView) (session : ℕ) (h : List PlainEntry) (request : PlainRequest) (reply : PlainReply) (added : List PlainEntry) (rose : Bool) (wanted : Option Refusal) → AllPlaced empty_world h
    → wanted_after limits h session request ≡ wanted → MatchOption wanted (IsServed h session request reply added rose) (λ refusal. IsRefused refusal reply added) → GoOn h added
by_given limits session h request reply added rose None p e a = by_served limits session h request reply added rose (effect (world_of h) session request) p e refl a
by_given limits session h request reply added rose (Some refusal) p e a = by_none h added p a.nothing

-- so does a legal step
pub placed_goes_on : (limits : LimitsView) (session : ℕ) (h : List PlainEntry) (request : PlainRequest) (reply : PlainReply) (added after : List PlainEntry) (rose : Bool) → AllPlaced empty_world h
    → IsLegal limits session h request reply added rose → after ≡ h ++ added → AllPlaced empty_world after
placed_goes_on limits session h request reply added after rose p legal grows =
    subst (AllPlaced empty_world) (sym grows)
    (elim legal.given [ inl m ↦ by_none h added p m.nothing | inr g ↦ by_given limits session h request reply added rose (wanted_after limits h session request) p refl g ])

module _ (before after : StoreView) (placed : AllPlaced empty_world before.history) where
  with_entry : (entry : PlainEntry) → IsPlaced (world_of before.history) entry.change → after ≡ with_one before entry → AllPlaced empty_world after.history
  with_entry entry is grows = rw grows (placed_push empty_world before.history entry placed is)

  as_before : after ≡ before → AllPlaced empty_world after.history
  as_before stays = rw stays placed

  still : after.history ≡ before.history → AllPlaced empty_world after.history
  still same = rw same placed

  replied : (session : ℕ) (request : PlainRequest) (reply : PlainReply) (point : ℕ) (rose : Bool) → IsReplied before session request reply point after rose → AllPlaced empty_world after.history
  replied session request reply point rose r = elim r.given [
    | inl g ↦ placed_goes_on before.limits session before.history request reply g.1.added after.history rose placed g.1.legal g.1.grows
    | inr g ↦ as_before g.1.stays
  ]

pub steps_stay_placed : StepsStayPlaced
steps_stay_placed before after steps.Begin (answers.Begun session) rose placed step = with_entry before after placed (begin_entry session) tt step.grows
steps_stay_placed before after steps.Begin answers.NoNumber rose placed step = as_before before after placed step.stays
steps_stay_placed before after steps.Begin answers.Memory rose placed step = as_before before after placed step.stays
steps_stay_placed before after (steps.Ask session request) (answers.Reply reply point) rose placed step = replied before after placed session (plain_request request) (plain_reply reply) point rose step
steps_stay_placed before after (steps.Ask session request) answers.NoSession rose placed step = as_before before after placed step.stays
steps_stay_placed before after (steps.End session) answers.Ended rose placed step = with_entry before after placed (end_entry before.history session) tt step.grows
steps_stay_placed before after (steps.End session) answers.NoSession rose placed step = as_before before after placed step.stays
steps_stay_placed before after steps.Background answers.Balanced rose placed step = still before after placed step.still.history
steps_stay_placed before after steps.Background answers.Flushed rose placed step = still before after placed (ap (λ (w : StoreView). w.history) step.still)
steps_stay_placed before after steps.Background answers.Disk rose placed step = still before after placed (ap (λ (w : StoreView). w.history) step.still)
steps_stay_placed before after steps.Background answers.Swept rose placed step = still before after placed step.still.history
steps_stay_placed before after steps.Background answers.Idle rose placed step = as_before before after placed step.stays
steps_stay_placed before after steps.Background answers.Memory rose placed step = still before after placed (ap (λ (w : StoreView). w.history) step.still)
steps_stay_placed before after other answer rose placed step = absurd step
