-- What a store does is a legal step.
use Rattle.std.proofs.Common.{◌≡◌, ◌≢◌, ℕ, Bool, true, false, List, [], ◌∷◌, ◌++◌, length, Option, Some, None, refl, ap, ◌∙◌, sym, subst, inl, inr, Result, Ok, Err}
use Rattle.std.specs.Prelude.{IsOk, IfOk, OnOk}
use Rattle.std.proofs.lemmas.List.{append-nil}
use Rattle.febe_data.specs.declared.access.Mode.{Mode}
use Rattle.febe_data.specs.declared.refusal.Refusal.{Refusal}
use Rattle.febe_data.specs.declared.refusal.Refusal.TheVariants.{Memory}
use Rattle.febe_data.specs.declared.reply.Reply.{Reply}
use Rattle.febe_data.specs.declared.request.Request.{Request}
use Rattle.febe_data.specs.declared.request.Request.TheVariants as requests
use Rattle.febe_data.specs.LimitsView.{LimitsView}
use Rattle.febe_data.specs.Plain.{PlainRequest, insert, copy, rearrange, create, delete, version, quit, create_link, set_account, opens, closes, publish, plain_request, PlainReply, plain_reply, refused, has_quit, PlainEntry}
use Rattle.world_rules.specs.World.{World}
use Rattle.world_rules.specs.Apply.{world_of}
use Rattle.world_rules.specs.FlatView.{FlatView, view_of}
use Rattle.world_rules.specs.History.{is_live, durable_entries, is_durable}
use Rattle.world_rules.specs.Refusals.{wanted, opens_version}
use Rattle.world_rules.specs.Effects.{Effect, effect, opening}
use Rattle.world_rules.specs.Answers.{answer}
use Rattle.world_rules.specs.Legal.{IsLegal, IsServed, wanted_after, entry_after}
use Rattle.world_rules.specs.PlainEffect.{plain_effect}
use Rattle.world_rules.specs.Served.{IsServedAs}
use Rattle.world_rules.specs.declared.effects.Effect as coded
use Rattle.world_rules.specs.declared.requests.Served.TheVariants.{Refused, Changed, Answered}
use Rattle.tumbler.specs.declared.memory.Memory.{Memory as NoMemory}
use Rattle.world_rules.proofs.Folded.{folds_to_world, counts_kept}
use Rattle.green_store.specs.Durable.{IsDurableEntry}
use Rattle.green_store.specs.inside.{IsKeptOrTakenBack, IsTakenBack}
use Rattle.green_store.specs.LeavesLive.{LeavesLive}
use Rattle.green_store.specs.Sessions.{end_entry}
use Rattle.green_store.specs.Steps.{Steps}
use Rattle.green_store.specs.StoreView.{StoreView, with_one}

-- ---- no effect but that of a quit begins or ends a session

pub not_quit : (request : Request) → (request ≡ requests.Quit → ⊥) → plain_request request ≡ quit → ⊥
not_quit requests.Quit n e = n refl
not_quit other n e = cc

-- what an effect has, told by cases on the request
pub Leaves : Effect → Type 0
Leaves made = LeavesLive made.change

some_is : (a b : Effect) → (let x : Option Effect = Some a in x) ≡ Some b → a ≡ b
some_is a b e = cc

along : (a b : Effect) → (let x : Option Effect = Some a in x) ≡ Some b → Leaves a → Leaves b
along a b e h = subst Leaves (some_is a b e) h

opening_leaves : (world : World) (session : ℕ) (document : List ℕ) (mode : Mode) (copies : Bool) → Leaves (opening world session document mode copies)
unfolding Leaves
opening_leaves world session document mode true = λ s live maker serial. refl
opening_leaves world session document mode false = λ s live maker serial. refl

leaves : (world : World) (session : ℕ) (request : PlainRequest) (made : Effect) → request ≢ quit → effect world session request ≡ Some made → Leaves made
unfolding Leaves
leaves world session (insert document at text) made n e = along _ made e (λ s live maker serial. refl)
leaves world session (copy document at specs) made n e = along _ made e (λ s live maker serial. refl)
leaves world session (rearrange document cuts) made n e = along _ made e (λ s live maker serial. refl)
leaves world session create made n e = along _ made e (λ s live maker serial. refl)
leaves world session (delete document span) made n e = along _ made e (λ s live maker serial. refl)
leaves world session (version document) made n e = along _ made e (λ s live maker serial. refl)
leaves world session quit made n e = absurd (n refl)
leaves world session (create_link home from to three) made n e = along _ made e (λ s live maker serial. refl)
leaves world session (set_account account) made n e = along _ made e (λ s live maker serial. refl)
leaves world session (opens document mode rule) made n e = along _ made e (opening_leaves world session document mode (opens_version world session document mode rule))
leaves world session (closes document) made n e = along _ made e (λ s live maker serial. refl)
leaves world session (publish document) made n e = along _ made e (λ s live maker serial. refl)
leaves world session other made n e = absurd cc

pub leaves_live : (world : World) (session : ℕ) (request : PlainRequest) (made : Effect) → request ≢ quit → effect world session request ≡ Some made → LeavesLive made.change
unfolding Leaves
leaves_live world session request made n e = leaves world session request made n e

-- ---- what is wanted

pub wanted_is : (limits : LimitsView) (h : List PlainEntry) (session : ℕ) (request : PlainRequest) → wanted limits (view_of h).counted (view_of h).world session request ≡ wanted_after limits h session request
wanted_is limits h session request =
    ap (λ (n : ℕ). wanted limits n (view_of h).world session request) (counts_kept h) ∙ ap (λ (w : World). wanted limits (length (durable_entries h)) w session request) (folds_to_world h)

module _ (limits : LimitsView) (session : ℕ) (history : List PlainEntry) (request : PlainRequest) (rose : Bool) (live : is_live history session ≡ true) where
  nothing_wanted : (given : wanted_after limits history session request ≡ None) (reply : PlainReply) (added : List PlainEntry)
      → IsServed history session request reply added rose → IsLegal limits session history request reply added rose
  nothing_wanted given reply added served = record { live = live; given = inr (rw given served) }

  pub step_without_memory : request ≢ quit → Steps limits session history request (refused Memory) history rose
  step_without_memory n = record {
    added = [];
    grows = sym (append-nil history);
    legal = record { live = live; given = inl (record { asks = n; reply_is = refl; nothing = refl }) };
  }

  pub step_refused : (refusal : Refusal) → wanted_after limits history session request ≡ Some refusal → Steps limits session history request (refused refusal) history rose
  step_refused refusal given = record {
    added = [];
    grows = sym (append-nil history);
    legal = record { live = live; given = inr (rw given (record { reply_is = refl; nothing = refl })) };
  }

  pub step_changed : (made : Effect) (reply : PlainReply) (after : List PlainEntry) → wanted_after limits history session request ≡ None → effect (world_of history) session request ≡ Some made
      → reply ≡ made.reply → after ≡ history ++ entry_after history session made ∷ [] → Steps limits session history request reply after rose
  step_changed made reply after given e is grows = record {
    added = entry_after history session made ∷ [];
    grows = grows;
    legal = nothing_wanted given reply (entry_after history session made ∷ []) (rw e (inl (record { reply_is = is; entry = refl })));
  }

  pub step_failed : (made : Effect) (reply : PlainReply) (after : List PlainEntry) → wanted_after limits history session request ≡ None → effect (world_of history) session request ≡ Some made
      → is_durable made.change ≡ true → IsTakenBack history reply after rose → Steps limits session history request reply after rose
  step_failed made reply after given e counted back = record {
    added = [];
    grows = back.stays ∙ sym (append-nil history);
    legal = nothing_wanted given reply [] (rw e (inr (record { counted = counted; failed = back.failed; reply_is = back.reply_is; nothing = refl })));
  }

  pub step_answered : (reply : PlainReply) → wanted_after limits history session request ≡ None → effect (world_of history) session request ≡ None
      → reply ≡ answer (world_of history) session request → Steps limits session history request reply history rose
  step_answered reply given e is = record {
    added = [];
    grows = sym (append-nil history);
    legal = nothing_wanted given reply [] (rw e (record { reply_is = is; nothing = refl }));
  }

pub step_quit : (limits : LimitsView) (session : ℕ) (history : List PlainEntry) (rose : Bool) → is_live history session ≡ true → Steps limits session history quit has_quit (history ++ end_entry history session ∷ []) rose
step_quit limits session history rose live = record {
  added = end_entry history session ∷ [];
  grows = refl;
  legal = record { live = live; given = inr (inl (record { reply_is = refl; entry = refl })) };
}

-- where a call took effect, it did as it says
pub done : {A E : Type 0} (r : Result A E) (P : Type 0) → IsOk r → OnOk r P → P
done (Ok value) P is on = on
done (Err error) P is on = absurd cc

pub step_made : (before after : StoreView) (session : ℕ) (request : PlainRequest) (rose : Bool) (live : is_live before.history session ≡ true) (made : coded.Effect) (r : Result Reply NoMemory)
    → wanted_after before.limits before.history session request ≡ None → effect (world_of before.history) session request ≡ Some (plain_effect made) → IfOk r (λ reply. reply ≡ made.reply)
    → OnOk r (after ≡ with_one before (entry_after before.history session (plain_effect made)))
    → IfOk r (λ reply. Steps before.limits session before.history request (plain_reply reply) after.history rose)
step_made before after session request rose live made (Ok reply) given e is grows =
    step_changed before.limits session before.history request rose live (plain_effect made) (plain_reply reply) after.history given e (ap plain_reply is) (ap (λ (v : StoreView). v.history) grows)
step_made before after session request rose live made (Err error) given e is grows = tt

-- ---- what a store's world gives for a request

module _ (before : StoreView) (limits : LimitsView) (world : FlatView) (session : ℕ) (request : PlainRequest) (rose : Bool) (live : is_live before.history session ≡ true)
    (limits_are : limits ≡ before.limits) (world_is : world ≡ view_of before.history) where
  wanted_here : (found : Option Refusal) → wanted limits world.counted world.world session request ≡ found → wanted_after before.limits before.history session request ≡ found
  wanted_here found is =
      sym (wanted_is before.limits before.history session request) ∙ ap (λ (v : FlatView). wanted before.limits v.counted v.world session request) (sym world_is)
      ∙ ap (λ (l : LimitsView). wanted l world.counted world.world session request) (sym limits_are) ∙ is

  folded : world.world ≡ world_of before.history
  folded = ap (λ (v : FlatView). v.world) world_is ∙ folds_to_world before.history

  pub refused_here : (refusal : Refusal) → IsServedAs limits world session request (Refused refusal) → Steps before.limits session before.history request (refused refusal) before.history rose
  refused_here refusal served = step_refused before.limits session before.history request rose live refusal (wanted_here (Some refusal) served)

  pub answered_here : (reply : Reply) → IsServedAs limits world session request (Answered reply) → Steps before.limits session before.history request (plain_reply reply) before.history rose
  answered_here reply served =
      step_answered before.limits session before.history request rose live (plain_reply reply) (wanted_here None served.allowed) (ap (λ (w : World). effect w session request) (sym folded) ∙ served.query)
      (served.reply_is ∙ ap (λ (w : World). answer w session request) folded)

  pub changed_here : (made : coded.Effect) (r : Result Reply NoMemory) (after : StoreView) → IsServedAs limits world session request (Changed made) → IfOk r (λ reply. reply ≡ made.reply)
      → OnOk r (after ≡ with_one before (entry_after before.history session (plain_effect made)))
      → IfOk r (λ reply. Steps before.limits session before.history request (plain_reply reply) after.history rose)
  changed_here made r after served is grows =
      step_made before after session request rose live made r (wanted_here None served.allowed) (ap (λ (w : World). effect w session request) (sym folded) ∙ served.effect_is) is grows

  pub allowed_here : (made : coded.Effect) → IsServedAs limits world session request (Changed made) → wanted_after before.limits before.history session request ≡ None
  allowed_here made served = wanted_here None served.allowed

  pub effect_here : (made : coded.Effect) → IsServedAs limits world session request (Changed made) → effect (world_of before.history) session request ≡ Some (plain_effect made)
  effect_here made served = ap (λ (w : World). effect w session request) (sym folded) ∙ served.effect_is

  pub edit_here : (made : coded.Effect) → IsServedAs limits world session request (Changed made) → is_durable (plain_effect made).change ≡ true → IsDurableEntry before.limits before.history session request (entry_after before.history session (plain_effect made))
  edit_here made served counted = record { allowed = allowed_here made served; made = plain_effect made; effect_is = effect_here made served; counted = counted; entry_is = refl }

  pub kept_here : (made : coded.Effect) (r : Result Reply NoMemory) (after : List PlainEntry) → IsServedAs limits world session request (Changed made) → is_durable (plain_effect made).change ≡ true
      → IfOk r (λ reply. IsKeptOrTakenBack before.history session (plain_effect made) (plain_reply reply) after rose) → IfOk r (λ reply. Steps before.limits session before.history request (plain_reply reply) after rose)
  kept_here made (Ok reply) after served counted (inl done) =
      step_changed before.limits session before.history request rose live (plain_effect made) (plain_reply reply) after (allowed_here made served) (effect_here made served) done.reply_is done.grows
  kept_here made (Ok reply) after served counted (inr back) =
      step_failed before.limits session before.history request rose live (plain_effect made) (plain_reply reply) after (allowed_here made served) (effect_here made served) counted back
  kept_here made (Err error) after served counted outcome = tt
