-- A refused request leaves the history as it was, and the condition of the trees.
use Rattle.std.proofs.Common.{◌≡◌, ◌∙◌, ◌⊎◌, inl, inr, ℕ, Bool, true, false, List, [], ◌∷◌, ◌++◌, length, Option, None, Some, Result, Ok, Err, ap, refl, sym, subst, arith}
use Rattle.std.specs.Prelude.{OnOk, OnErr, MatchOption}
use Rattle.std.proofs.lemmas.List.{length-append, append-nil}
use Rattle.tumbler.specs.declared.memory.Memory.{Memory as NoMemory}
use Rattle.febe_data.specs.declared.access.Mode.{Mode}
use Rattle.febe_data.specs.declared.refusal.Refusal.{Refusal}
use Rattle.febe_data.specs.declared.reply.Reply.{Reply}
use Rattle.febe_data.specs.LimitsView.{LimitsView}
use Rattle.febe_data.specs.Plain.{PlainRequest, insert, copy, rearrange, create, delete, version, quit, create_link, set_account, opens, closes, publish, PlainReply, refused, PlainEntry}
use Rattle.world_rules.specs.World.{World}
use Rattle.world_rules.specs.Apply.{world_of}
use Rattle.world_rules.specs.History.{durable_entries, is_durable}
use Rattle.world_rules.specs.Refusals.{opens_version}
use Rattle.world_rules.specs.Effects.{Effect, effect, opening}
use Rattle.world_rules.specs.Legal.{IsLegal, IsOutOfMemory, IsServed, IsRefused, IsQueryAnswered, IsDone, IsDiskFault, wanted_after}
use Rattle.green_store.specs.Steps.{Steps}
use Rattle.green_store.specs.IsStep.{OnRefused, UnlessKept}
use Rattle.green_store.specs.StoreView.{StoreView, with_one, PagesStandStill, StandsAsBefore}
use Rattle.green_store.specs.TimedStep.{IsTimedStep}
use Rattle.green_store.proofs.Moments.{moments_stay}
use Rattle.green_store.proofs.Regulars.{kept_counted}

-- ---- the reply to a change is no refusal

Accepts : PlainReply → Type 0
Accepts (refused refusal) = ⊥
Accepts other = Unit {0}

some_is : (a b : Effect) → (let x : Option Effect = Some a in x) ≡ Some b → a ≡ b
some_is a b e = cc

along : (a b : Effect) → (let x : Option Effect = Some a in x) ≡ Some b → Accepts a.reply → Accepts b.reply
along a b e h = subst (λ (made : Effect). Accepts made.reply) (some_is a b e) h

opening_accepts : (world : World) (session : ℕ) (document : List ℕ) (mode : Mode) (copies : Bool) → Accepts (opening world session document mode copies).reply
unfolding Accepts
opening_accepts world session document mode true = tt
opening_accepts world session document mode false = tt

accepts : (world : World) (session : ℕ) (request : PlainRequest) (made : Effect) → effect world session request ≡ Some made → Accepts made.reply
unfolding Accepts
accepts world session (insert document at text) made e = along _ made e tt
accepts world session (copy document at specs) made e = along _ made e tt
accepts world session (rearrange document cuts) made e = along _ made e tt
accepts world session create made e = along _ made e tt
accepts world session (delete document span) made e = along _ made e tt
accepts world session (version document) made e = along _ made e tt
accepts world session quit made e = along _ made e tt
accepts world session (create_link home from to three) made e = along _ made e tt
accepts world session (set_account account) made e = along _ made e tt
accepts world session (opens document mode rule) made e = along _ made e (opening_accepts world session document mode (opens_version world session document mode rule))
accepts world session (closes document) made e = along _ made e tt
accepts world session (publish document) made e = along _ made e tt
accepts world session other made e = absurd cc

-- ---- what holds on a refusal

always : (reply : PlainReply) (X : Type 0) → X → OnRefused reply X
always (refused refusal) X x = x
always other X x = tt

never : (reply : PlainReply) (X : Type 0) → Accepts reply → OnRefused reply X
unfolding Accepts
never (refused refusal) X h = absurd h
never other X h = tt

also : (reply : PlainReply) (X Y : Type 0) → (X → Y) → OnRefused reply X → OnRefused reply Y
also (refused refusal) X Y f x = f x
also other X Y f x = tt

-- ---- nothing is added

module _ (limits : LimitsView) (session : ℕ) (history : List PlainEntry) (request : PlainRequest) (reply : PlainReply) (added : List PlainEntry) (rose : Bool) where
  served_adds : (e : Option Effect) → effect (world_of history) session request ≡ e → MatchOption e (IsQueryAnswered history session request reply added) (λ made. IsDone history session made reply added ⊎ IsDiskFault made reply added rose) → OnRefused reply (added ≡ [])
  served_adds None is query = always reply (added ≡ []) query.nothing
  served_adds (Some made) is (inl done) = subst (λ (r : PlainReply). OnRefused r (added ≡ [])) (sym done.reply_is) (never made.reply (added ≡ []) (accepts (world_of history) session request made is))
  served_adds (Some made) is (inr fault) = always reply (added ≡ []) fault.nothing

  wanted_adds : (w : Option Refusal) → MatchOption w (IsServed history session request reply added rose) (λ refusal. IsRefused refusal reply added) → OnRefused reply (added ≡ [])
  wanted_adds None served = served_adds (effect (world_of history) session request) refl served
  wanted_adds (Some refusal) given = always reply (added ≡ []) given.nothing

  refused_adds : IsLegal limits session history request reply added rose → OnRefused reply (added ≡ [])
  refused_adds legal = by_given legal.given
    where
      by_given : IsOutOfMemory request reply added ⊎ MatchOption (wanted_after limits history session request) (IsServed history session request reply added rose) (λ refusal. IsRefused refusal reply added) → OnRefused reply (added ≡ [])
      by_given (inl none) = always reply (added ≡ []) none.nothing
      by_given (inr given) = wanted_adds (wanted_after limits history session request) given

-- ---- so the store is as it was

module _ (before after : StoreView) (moment : ℕ) (timed : IsTimedStep before moment after) (trees : UnlessKept before after (after.trees ≡ before.trees)) (base : after.base ≡ before.base) (nodes : UnlessKept before after (after.nodes ≡ before.nodes))
    (pages : PagesStandStill before after) where
  same_history : after.history ≡ before.history → StandsAsBefore before after
  same_history same =
      let kept = ap durable_entries same in
      record { history = same; moments = moments_stay before after moment timed kept; trees = trees kept; base = base; nodes = nodes kept; pages = pages }

  pub refused_stays : (session : ℕ) (request : PlainRequest) (reply : PlainReply) (rose : Bool) → Steps before.limits session before.history request reply after.history rose → OnRefused reply (StandsAsBefore before after)
  refused_stays session request reply rose steps =
      also reply (steps.added ≡ []) (StandsAsBefore before after) (λ none. same_history (steps.grows ∙ ap (λ (es : List PlainEntry). before.history ++ es) none ∙ append-nil before.history))
      (refused_adds before.limits session before.history request reply steps.added rose steps.legal)

-- ---- a change

pub made_trees : (before after : StoreView) (r : Result Reply NoMemory) (entry : PlainEntry) → OnOk r (after ≡ with_one before entry) → OnErr r (after ≡ before) → after.trees ≡ before.trees
made_trees before after (Ok reply) entry ok err = ap (λ (v : StoreView). v.trees) ok
made_trees before after (Err error) entry ok err = ap (λ (v : StoreView). v.trees) err

pub made_nodes : (before after : StoreView) (r : Result Reply NoMemory) (entry : PlainEntry) → OnOk r (after ≡ with_one before entry) → OnErr r (after ≡ before) → after.nodes ≡ before.nodes
made_nodes before after (Ok reply) entry ok err = ap (λ (v : StoreView). v.nodes) ok
made_nodes before after (Err error) entry ok err = ap (λ (v : StoreView). v.nodes) err

pub made_pages : (before after : StoreView) (r : Result Reply NoMemory) (entry : PlainEntry) → OnOk r (after ≡ with_one before entry) → OnErr r (after ≡ before) → PagesStandStill before after
made_pages before after (Ok reply) entry ok err = record { flush = ap (λ (v : StoreView). v.flush) ok; flushed = ap (λ (v : StoreView). v.flushed) ok }
made_pages before after (Err error) entry ok err = record { flush = ap (λ (v : StoreView). v.flush) err; flushed = ap (λ (v : StoreView). v.flushed) err }

-- one that is kept comes into the kept entries
pub is_one_more : (old new : List PlainEntry) (entry : PlainEntry) → is_durable entry.change ≡ true → new ≡ old ++ entry ∷ [] → durable_entries new ≡ durable_entries old → ⊥
is_one_more old new entry counted grows same = one_longer (durable_entries old) entry (sym (kept_counted old entry counted) ∙ sym (ap durable_entries grows) ∙ same)
  where
    one_longer : (es : List PlainEntry) (e : PlainEntry) → es ++ e ∷ [] ≡ es → ⊥
    one_longer es e is = omega (arith, length-append es (e ∷ []), ap length is)
