-- The serials of sessions that began after the last restart count on, whatever sessions ask.
use Rattle.std.proofs.Common.{◌≡◌, ℕ, ◌+◌, ◌<◌, ◌≤◌, eqb, max, Bool, false, List, [], ◌∷◌, length, refl, ap, sym, subst, inl, inr, arith}
use Rattle.std.specs.Prelude.{fold}
use Rattle.std.proofs.lemmas.Bool.{ne_eqb}
use Rattle.febe_data.specs.Plain.{PlainRequest, plain_request, PlainReply, plain_reply, PlainEntry}
use Rattle.world_rules.specs.History.{entries_of}
use Rattle.world_rules.specs.Serials.{SerialsCount, ComesNext}
use Rattle.world_rules.proofs.Serials.{serials_go_on, legal_steps_count}
use Rattle.green_store.specs.declared.step.Step.TheVariants as steps
use Rattle.green_store.specs.declared.step.StepAnswer.TheVariants as answers
use Rattle.green_store.specs.IsStep.{IsReplied}
use Rattle.green_store.specs.Laws.{StepsCount}
use Rattle.green_store.specs.Sessions.{greatest_session, begin_entry, end_entry}
use Rattle.green_store.specs.StoreView.{StoreView, with_one}

-- ---- a new session has no entry yet

abbrev greatest_from : ℕ → List PlainEntry → ℕ
greatest_from n h = fold (λ greatest (e : PlainEntry). max greatest e.session) n h

grows : (h : List PlainEntry) (n : ℕ) → n ≤ greatest_from n h
grows [] n = omega arith
grows (e ∷ h) n = let more : max n e.session ≤ greatest_from (max n e.session) h = grows h (max n e.session) in omega arith

none_above : (h : List PlainEntry) (n session : ℕ) → greatest_from n h < session → entries_of session h ≡ []
none_above [] n session lt = refl
none_above (e ∷ h) n session lt =
    let within : max n e.session ≤ greatest_from (max n e.session) h = grows h (max n e.session) in
    let other : eqb e.session session ≡ false = ne_eqb e.session session (λ same. omega arith) in
    rw other (none_above h (max n e.session) session lt)

pub begins_next : (h : List PlainEntry) (session : ℕ) → session ≡ greatest_session h + 1 → ComesNext h (begin_entry session)
begins_next h session number =
    let none : entries_of session h ≡ [] = none_above h 0 session (omega arith) in
    record { no_restart = λ e. cc; is_next = sym (ap (λ (es : List PlainEntry). length es + 1) none); is_first = λ begins. none }

pub ends_next : (h : List PlainEntry) (session : ℕ) → ComesNext h (end_entry h session)
ends_next h session = record { no_restart = λ e. cc; is_next = refl; is_first = λ begins. cc }

-- ---- steps

module _ (before after : StoreView) (count : SerialsCount before.history) where
  with_entry : (entry : PlainEntry) → ComesNext before.history entry → after ≡ with_one before entry → SerialsCount after.history
  with_entry entry next grown = rw grown (serials_go_on before.history entry next count)

  as_before : after ≡ before → SerialsCount after.history
  as_before stays = rw stays count

  still : after.history ≡ before.history → SerialsCount after.history
  still same = rw same count

  replied : (session : ℕ) (request : PlainRequest) (reply : PlainReply) (point : ℕ) (rose : Bool) → IsReplied before session request reply point after rose → SerialsCount after.history
  replied session request reply point rose r = elim r.given [
    | inl g ↦ subst SerialsCount (sym g.1.grows) (legal_steps_count before.limits session before.history request reply g.1.added rose g.1.legal count)
    | inr g ↦ as_before g.1.stays
  ]

pub steps_count : StepsCount
steps_count before after steps.Begin (answers.Begun session) rose count step = with_entry before after count (begin_entry session) (begins_next before.history session step.number_is) step.grows
steps_count before after steps.Begin answers.NoNumber rose count step = as_before before after count step.stays
steps_count before after steps.Begin answers.Memory rose count step = as_before before after count step.stays
steps_count before after (steps.Ask session request) (answers.Reply reply point) rose count step = replied before after count session (plain_request request) (plain_reply reply) point rose step
steps_count before after (steps.Ask session request) answers.NoSession rose count step = as_before before after count step.stays
steps_count before after (steps.End session) answers.Ended rose count step = with_entry before after count (end_entry before.history session) (ends_next before.history session) step.grows
steps_count before after (steps.End session) answers.NoSession rose count step = as_before before after count step.stays
steps_count before after steps.Background answers.Balanced rose count step = still before after count step.still.history
steps_count before after steps.Background answers.Flushed rose count step = still before after count (ap (λ (w : StoreView). w.history) step.still)
steps_count before after steps.Background answers.Disk rose count step = still before after count (ap (λ (w : StoreView). w.history) step.still)
steps_count before after steps.Background answers.Swept rose count step = still before after count step.still.history
steps_count before after steps.Background answers.Idle rose count step = as_before before after count step.stays
steps_count before after steps.Background answers.Memory rose count step = still before after count (ap (λ (w : StoreView). w.history) step.still)
steps_count before after other answer rose count step = absurd step
