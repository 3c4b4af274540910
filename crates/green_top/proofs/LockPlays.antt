-- What the plays of a pass tell of its session.
use Rattle.std.proofs.Common.{◌≡◌, ◌≢◌, ◌⊎◌, inl, inr, ℕ, ◌+◌, ◌==◌, Bool, true, false, List, [], ◌∷◌, ◌++◌, length, refl, ap, sym, subst, ◌∙◌, append_assoc, arith}
use Rattle.std.proofs.lemmas.Bool.{true≢false, eq-eqb}
use Rattle.std.proofs.lemmas.List.{append-nil}
use Rattle.std.proofs.lemmas.List.Elements.{filter-append}
use Rattle.febe_data.specs.declared.request.Request.{Request}
use Rattle.febe_data.specs.declared.reply.Reply.{Reply}
use Rattle.febe_data.specs.Plain.{plain_request, plain_reply, PlainEntry}
use Rattle.febe_data.specs.Validity.{IsRequest}
use Rattle.history_lock.specs.declared.view.View.{View}
use Rattle.history_lock.specs.Passes.{HasActed}
use Rattle.world_rules.specs.History.{is_live, entries_of}
use Rattle.world_rules.specs.Legal.{IsLegal, Exchange}
use Rattle.green_io.specs.Clock.{IsNext}
use Rattle.green_store.specs.declared.housed.HouseJob.{HouseJob}
use Rattle.green_store.specs.declared.housed.HouseJob.TheVariants as jobs
use Rattle.green_store.specs.declared.housed.Timed.{Timed}
use Rattle.green_store.specs.declared.step.StepAnswer.{StepAnswer}
use Rattle.green_store.specs.declared.step.StepAnswer.TheVariants as answers
use Rattle.green_store.specs.Durable.{has_risen}
use Rattle.green_store.specs.HousePlays.{HousePlays}
use Rattle.green_store.specs.Laws.{AddsOwn}
use Rattle.green_store.specs.Marks.{owner_of, limits_in, faults_in}
use Rattle.green_store.specs.Sessions.{greatest_session, begin_entry, end_entry}
use Rattle.green_store.specs.Steps.{Steps}
use Rattle.green_store.proofs.Owners.{legal_steps_add_own}
use Rattle.green_store.proofs.Serials.{begins_next}
use Rattle.green_top.specs.declared.round.Round.TheVariants as rounds
use Rattle.green_top.specs.inside.Behind.{GainsAct, HasBegunBehind, HasAskedBehind, HasEndedBehind}
use Rattle.green_top.specs.inside.Play.{IsOthers, BeginsAt, EndsAt, HasReplied}
use Rattle.green_top.specs.Times.{Coming}
use Rattle.green_top.proofs.Others.{are_others}

-- a job at a moment
abbrev pub timed_job : ℕ → HouseJob → Timed
timed_job moment job = record { moment = moment; job = job }

abbrev pub Played : View PlainEntry → ℕ → HouseJob → StepAnswer → ℕ → List ℕ → View PlainEntry → Type 0
Played v moment job answer point found w = HasActed owner_of HousePlays v (timed_job moment job) answer point found w

-- the same play, of a job that is known
pub at_job : (v w : View PlainEntry) (timed : Timed) (job : HouseJob) (answer : StepAnswer) (point : ℕ) (found : List ℕ) → timed.job ≡ job → HasActed owner_of HousePlays v timed answer point found w → Played v timed.moment job answer point found w
at_job v w timed job answer point found is acted = subst (λ (j : HouseJob). Played v timed.moment j answer point found w) is acted

-- and of an answer that is known too
pub at_both : (v w : View PlainEntry) (timed : Timed) (job : HouseJob) (a b : StepAnswer) (point : ℕ) (found : List ℕ) → timed.job ≡ job → a ≡ b → HasActed owner_of HousePlays v timed a point found w → Played v timed.moment job b point found w
at_both v w timed job a b point found is_job is acted = subst (λ answer. Played v timed.moment job answer point found w) is (at_job v w timed job a point found is_job acted)

module _ (v w : View PlainEntry) (moment : ℕ) (job : HouseJob) (answer : StepAnswer) (point : ℕ) (found : List ℕ) (acted : Played v moment job answer point found w) where
  pub seen_is : w.seen ≡ acted.history ++ acted.added
  seen_is = ap (λ (x : View PlainEntry). x.seen) acted.view

  pub gains : (old new : Coming) → IsNext moment old new → GainsAct v old acted.marks w new
  gains old new next = record {
    acts_are = ap (λ (x : View PlainEntry). x.acts) acted.view;
    timed = subst (λ (m : ℕ). IsNext m old new) (sym acted.played.0) next;
    starts_with = (acted.extends.0 ++ acted.added, seen_is ∙ ap (λ (h : List PlainEntry). h ++ acted.added) acted.extends.1 ∙ append_assoc v.seen acted.extends.0 acted.added);
    fixed_stays = ap (λ (x : View PlainEntry). x.fixed) acted.view;
  }

  pub others : IsOthers v.number acted.extends.0
  others = are_others v.number acted.extends.0 acted.extends.2 acted.extends.3

  live_before : is_live v.seen v.number ≡ true → is_live acted.history v.number ≡ true
  live_before live = ap (λ (h : List PlainEntry). is_live h v.number) acted.extends.1 ∙ others.live_stays v.seen ∙ live

-- ---- a Begin

module _ (v w : View PlainEntry) (moment session point : ℕ) (found : List ℕ) (acted : Played v moment jobs.Begin (answers.Begun session) point found w) where
  pub begins_at : BeginsAt w.number v.seen w.seen
  begins_at =
      let played = acted.played.1 in
      let behind = acted.extends.1 in
      record {
        past = acted.extends.0;
        number_is = played.number_is ∙ played.session_is ∙ ap (λ (h : List PlainEntry). greatest_session h + 1) behind;
        has_number = omega (arith, played.has_number, played.number_is);
        grows = seen_is v w moment jobs.Begin (answers.Begun session) point found acted ∙ played.grows ∙ ap (λ (h : List PlainEntry). h ++ begin_entry session ∷ []) behind
            ∙ ap (λ (n : ℕ). (v.seen ++ acted.extends.0) ++ begin_entry n ∷ []) (sym played.number_is);
      }

  own_begin : (n : ℕ) → (n == n) ≡ true
  own_begin n = eq-eqb n n refl

  pub begun_behind : (old new : Coming) → IsNext moment old new → HasBegunBehind v old w new
  begun_behind old new next =
      let at = begins_at in
      let none : entries_of w.number (v.seen ++ at.past) ≡ [] = (begins_next (v.seen ++ at.past) w.number at.number_is).is_first refl in
      record {
        act = acted.marks;
        gains = gains v w moment jobs.Begin (answers.Begun session) point found acted old new next;
        first_entry = λ some. ap (entries_of w.number) at.grows ∙ filter-append (λ (e : PlainEntry). e.session == w.number) (v.seen ++ at.past) (begin_entry w.number ∷ [])
            ∙ rw (none, own_begin w.number) refl;
      }

-- ---- a request

-- what a legal step of the session adds is its own
pub adds_own : (session : ℕ) (added : List PlainEntry) → (added ≡ []) ⊎ AddsOwn session added → entries_of session added ≡ added
adds_own session added (inl nothing) = rw nothing refl
adds_own session added (inr own) = rw own.one (rw (eq-eqb own.entry.session session own.session_is) refl)

module _ (v w : View PlainEntry) (moment : ℕ) (request : Request) (reply : Reply) (told point : ℕ) (found : List ℕ) (acted : Played v moment (jobs.Ask request) (answers.Reply reply told) point found w) (live : is_live v.seen v.number ≡ true)
    (valid : IsRequest (plain_request request)) where
  abbrev pub rose : Bool
  rose = has_risen (faults_in acted.marks.before) (faults_in acted.marks.after)

  pub stepped : Steps (limits_in v.fixed) v.number acted.history (plain_request request) (plain_reply reply) (acted.history ++ acted.added) rose
  stepped = elim acted.played.1.given [
    | inl given ↦ given.1
    | inr refused ↦ absurd (refused.0 valid)
  ]

  abbrev pub exchange : Exchange
  exchange = record { request = plain_request request; reply = plain_reply reply; point = told; added = stepped.added; rose = rose }

  grows : w.seen ≡ (v.seen ++ acted.extends.0) ++ stepped.added
  grows = seen_is v w moment (jobs.Ask request) (answers.Reply reply told) point found acted ∙ stepped.grows ∙ ap (λ (h : List PlainEntry). h ++ stepped.added) acted.extends.1

  own_entries : entries_of v.number w.seen ≡ entries_of v.number v.seen ++ stepped.added
  own_entries =
      let own = adds_own v.number stepped.added (legal_steps_add_own (limits_in v.fixed) v.number acted.history (plain_request request) (plain_reply reply) stepped.added rose stepped.legal) in
      let others = others v w moment (jobs.Ask request) (answers.Reply reply told) point found acted in
      ap (entries_of v.number) grows ∙ filter-append (λ (e : PlainEntry). e.session == v.number) (v.seen ++ acted.extends.0) stepped.added
      ∙ rw (filter-append (λ (e : PlainEntry). e.session == v.number) v.seen acted.extends.0, others.none_own, own, append-nil (entries_of v.number v.seen)) refl

  pub asked_behind : (old new : Coming) → IsNext moment old new → HasAskedBehind v old exchange w new
  asked_behind old new next = record {
    act = acted.marks;
    gains = gains v w moment (jobs.Ask request) (answers.Reply reply told) point found acted old new next;
    told = ap (λ (n : ℕ). (n, has_risen (faults_in acted.marks.before) (faults_in acted.marks.after))) (acted.marked ∙ acted.point ∙ sym acted.played.1.point_is);
    number_stays = acted.played.1.number_stays;
    own = own_entries;
  }

  pub has_replied : {F S : Type 0} (Tells : F → S → Coming → Exchange → F → S → Coming → Type 0) (first : F) (second : S) (old : Coming) (first' : F) (second' : S) (new : Coming) → IsNext moment old new
      → ((e : Exchange) → HasAskedBehind v old e w new → Tells first second old e first' second' new)
      → HasReplied Tells (limits_in v.fixed) v.number v.seen first second old (plain_request request) (plain_reply reply) told w.seen first' second' new
  has_replied Tells first second old first' second' new next tells = record {
    past = acted.extends.0;
    added = stepped.added;
    rose = rose;
    others = others v w moment (jobs.Ask request) (answers.Reply reply told) point found acted;
    legal = subst (λ (h : List PlainEntry). IsLegal (limits_in v.fixed) v.number h (plain_request request) (plain_reply reply) stepped.added rose) acted.extends.1 stepped.legal;
    grows = grows;
    point_is = acted.played.1.point_is ∙ ap length (sym (seen_is v w moment (jobs.Ask request) (answers.Reply reply told) point found acted));
    told = tells exchange (asked_behind old new next);
  }

-- a live session is never told that it is none
module _ (v w : View PlainEntry) (moment : ℕ) (job : HouseJob) (point : ℕ) (found : List ℕ) (acted : Played v moment job answers.NoSession point found w) (live : is_live v.seen v.number ≡ true) where
  was_live : is_live acted.history v.number ≡ true
  was_live = live_before v w moment job answers.NoSession point found acted live

pub is_session : (v w : View PlainEntry) (moment : ℕ) (request : Request) (point : ℕ) (found : List ℕ) → is_live v.seen v.number ≡ true → Played v moment (jobs.Ask request) answers.NoSession point found w → ⊥
is_session v w moment request point found live acted = true≢false (sym (was_live v w moment (jobs.Ask request) point found acted live) ∙ acted.played.1.not_live)

pub is_replied : (v w : View PlainEntry) (moment : ℕ) (request : Request) (answer : StepAnswer) (point : ℕ) (found : List ℕ) → is_live v.seen v.number ≡ true → Played v moment (jobs.Ask request) answer point found w
    → ((reply : Reply) (told : ℕ) → answer ≢ answers.Reply reply told) → ⊥
is_replied v w moment request (answers.Reply reply told) point found live acted none = none reply told refl
is_replied v w moment request answers.NoSession point found live acted none = is_session v w moment request point found live acted
is_replied v w moment request other point found live acted none = absurd acted.played.1

-- ---- an End

pub ends_at : (v w : View PlainEntry) (moment : ℕ) (answer : StepAnswer) (point : ℕ) (found : List ℕ) → is_live v.seen v.number ≡ true → Played v moment jobs.End answer point found w → EndsAt v.number v.seen w.seen
ends_at v w moment answers.Ended point found live acted = record {
  past = acted.extends.0;
  others = others v w moment jobs.End answers.Ended point found acted;
  grows = seen_is v w moment jobs.End answers.Ended point found acted ∙ acted.played.1.grows ∙ ap (λ (h : List PlainEntry). h ++ end_entry h v.number ∷ []) acted.extends.1;
}
ends_at v w moment answers.NoSession point found live acted = absurd (true≢false (sym (was_live v w moment jobs.End point found acted live) ∙ acted.played.1.not_live))
ends_at v w moment other point found live acted = absurd acted.played.1

pub ended_behind : (v w : View PlainEntry) (moment : ℕ) (answer : StepAnswer) (point : ℕ) (found : List ℕ) (old new : Coming) → IsNext moment old new → is_live v.seen v.number ≡ true → Played v moment jobs.End answer point found w
    → HasEndedBehind v old w new
ended_behind v w moment answers.Ended point found old new next live acted = record {
  act = acted.marks;
  gains = gains v w moment jobs.End answers.Ended point found acted old new next;
  number_stays = acted.played.1.number_stays;
  ends = ends_at v w moment answers.Ended point found live acted;
}
ended_behind v w moment answers.NoSession point found old new next live acted = absurd (true≢false (sym (was_live v w moment jobs.End point found acted live) ∙ acted.played.1.not_live))
ended_behind v w moment other point found old new next live acted = absurd acted.played.1
