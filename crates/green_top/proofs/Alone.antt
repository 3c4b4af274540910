-- A session that a store plays beside its disk: nobody else adds to the history.
use Rattle.std.proofs.Common.{◌≡◌, ◌≢◌, ℕ, ◌+◌, ◌≤◌, Bool, true, false, List, [], ◌∷◌, ◌++◌, length, refl, ap, ◌∙◌, sym, subst, inl, inr, arith, append_assoc}
use Rattle.std.specs.List.{flat_map}
use Rattle.std.proofs.lemmas.List.{append-nil}
use Rattle.febe_data.specs.LimitsView.{LimitsView}
use Rattle.febe_data.specs.Plain.{PlainEntry, plain_request, plain_reply}
use Rattle.green_io.specs.Disk.{DiskState}
use Rattle.world_rules.specs.World.{empty_world}
use Rattle.world_rules.specs.Placed.{AllPlaced}
use Rattle.world_rules.specs.History.{entries_of, is_live}
use Rattle.world_rules.specs.Legal.{IsLegal, Exchange}
use Rattle.green_store.specs.Durable.{has_risen}
use Rattle.green_store.specs.IsStep.{IsStep}
use Rattle.green_store.specs.Sessions.{greatest_session, begin_entry, end_entry}
use Rattle.green_store.specs.StoreView.{StoreView}
use Rattle.green_store.specs.declared.step.Step.TheVariants as steps
use Rattle.green_store.specs.declared.step.StepAnswer.{StepAnswer}
use Rattle.green_store.specs.declared.step.StepAnswer.TheVariants as answers
use Rattle.green_store.proofs.Places.{placed_push, placed_goes_on}
use Rattle.green_top.specs.declared.beside.Serves.{Serves}
use Rattle.green_top.specs.declared.session_end.SessionEnd.{SessionEnd}
use Rattle.green_top.specs.Outcome.{HasServedNext, HasServedAlone}
use Rattle.green_top.specs.Transcript.{RisesWithin}
use Rattle.green_top.specs.Times.{Coming, GivenBy, RunStep, begin_step, ask_step, tend_step, end_step, TimedStep, at_moment, steps_in, moments_in, exchanges_of, IsEndStep, AreStepsOf, AreTends}
use Rattle.green_top.specs.inside.Enduring.{Endures, RunsThrough, Settles}
use Rattle.green_top.specs.inside.Play.{Chain, nothing, asked, tended, IsDoneAt, IsLast, IsSat, DidNotBegin, IsUntouched, HasServed}
use Rattle.green_top.specs.inside.Stored.{number_in, HasBegunIn, HasAskedIn, HasTendedIn, HasEndedIn}
use Rattle.green_top.proofs.Endurings.{endures_nothing, endures_both, endures_begin, endures_ask, endures_background, endures_end, background_is_still}
use Rattle.green_top.proofs.Liveness.{none_above, live_own}
use Rattle.green_top.proofs.Progresses.{IsOwn, own_one, own_append, own_added, entries_both, flat_map_push, adds}
use Rattle.green_top.proofs.Rises.{rises_not, rises_push, rises_wider}
use Rattle.green_top.proofs.RunSteps.{TurnsBy, are_turns, turn_asked, steps_both, exchanges_both, given_push, tends_push}
use Rattle.green_top.proofs.Timings.{given_none, given_one, given_both}

-- what is told of the history, where all behind what was there is the session's own
pub only_own : (session : ℕ) (opened own h : List PlainEntry) → h ≡ opened ++ own → entries_of session opened ≡ [] → IsOwn session own → h ≡ opened ++ entries_of session h
only_own session opened own h e none is_own =
    e ∙ ap (λ (x : List PlainEntry). opened ++ x) (sym (ap (entries_of session) e ∙ entries_both session opened own ∙ ap (λ (x : List PlainEntry). x ++ entries_of session own) none ∙ is_own))

-- a Begin that gave this number, or none
record Opens (before after : StoreView) (session : ℕ) : Type 0 where
  number_is : session ≡ greatest_session before.history + 1
  grows : after.history ≡ before.history ++ begin_entry session ∷ []

begins : (before after : StoreView) (answer : StepAnswer) (rose : Bool) (session : ℕ) → IsStep before steps.Begin after answer rose → session ≡ number_in answer → session ≢ 0 → Opens before after session
begins before after (answers.Begun n) rose session step is numbered = record {
  number_is = is ∙ step.number_is;
  grows = ap (λ (v : StoreView). v.history) step.grows ∙ ap (λ (x : ℕ). before.history ++ begin_entry x ∷ []) (sym is);
}
begins before after answers.NoNumber rose session step is numbered = absurd (numbered is)
begins before after answers.Memory rose session step is numbered = absurd (numbered is)
begins before after other rose session step is numbered = absurd step

begins_none : (before after : StoreView) (answer : StepAnswer) (rose : Bool) (session : ℕ) → IsStep before steps.Begin after answer rose → session ≡ number_in answer → session ≡ 0 → after.history ≡ before.history
begins_none before after (answers.Begun n) rose session step is none = absurd (omega (arith, is, none, step.number_is))
begins_none before after answers.NoNumber rose session step is none = ap (λ (v : StoreView). v.history) step.stays
begins_none before after answers.Memory rose session step is none = ap (λ (v : StoreView). v.history) step.stays
begins_none before after other rose session step is none = absurd step

-- what an End adds, if anything
record Closes (session : ℕ) (before after : List PlainEntry) : Type 0 where
  more : List PlainEntry
  grows : after ≡ before ++ more
  own : IsOwn session more
  placed : AllPlaced empty_world after

closes : (before after : StoreView) (answer : StepAnswer) (rose : Bool) (session : ℕ) → AllPlaced empty_world before.history → IsStep before (steps.End session) after answer rose → Closes session before.history after.history
closes before after answers.Ended rose session placed step =
    let grows : after.history ≡ before.history ++ end_entry before.history session ∷ [] = ap (λ (v : StoreView). v.history) step.grows in
    record {
      more = end_entry before.history session ∷ [];
      grows = grows;
      own = own_one session (end_entry before.history session) refl;
      placed = subst (AllPlaced empty_world) (sym grows) (placed_push empty_world before.history (end_entry before.history session) placed tt);
    }
closes before after answers.NoSession rose session placed step =
    let stays : after.history ≡ before.history = ap (λ (v : StoreView). v.history) step.stays in
    record { more = []; grows = stays ∙ sym (append-nil before.history); own = refl; placed = subst (AllPlaced empty_world) (sym stays) placed }
closes before after other rose session placed step = absurd step

-- ---- trees that were put right

module _ {D : Type 0} (state : D → DiskState) (faults : D → ℕ) where
  pub tended_history : (first : Serves) (second : D) (coming : Coming) (f : Serves) (s : D) (coming' : Coming) → HasTendedIn state faults first second coming f s coming' → f.store.history ≡ first.store.history
  tended_history first second coming f s coming' told = (background_is_still first.store f.store told.answer (has_risen (faults second) (faults s)) told.stepped.made.is_step).history

  tended_endures : (first : Serves) (second : D) (coming : Coming) (f : Serves) (s : D) (coming' : Coming) (told : HasTendedIn state faults first second coming f s coming') (limits : LimitsView) (session : ℕ)
      → Endures limits session (at_moment told.stepped.moment tend_step ∷ []) (state second) first.store (faults second) (state s) f.store (faults s)
  tended_endures first second coming f s coming' told limits session =
      let t = told.stepped.made in
      endures_background limits session first.store f.store (state second) (state s) (faults second) (faults s) told.stepped.moment told.answer (has_risen (faults second) (faults s)) t.never_falls t.is_step t.is_timed t.any_moment t.keeps

  pub settled_not : (disk : DiskState) (store : StoreView) (n : ℕ) (coming : Coming) → Settles coming coming disk store n disk store n
  settled_not disk store n coming = record {
    steps = [];
    only_tends = tt;
    none_asked = refl;
    given = given_none coming;
    endures = λ limits session. endures_nothing limits session disk store n;
  }

  pub settled_more : (disk : DiskState) (store : StoreView) (n : ℕ) (coming : Coming) (b : Serves) (b' : D) (between : Coming) (f : Serves) (s : D) (coming' : Coming) → Settles coming between disk store n (state b') b.store (faults b')
      → HasTendedIn state faults b b' between f s coming' → Settles coming coming' disk store n (state s) f.store (faults s)
  settled_more disk store n coming b b' between f s coming' so_far told =
      let one : TimedStep = at_moment told.stepped.moment tend_step in
      record {
        steps = so_far.steps ++ one ∷ [];
        only_tends = subst AreTends (sym (steps_both so_far.steps (one ∷ []))) (tends_push (steps_in so_far.steps) so_far.only_tends);
        none_asked = exchanges_both so_far.steps (one ∷ []) ∙ ap (λ (es : List Exchange). es ++ []) so_far.none_asked;
        given = given_push so_far.steps told.stepped.moment tend_step coming between coming' so_far.given told.stepped.next;
        endures = λ limits session. endures_both limits session so_far.steps (one ∷ []) disk (state b') (state s) store b.store f.store n (faults b') (faults s) (so_far.endures limits session) (tended_endures b b' between f s coming' told limits session);
      }

module _ {D : Type 0} (state : D → DiskState) (faults : D → ℕ) where
  -- ---- what a chain gives

  record Follows (limits : LimitsView) (session : ℕ) (first : Serves) (second : D) (coming : Coming) (exchanges : List Exchange) (done : Bool) (f : Serves) (s : D) (coming' : Coming) : Type 0 where
    number_is : f.session ≡ session
    limits_are : f.store.limits ≡ limits
    history_is : f.store.history ≡ first.store.history ++ flat_map adds exchanges
    own : IsOwn session (flat_map adds exchanges)
    placed : AllPlaced empty_world f.store.history
    rises : RisesWithin exchanges (faults second) (faults s)
    steps : List TimedStep
    turns : TurnsBy done exchanges (steps_in steps)
    exchanges_are : exchanges ≡ exchanges_of steps
    given : GivenBy (moments_in steps) coming coming'
    endures : Endures limits session steps (state second) first.store (faults second) (state s) f.store (faults s)

  module _ (limits : LimitsView) (session : ℕ) (first : Serves) (second : D) (coming : Coming) where
    follows_nothing : first.session ≡ session → first.store.limits ≡ limits → AllPlaced empty_world first.store.history → Follows limits session first second coming [] true first second coming
    follows_nothing number limits_are placed = record {
      number_is = number;
      limits_are = limits_are;
      history_is = sym (append-nil first.store.history);
      own = refl;
      placed = placed;
      rises = rises_not (faults second) (faults second) (omega arith);
      steps = [];
      turns = refl;
      exchanges_are = refl;
      given = given_none coming;
      endures = endures_nothing limits session (state second) first.store (faults second);
    }

    module _ (before : List Exchange) (b : Serves) (b' : D) (between : Coming) (f : Serves) (s : D) (coming' : Coming) where
      module _ (w : Follows limits session first second coming before true b b' between) (e : Exchange) (told : HasAskedIn state faults b b' between e f s coming') where
        abbrev one : Exchange
        one = record { request = plain_request told.request; reply = plain_reply told.reply; point = length f.store.history; added = told.legal.added; rose = has_risen (faults b') (faults s) }

        abbrev one_step : TimedStep
        one_step = at_moment told.stepped.moment (ask_step (record { request = plain_request told.request; reply = plain_reply told.reply; point = length f.store.history; added = told.legal.added; rose = has_risen (faults b') (faults s) }))

        is_one : e ≡ one
        is_one = told.exchange_is ∙ ap (λ (p : ℕ). record { request = plain_request told.request; reply = plain_reply told.reply; point = p; added = told.legal.added; rose = has_risen (faults b') (faults s) }) told.stepped.made.is_step.point_is

        legal : IsLegal limits session b.store.history (plain_request told.request) (plain_reply told.reply) told.legal.added (has_risen (faults b') (faults s))
        legal =
            subst (λ (n : ℕ). IsLegal limits n b.store.history (plain_request told.request) (plain_reply told.reply) told.legal.added (has_risen (faults b') (faults s))) w.number_is
            (subst (λ (l : LimitsView). IsLegal l b.session b.store.history (plain_request told.request) (plain_reply told.reply) told.legal.added (has_risen (faults b') (faults s))) w.limits_are told.legal.legal)

        own_here : IsOwn session told.legal.added
        own_here = own_added session b.store.history (plain_request told.request) (plain_reply told.reply) told.legal.added (has_risen (faults b') (faults s)) limits legal

        step_endures : Endures limits session (one_step ∷ []) (state b') b.store (faults b') (state s) f.store (faults s)
        step_endures =
            let t = told.stepped.made in
            subst (λ (n : ℕ). Endures limits n (one_step ∷ []) (state b') b.store (faults b') (state s) f.store (faults s)) w.number_is
            (subst (λ (l : LimitsView). Endures l b.session (one_step ∷ []) (state b') b.store (faults b') (state s) f.store (faults s)) w.limits_are
            (endures_ask b.session told.request told.reply told.point b.store f.store (state b') (state s) (faults b') (faults s) told.stepped.moment t.never_falls told.valid told.legal t.is_timed t.any_moment t.keeps))

        follows_asked : Follows limits session first second coming (before ++ one ∷ []) false f s coming'
        follows_asked = record {
          number_is = told.number_stays ∙ w.number_is;
          limits_are = told.stepped.made.limits_stay ∙ w.limits_are;
          history_is = told.legal.grows ∙ ap (λ (x : List PlainEntry). x ++ told.legal.added) w.history_is ∙ append_assoc first.store.history (flat_map adds before) told.legal.added ∙ ap (λ (x : List PlainEntry). first.store.history ++ x) (sym (flat_map_push adds before one));
          own = subst (IsOwn session) (sym (flat_map_push adds before one)) (own_append session (flat_map adds before) told.legal.added w.own own_here);
          placed = placed_goes_on limits session b.store.history (plain_request told.request) (plain_reply told.reply) told.legal.added f.store.history (has_risen (faults b') (faults s)) w.placed legal told.legal.grows;
          rises = rises_push before one (faults second) (faults b') (faults s) w.rises told.stepped.made.never_falls refl;
          steps = w.steps ++ one_step ∷ [];
          turns = ap (λ (xs : List RunStep). xs ++ tend_step ∷ []) (steps_both w.steps (one_step ∷ [])) ∙ turn_asked before one (steps_in w.steps) w.turns;
          exchanges_are = ap (λ (es : List Exchange). es ++ one ∷ []) w.exchanges_are ∙ sym (exchanges_both w.steps (one_step ∷ []));
          given = given_push w.steps told.stepped.moment (ask_step one) coming between coming' w.given told.stepped.next;
          endures = endures_both limits session w.steps (one_step ∷ []) (state second) (state b') (state s) first.store b.store f.store (faults second) (faults b') (faults s) w.endures step_endures;
        }

      follows_tended : Follows limits session first second coming before false b b' between → HasTendedIn state faults b b' between f s coming' → Follows limits session first second coming before true f s coming'
      follows_tended w told =
          let t = told.stepped.made in
          let still = background_is_still b.store f.store told.answer (has_risen (faults b') (faults s)) t.is_step in
          let one : TimedStep = at_moment told.stepped.moment tend_step in
          record {
            number_is = told.number_stays ∙ w.number_is;
            limits_are = still.limits ∙ w.limits_are;
            history_is = still.history ∙ w.history_is;
            own = w.own;
            placed = subst (AllPlaced empty_world) (sym still.history) w.placed;
            rises = rises_wider before (faults second) (faults second) (faults b') (faults s) (omega arith) t.never_falls w.rises;
            steps = w.steps ++ one ∷ [];
            turns = steps_both w.steps (one ∷ []) ∙ w.turns;
            exchanges_are = w.exchanges_are ∙ sym (exchanges_both w.steps (one ∷ []) ∙ append-nil (exchanges_of w.steps));
            given = given_push w.steps told.stepped.moment tend_step coming between coming' w.given told.stepped.next;
            endures = endures_both limits session w.steps (one ∷ []) (state second) (state b') (state s) first.store b.store f.store (faults second) (faults b') (faults s) w.endures (tended_endures state faults b b' between f s coming' told limits session);
          }

    follows_same : (es : List Exchange) (done : Bool) (f : Serves) (s : D) (coming' : Coming) → es ≡ [] → done ≡ true → f ≡ first → s ≡ second → coming' ≡ coming
        → Follows limits session first second coming [] true first second coming → Follows limits session first second coming es done f s coming'
    follows_same es done f s coming' none all same same' same_coming w =
        subst (λ (x : List Exchange). Follows limits session first second coming x done f s coming') (sym none)
        (subst (λ (x : Bool). Follows limits session first second coming [] x f s coming') (sym all)
        (subst (λ (x : Serves). Follows limits session first second coming [] true x s coming') (sym same)
        (subst (λ (x : D). Follows limits session first second coming [] true first x coming') (sym same')
        (subst (λ (x : Coming). Follows limits session first second coming [] true first second x) (sym same_coming) w))))

    follows : first.session ≡ session → first.store.limits ≡ limits → AllPlaced empty_world first.store.history
        → (es : List Exchange) (done : Bool) (f : Serves) (s : D) (coming' : Coming) → Chain (HasAskedIn state faults) (HasTendedIn state faults) first second coming es done f s coming' → Follows limits session first second coming es done f s coming'
    follows number limits_are placed es done f s coming' (nothing _ _ _ _ _ none all same same' same_coming) = follows_same es done f s coming' none all same same' same_coming (follows_nothing number limits_are placed)
    follows number limits_are placed es done f s coming' (asked _ before e _ b b' between _ _ _ parts left chain told) =
        let w = follows number limits_are placed before true b b' between chain in
        subst (λ (x : List Exchange). Follows limits session first second coming x done f s coming') (sym (parts ∙ ap (λ (x : Exchange). before ++ x ∷ []) (is_one before b b' between f s coming' w e told)))
        (subst (λ (x : Bool). Follows limits session first second coming (before ++ one before b b' between f s coming' w e told ∷ []) x f s coming') (sym left) (follows_asked before b b' between f s coming' w e told))
    follows number limits_are placed es done f s coming' (tended _ _ b b' between _ _ _ all chain told) =
        subst (λ (x : Bool). Follows limits session first second coming es x f s coming') (sym all) (follows_tended es b b' between f s coming' (follows number limits_are placed es false b b' between chain) told)

  -- ---- a session

  abbrev seen : Serves → D → List PlainEntry
  seen serves disk = serves.store.history

  abbrev number : Serves → ℕ
  number serves = serves.session

  abbrev Given : SessionEnd → Serves → D → Coming → List Exchange → Serves → D → Coming → Type 0
  Given end first second coming exchanges first' second' coming' =
      HasServedAlone first.store.history first'.session first'.store.history exchanges (faults second) (faults second')
      × RunsThrough end first.store.limits (greatest_session first.store.history + 1) first'.session exchanges [] coming coming' (state second) first.store (faults second) (state second') first'.store (faults second')

  module _ (first : Serves) (second : D) (coming : Coming) (placed : AllPlaced empty_world first.store.history) (exchanges : List Exchange) (begun : Serves) (begun' : D) (coming_begun : Coming) (b : HasBegunIn state faults first second coming begun begun' coming_begun)
      (numbered : begun.session ≢ 0) where
    opens : Opens first.store begun.store begun.session
    opens = begins first.store begun.store b.answer (has_risen (faults second) (faults begun')) begun.session b.stepped.made.is_step b.number_is numbered

    grows : begun.store.history ≡ first.store.history ++ begin_entry (greatest_session first.store.history + 1) ∷ []
    grows = opens.grows ∙ ap (λ (n : ℕ). first.store.history ++ begin_entry n ∷ []) opens.number_is

    begun_placed : AllPlaced empty_world begun.store.history
    begun_placed = subst (AllPlaced empty_world) (sym grows) (placed_push empty_world first.store.history (begin_entry (greatest_session first.store.history + 1)) placed tt)

    begin_endures : Endures first.store.limits (greatest_session first.store.history + 1) (at_moment b.stepped.moment begin_step ∷ []) (state second) first.store (faults second) (state begun') begun.store (faults begun')
    begin_endures =
        let t = b.stepped.made in
        endures_begin first.store.limits (greatest_session first.store.history + 1) first.store begun.store (state second) (state begun') (faults second) (faults begun') b.stepped.moment b.answer (has_risen (faults second) (faults begun')) t.never_falls t.is_step t.is_timed t.any_moment t.keeps

    module _ (end : SessionEnd) (done : Bool) (is_done_at : IsDoneAt end done) (left : Serves) (left' : D) (coming_left : Coming) (w : Follows first.store.limits (greatest_session first.store.history + 1) begun begun' coming_begun exchanges done left left' coming_left) where
      so_far : Endures first.store.limits (greatest_session first.store.history + 1) (at_moment b.stepped.moment begin_step ∷ w.steps) (state second) first.store (faults second) (state left') left.store (faults left')
      so_far =
          endures_both first.store.limits (greatest_session first.store.history + 1) (at_moment b.stepped.moment begin_step ∷ []) w.steps (state second) (state begun') (state left') first.store begun.store left.store (faults second) (faults begun') (faults left') begin_endures w.endures

      so_far_given : GivenBy (moments_in (at_moment b.stepped.moment begin_step ∷ w.steps)) coming coming_left
      so_far_given = given_both (b.stepped.moment ∷ []) (moments_in w.steps) coming coming_begun coming_left (given_one b.stepped.moment coming coming_begun b.stepped.next) w.given

      left_is : left.store.history ≡ first.store.history ++ (begin_entry (greatest_session first.store.history + 1) ∷ flat_map adds exchanges)
      left_is = w.history_is ∙ ap (λ (x : List PlainEntry). x ++ flat_map adds exchanges) grows ∙ append_assoc first.store.history (begin_entry (greatest_session first.store.history + 1) ∷ []) (flat_map adds exchanges)

      -- the session is as live as its own entries say
      own_lives : (mine : ℕ) (live : Bool) → mine ≡ greatest_session first.store.history + 1 → is_live left.store.history left.session ≡ live → is_live (begin_entry mine ∷ flat_map adds exchanges) mine ≡ live
      own_lives mine live same is =
          let n : ℕ = greatest_session first.store.history + 1 in
          subst (λ (k : ℕ). is_live (begin_entry k ∷ flat_map adds exchanges) k ≡ live) (sym same)
          (sym (live_own n first.store.history (flat_map adds exchanges)) ∙ ap (λ (h : List PlainEntry). is_live h n) (sym left_is) ∙ subst (λ (k : ℕ). is_live left.store.history k ≡ live) w.number_is is)

      served : (last : Serves) (last' : D) (more : List PlainEntry) → last.session ≡ left.session → last.store.history ≡ left.store.history ++ more → IsOwn (greatest_session first.store.history + 1) more → AllPlaced empty_world last.store.history → faults left' ≤ faults last'
          → HasServedNext first.store.history last.session last.store.history exchanges (faults second) (faults last')
      served last last' more same e own all rises =
          let n : ℕ = greatest_session first.store.history + 1 in
          let is : last.session ≡ n = same ∙ w.number_is in
          let behind : List PlainEntry = (begin_entry n ∷ []) ++ (flat_map adds exchanges ++ more) in
          let whole : last.store.history ≡ first.store.history ++ behind =
          e ∙ ap (λ (x : List PlainEntry). x ++ more) (w.history_is ∙ ap (λ (x : List PlainEntry). x ++ flat_map adds exchanges) grows)
          ∙ append_assoc (first.store.history ++ begin_entry n ∷ []) (flat_map adds exchanges) more ∙ append_assoc first.store.history (begin_entry n ∷ []) (flat_map adds exchanges ++ more) in
          let all_own : IsOwn n behind = own_append n (begin_entry n ∷ []) (flat_map adds exchanges ++ more) (own_one n (begin_entry n) refl) (own_append n (flat_map adds exchanges) more w.own own) in
          record {
            number_is = is;
            history_is = subst (λ (k : ℕ). last.store.history ≡ first.store.history ++ entries_of k last.store.history) (sym is) (only_own n first.store.history behind last.store.history whole (none_above first.store.history n (omega arith)) all_own);
            placed = all;
            rises = rises_wider exchanges (faults second) (faults begun') (faults left') (faults last') b.stepped.made.never_falls rises w.rises;
          }

      are_steps : (mine : ℕ) (ending : List RunStep) → mine ≡ greatest_session first.store.history + 1 → IsEndStep mine (begin_entry mine ∷ flat_map adds exchanges) ending → AreStepsOf end mine exchanges [] (begin_step ∷ (steps_in w.steps ++ ending))
      are_steps mine ending same is = inr (record {
        numbered = λ none. absurd (omega (arith, none, same));
        turns = steps_in w.steps;
        ending = ending;
        are_turns = are_turns end done exchanges (steps_in w.steps) is_done_at w.turns;
        is_ending = is;
        parts = ap (λ (xs : List RunStep). begin_step ∷ (steps_in w.steps ++ xs)) (sym (append-nil ending));
      })

      ended : (last : Serves) (last' : D) (coming' : Coming) → is_live left.store.history left.session ≡ true → HasEndedIn state faults left left' coming_left last last' coming' → Given end first second coming exchanges last last' coming'
      ended last last' coming' live told =
          let n : ℕ = greatest_session first.store.history + 1 in
          let t = told.stepped.made in
          let one : TimedStep = at_moment told.stepped.moment end_step in
          let c = closes left.store last.store told.answer (has_risen (faults left') (faults last')) left.session w.placed t.is_step in (
            inr (served last last' c.more told.number_stays c.grows (subst (λ (k : ℕ). IsOwn k c.more) w.number_is c.own) c.placed t.never_falls),
            record {
              steps = (at_moment b.stepped.moment begin_step ∷ w.steps) ++ one ∷ [];
              steps_are = subst (λ (xs : List RunStep). AreStepsOf end last.session exchanges [] (begin_step ∷ xs)) (sym (steps_both w.steps (one ∷ [])))
                  (are_steps last.session (end_step ∷ []) (told.number_stays ∙ w.number_is) (inl (own_lives last.session true (told.number_stays ∙ w.number_is) live, refl)));
              exchanges_are = w.exchanges_are ∙ sym (exchanges_both w.steps (one ∷ []) ∙ append-nil (exchanges_of w.steps));
              given = given_push (at_moment b.stepped.moment begin_step ∷ w.steps) told.stepped.moment end_step coming coming_left coming' so_far_given told.stepped.next;
              endures = endures_both first.store.limits n (at_moment b.stepped.moment begin_step ∷ w.steps) (one ∷ []) (state second) (state left') (state last') first.store left.store last.store (faults second) (faults left') (faults last') so_far
                  (endures_end first.store.limits n left.session left.store last.store (state left') (state last') (faults left') (faults last') told.stepped.moment told.answer (has_risen (faults left') (faults last')) t.never_falls t.is_step t.is_timed t.any_moment t.keeps);
            },
          )

      over : is_live left.store.history left.session ≡ false → Given end first second coming exchanges left left' coming_left
      over dead = (
        inr (served left left' [] refl (sym (append-nil left.store.history)) refl w.placed (omega arith)),
        record {
          steps = at_moment b.stepped.moment begin_step ∷ w.steps;
          steps_are = subst (λ (xs : List RunStep). AreStepsOf end left.session exchanges [] (begin_step ∷ xs)) (append-nil (steps_in w.steps)) (are_steps left.session [] w.number_is (inr (own_lives left.session false w.number_is dead, refl)));
          exchanges_are = w.exchanges_are;
          given = so_far_given;
          endures = so_far;
        },
      )

      closed : (last : Serves) (last' : D) (coming' : Coming) → IsLast seen number (HasBegunIn state faults) (HasAskedIn state faults) (HasTendedIn state faults) (HasEndedIn state faults) left left' coming_left last last' coming' → Given end first second coming exchanges last last' coming'
      closed last last' coming' (inl e) = ended last last' coming' e.0 e.1
      closed last last' coming' (inr o) =
          subst (λ (x : Serves). Given end first second coming exchanges x last' coming') (sym o.1)
          (subst (λ (x : D). Given end first second coming exchanges left x coming') (sym o.2) (subst (λ (x : Coming). Given end first second coming exchanges left left' x) (sym o.3) (over o.0)))

    begun_follows : (done : Bool) (left : Serves) (left' : D) (coming_left : Coming) → Chain (HasAskedIn state faults) (HasTendedIn state faults) begun begun' coming_begun exchanges done left left' coming_left
        → Follows first.store.limits (greatest_session first.store.history + 1) begun begun' coming_begun exchanges done left left' coming_left
    begun_follows done left left' coming_left chain =
        follows first.store.limits (greatest_session first.store.history + 1) begun begun' coming_begun opens.number_is b.stepped.made.limits_stay begun_placed exchanges done left left' coming_left chain

  module _ (first : Serves) (second : D) (coming : Coming) (placed : AllPlaced empty_world first.store.history) (unnumbered : first.session ≡ 0) (end : SessionEnd) (exchanges : List Exchange) (last : Serves) (last' : D) (coming' : Coming) where
    untouched : IsUntouched seen number (HasBegunIn state faults) (HasAskedIn state faults) (HasTendedIn state faults) (HasEndedIn state faults) end first second coming exchanges last last' coming' → Given end first second coming exchanges last last' coming'
    untouched u =
        subst (λ (x : List Exchange). Given end first second coming x last last' coming') (sym u.none_answered)
        (subst (λ (x : Serves). Given end first second coming [] x last' coming') (sym u.first_stays)
        (subst (λ (x : D). Given end first second coming [] first x coming') (sym u.second_stays)
        (subst (λ (x : Coming). Given end first second coming [] first second x) (sym u.coming_stays) (
          inl (unnumbered, refl),
          record {
            steps = [];
            steps_are = inl (unnumbered, u.no_step);
            exchanges_are = refl;
            given = given_none coming;
            endures = endures_nothing first.store.limits (greatest_session first.store.history + 1) (state second) first.store (faults second);
          },
        ))))

    not_begun : DidNotBegin seen number (HasBegunIn state faults) (HasAskedIn state faults) (HasTendedIn state faults) (HasEndedIn state faults) end first second coming exchanges last last' coming' → Given end first second coming exchanges last last' coming'
    not_begun d =
        let b = d.begins in
        let t = b.stepped.made in
        subst (λ (x : List Exchange). Given end first second coming x last last' coming') (sym d.none_answered) (
          inl (d.unnumbered, begins_none first.store last.store b.answer (has_risen (faults second) (faults last')) last.session t.is_step b.number_is d.unnumbered),
          record {
            steps = at_moment b.stepped.moment begin_step ∷ [];
            steps_are = inl (d.unnumbered, d.only_begin);
            exchanges_are = refl;
            given = given_one b.stepped.moment coming coming' b.stepped.next;
            endures = endures_begin first.store.limits (greatest_session first.store.history + 1) first.store last.store (state second) (state last') (faults second) (faults last') b.stepped.moment b.answer (has_risen (faults second) (faults last')) t.never_falls t.is_step t.is_timed t.any_moment t.keeps;
          },
        )

    sat : IsSat seen number (HasBegunIn state faults) (HasAskedIn state faults) (HasTendedIn state faults) (HasEndedIn state faults) end first second coming exchanges last last' coming' → Given end first second coming exchanges last last' coming'
    sat s =
        closed first second coming placed exchanges s.begun s.begun' s.coming_begun s.begins s.numbered end s.done s.is_done_at s.left s.left' s.coming_left
        (begun_follows first second coming placed exchanges s.begun s.begun' s.coming_begun s.begins s.numbered s.done s.left s.left' s.coming_left s.chain) last last' coming' s.last

    pub served_alone : HasServed seen number (HasBegunIn state faults) (HasAskedIn state faults) (HasTendedIn state faults) (HasEndedIn state faults) end first second coming exchanges last last' coming' → Given end first second coming exchanges last last' coming'
    served_alone (inl u) = untouched u
    served_alone (inr (inl d)) = not_begun d
    served_alone (inr (inr s)) = sat s
