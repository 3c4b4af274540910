-- The steps of a run: which they are, and the moments of the kept entries that they make.
use Rattle.std.proofs.Common.{◌≡◌, ◌≢◌, ℕ, ◌+◌, ◌≤◌, Bool, true, false, List, [], ◌∷◌, ◌++◌, length, map, refl, ap, ◌∙◌, sym, subst, inl, inr, arith, append_assoc}
use Rattle.std.specs.Prelude.{Result, Ok, Err}
use Rattle.std.specs.List.{flat_map}
use Rattle.std.proofs.lemmas.List.{append-nil, length-append, length-map, map-append}
use Rattle.std.proofs.lemmas.List.Concat.{flat_map-append}
use Rattle.std.proofs.lemmas.List.Elements.{filter-append}
use Rattle.febe_data.specs.Plain.{PlainEntry}
use Rattle.entry_codec.specs.Logged.{PlainLogged, made_at_moment, timed}
use Rattle.green_io.specs.Clock.{IsNext}
use Rattle.world_rules.specs.History.{durable_entries, is_durable}
use Rattle.world_rules.specs.Legal.{Exchange}
use Rattle.green_store.specs.StoreView.{StoreView}
use Rattle.green_store.specs.TimedStep.{IsTimedStep}
use Rattle.green_top.specs.Crash.{IsFront}
use Rattle.green_top.specs.Times.{Coming, GivenBy, RunStep, begin_step, ask_step, tend_step, TimedStep, at_moment, steps_in, moments_in, exchange_in, exchanges_of, moments_of_step, moments_kept, turns_of, CutsShort, AreTurns, IsEndStep, AreSessionSteps, WithoutSession, AreStepsOf, AreTends}
use Rattle.green_top.specs.declared.session_end.SessionEnd.{SessionEnd}
use Rattle.green_top.specs.declared.session_end.SessionEnd.TheVariants as ends
use Rattle.green_top.specs.GeneratedRun.{inner_end}
use Rattle.green_top.specs.inside.Play.{IsDoneAt}
use Rattle.green_top.specs.inside.Summing.{outcome_of}
use Rattle.green_top.specs.inside.Enduring.{HasMoments}
use Rattle.green_top.proofs.Timings.{given_one, given_both}

-- ---- lists of steps

abbrev step_of : TimedStep → RunStep
step_of s = s.step

abbrev moment_of : TimedStep → ℕ
moment_of s = s.moment

abbrev exchanges_at : TimedStep → List Exchange
exchanges_at s = exchange_in s.step

pub steps_both : (xs ys : List TimedStep) → steps_in (xs ++ ys) ≡ steps_in xs ++ steps_in ys
steps_both xs ys = map-append step_of xs ys

pub exchanges_both : (xs ys : List TimedStep) → exchanges_of (xs ++ ys) ≡ exchanges_of xs ++ exchanges_of ys
exchanges_both xs ys = flat_map-append exchanges_at xs ys

pub kept_both : (xs ys : List TimedStep) → moments_kept (xs ++ ys) ≡ moments_kept xs ++ moments_kept ys
kept_both xs ys = flat_map-append moments_of_step xs ys

pub given_more : (xs ys : List TimedStep) (a b c : Coming) → GivenBy (moments_in xs) a b → GivenBy (moments_in ys) b c → GivenBy (moments_in (xs ++ ys)) a c
given_more xs ys a b c first next = subst (λ (ms : List ℕ). GivenBy ms a c) (sym (map-append moment_of xs ys)) (given_both (moments_in xs) (moments_in ys) a b c first next)

pub given_push : (xs : List TimedStep) (moment : ℕ) (step : RunStep) (a b c : Coming) → GivenBy (moments_in xs) a b → IsNext moment b c → GivenBy (moments_in (xs ++ at_moment moment step ∷ [])) a c
given_push xs moment step a b c first next = given_more xs (at_moment moment step ∷ []) a b c first (given_one moment b c next)

-- ---- the steps of a session

-- those for its exchanges, where the last turn is over or not
abbrev pub TurnsBy : Bool → List Exchange → List RunStep → Type 0
TurnsBy true exchanges steps = steps ≡ turns_of exchanges
TurnsBy false exchanges steps = steps ++ tend_step ∷ [] ≡ turns_of exchanges

pub are_turns : (end : SessionEnd) (done : Bool) (exchanges : List Exchange) (steps : List RunStep) → IsDoneAt end done → TurnsBy done exchanges steps → AreTurns end exchanges steps
are_turns end true exchanges steps is turns = inl turns
are_turns end false exchanges steps is turns = inr (is, turns)

abbrev turn : Exchange → List RunStep
turn e = ask_step e ∷ tend_step ∷ []

pub turn_asked : (before : List Exchange) (e : Exchange) (steps : List RunStep) → steps ≡ turns_of before → (steps ++ ask_step e ∷ []) ++ tend_step ∷ [] ≡ turns_of (before ++ e ∷ [])
turn_asked before e steps turns =
    append_assoc steps (ask_step e ∷ []) (tend_step ∷ []) ∙ ap (λ (xs : List RunStep). xs ++ turn e) turns ∙ sym (flat_map-append turn before (e ∷ []))

pub tends_push : (steps : List RunStep) → AreTends steps → AreTends (steps ++ tend_step ∷ [])
tends_push [] all = (refl, tt)
tends_push (x ∷ steps) all = (all.0, tends_push steps all.1)

-- where each reply was written all turns are over, whatever the end is then said to be
turns_over : (end told : SessionEnd) (exchanges : List Exchange) (steps : List RunStep) → ¬ CutsShort end → AreTurns end exchanges steps → AreTurns told exchanges steps
turns_over end told exchanges steps whole (inl turns) = inl turns
turns_over end told exchanges steps whole (inr cut) = absurd (whole cut.0)

-- a session that began and whose replies were all written, and then what was done behind it
pub steps_behind : (end told : SessionEnd) (session : ℕ) (exchanges : List Exchange) (steps behind : List RunStep) → ¬ CutsShort end → session ≢ 0 → AreStepsOf end session exchanges [] steps → AreStepsOf told session exchanges behind (steps ++ behind)
steps_behind end told session exchanges steps behind whole numbered (inl none) = absurd (numbered none.0)
steps_behind end told session exchanges steps behind whole numbered (inr s) = inr (record {
  numbered = s.numbered;
  turns = s.turns;
  ending = s.ending;
  are_turns = turns_over end told exchanges s.turns whole s.are_turns;
  is_ending = s.is_ending;
  parts = ap (λ (xs : List RunStep). xs ++ behind) (s.parts ∙ ap (λ (xs : List RunStep). begin_step ∷ (s.turns ++ xs)) (append-nil s.ending)) ∙ ap (λ (xs : List RunStep). begin_step ∷ xs) (append_assoc s.turns s.ending behind);
})

-- ---- a session whose output comes into memory

abbrev IsDone : Result (Unit {0}) SessionEnd → Type 0
IsDone (Ok done) = Unit {0}
IsDone (Err end) = ⊥

abbrev end_in : Result (Unit {0}) SessionEnd → SessionEnd
end_in (Ok done) = ends.Quit
end_in (Err end) = end

-- where a summary is to be written each reply was
pub all_written : (end : SessionEnd) (done : Unit {0}) → outcome_of end ≡ Ok done → ¬ CutsShort end
all_written ends.Quit done is cut = cut
all_written ends.End done is cut = cut
all_written (ends.Malformed at) done is cut = cut
all_written (ends.Truncated at) done is cut = cut
all_written ends.ReadFault done is cut = cut
all_written ends.WriteFault done is cut = subst IsDone (sym is) tt
all_written ends.Memory done is cut = subst IsDone (sym is) tt
all_written ends.Budget done is cut = cut
all_written ends.NoNumber done is cut = cut

turns_cut : (end : SessionEnd) (exchanges : List Exchange) (steps : List RunStep) → AreTurns end exchanges steps → AreTurns ends.Memory exchanges steps
turns_cut end exchanges steps (inl turns) = inl turns
turns_cut end exchanges steps (inr cut) = inr (tt, cut.1)

-- the steps of a session whose end is told as another
module _ (told : SessionEnd) (session : ℕ) (exchanges : List Exchange) (steps : List RunStep) where
  told_so : (it : SessionEnd) → told ≡ it → AreStepsOf (inner_end it) session exchanges [] steps → AreStepsOf (inner_end told) session exchanges [] steps
  told_so it same steps_are = subst (λ (x : SessionEnd). AreStepsOf (inner_end x) session exchanges [] steps) (sym same) steps_are

  as_memory : (end : SessionEnd) → (WithoutSession end steps → steps ≡ []) → told ≡ ends.Memory → AreStepsOf end session exchanges [] steps → AreStepsOf (inner_end told) session exchanges [] steps
  as_memory end none same (inl w) = told_so ends.Memory same (inl (w.0, inl (none w.1)))
  as_memory end none same (inr s) =
      told_so ends.Memory same (inr (record { numbered = s.numbered; turns = s.turns; ending = s.ending; are_turns = turns_cut end exchanges s.turns s.are_turns; is_ending = s.is_ending; parts = s.parts }))

  -- where there is no summary, the steps are those of the end that is told in its place
  pub unsummed_steps : (end : SessionEnd) → outcome_of end ≡ Err told → AreStepsOf end session exchanges [] steps → AreStepsOf (inner_end told) session exchanges [] steps
  unsummed_steps ends.Quit is steps_are = absurd (subst IsDone is tt)
  unsummed_steps ends.End is steps_are = absurd (subst IsDone is tt)
  unsummed_steps (ends.Malformed at) is steps_are = as_memory (ends.Malformed at) (λ none. none) (sym (ap end_in is)) steps_are
  unsummed_steps (ends.Truncated at) is steps_are = as_memory (ends.Truncated at) (λ none. none) (sym (ap end_in is)) steps_are
  unsummed_steps ends.ReadFault is steps_are = as_memory ends.ReadFault (λ none. none) (sym (ap end_in is)) steps_are
  unsummed_steps ends.WriteFault is steps_are = as_memory ends.WriteFault (λ none. none) (sym (ap end_in is)) steps_are
  unsummed_steps ends.Memory is steps_are = told_so ends.Memory (sym (ap end_in is)) steps_are
  unsummed_steps ends.Budget is steps_are = as_memory ends.Budget (λ none. none) (sym (ap end_in is)) steps_are
  unsummed_steps ends.NoNumber is steps_are = told_so ends.NoNumber (sym (ap end_in is)) steps_are

-- ---- the moments of kept entries

abbrev counted : PlainEntry → Bool
counted e = is_durable e.change

pub durable_both : (xs ys : List PlainEntry) → durable_entries (xs ++ ys) ≡ durable_entries xs ++ durable_entries ys
durable_both xs ys = filter-append counted xs ys

-- each of these entries has this moment
abbrev pub at_this : ℕ → List PlainEntry → List ℕ
at_this moment entries = map (λ (entry : PlainEntry). moment) entries

at_none : (moment : ℕ) (entries : List PlainEntry) → length entries ≡ 0 → at_this moment entries ≡ []
at_none moment [] none = refl
at_none moment (e ∷ entries) none = absurd (omega (arith, none))

at_one : (moment : ℕ) (entries : List PlainEntry) → length entries ≡ 1 → at_this moment entries ≡ moment ∷ []
at_one moment [] one = absurd (omega (arith, one))
at_one moment (e ∷ []) one = refl
at_one moment (e ∷ f ∷ entries) one = absurd (omega (arith, one))

module _ (before after : StoreView) (moment : ℕ) (added : List PlainEntry) (grows : after.history ≡ before.history ++ added) where
  counts : length (durable_entries after.history) ≡ length (durable_entries before.history) + length (durable_entries added)
  counts =
      ap (λ (h : List PlainEntry). length (durable_entries h)) grows ∙ ap length (durable_both before.history added) ∙ length-append (durable_entries before.history) (durable_entries added)

  pub moments_come : IsTimedStep before moment after → after.moments ≡ before.moments ++ at_this moment (durable_entries added)
  moments_come (inl none) =
      none.moments_stay ∙ sym (append-nil before.moments) ∙ ap (λ (ms : List ℕ). before.moments ++ ms) (sym (at_none moment (durable_entries added) (omega (arith, counts, ap length none.none_kept))))
  moments_come (inr one) =
      let more : length (durable_entries after.history) ≡ length (durable_entries before.history) + 1 = ap length one.one_kept ∙ length-append (durable_entries before.history) (one.entry ∷ []) in
      one.moment_comes ∙ ap (λ (ms : List ℕ). before.moments ++ ms) (sym (at_one moment (durable_entries added) (omega (arith, counts, more))))

  pub for_each_come : after.moments ≡ before.moments ++ at_this moment (durable_entries added) → HasMoments before → HasMoments after
  for_each_come come each =
      let all : length after.moments ≡ length before.moments + length (at_this moment (durable_entries added)) = ap length come ∙ length-append before.moments (at_this moment (durable_entries added)) in
      omega (arith, all, each, counts, length-map (durable_entries added) (λ (entry : PlainEntry). moment))

-- ---- entries with their moments

pub timed_more : (entries : List PlainEntry) (moments more : List ℕ) → length entries ≤ length moments → timed entries (moments ++ more) ≡ timed entries moments
timed_more [] moments more le = refl
timed_more (e ∷ entries) [] more le = absurd (omega (arith, le))
timed_more (e ∷ entries) (m ∷ moments) more le = ap (λ (rows : List PlainLogged). made_at_moment e m ∷ rows) (timed_more entries moments more (omega (arith, le)))

-- there is a moment for each kept entry of a front
pub front_kept : (least : ℕ) (history front : List PlainEntry) → IsFront least history front → length (durable_entries front) ≤ length (durable_entries history)
front_kept least history front f =
    omega (arith, ap (λ (h : List PlainEntry). length (durable_entries h)) f.parts, ap length (durable_both front f.back), length-append (durable_entries front) (durable_entries f.back))
