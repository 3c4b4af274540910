-- The steps of a run, and the moments that a clock gave for them.
use Rattle.std.specs.Prelude.{◌≡◌, ◌≢◌, ◌⊎◌, ℕ, ◌+◌, ◌<◌, true, false, List, [], ◌∷◌, ◌++◌, length, map, slice_index, Option, None, Some}
use Rattle.std.specs.List.{flat_map, AllByRecursion}
use Rattle.febe_data.specs.Plain.{PlainEntry}
use Rattle.world_rules.specs.History.{durable_entries, is_live}
use Rattle.world_rules.specs.Legal.{Exchange}
use Rattle.green_store.specs.Sessions.{begin_entry}
use Rattle.green_top.specs.declared.session_end.SessionEnd.{SessionEnd}
use Rattle.green_top.specs.declared.session_end.SessionEnd.TheVariants as ends

-- the answers that a clock has still to give, of which 0 has the next, where it tells them
abbrev pub Coming : Type 0
Coming = Option (ℕ → ℕ)

-- The first of the answers that were to come are these moments, in order, and those behind them are still to come.
pub record AreFirst (moments : List ℕ) (old new : ℕ → ℕ) : Type 0 where
  pub given : (k : ℕ) → k < length moments → slice_index moments k ≡ old k
  pub left : (k : ℕ) → new k ≡ old (length moments + k)

-- A clock gave these moments one after another, and nothing else, where it tells its answers.
abbrev pub GivenBy : List ℕ → Coming → Coming → Type 0
GivenBy moments None None = Unit {0}
GivenBy moments (Some old) (Some new) = AreFirst moments old new
GivenBy moments _ _ = ⊥

-- ---- steps

-- What a run does in one step: a Begin, a request that is answered in this exchange, one step by which trees and pages are put
-- right, or an End.
pub data RunStep : Type 0 where
  begin_step : RunStep
  ask_step : Exchange → RunStep
  tend_step : RunStep
  end_step : RunStep

-- a step, and the moment that it was given
pub record TimedStep : Type 0 where
  pub moment : ℕ
  pub step : RunStep

abbrev pub at_moment : ℕ → RunStep → TimedStep
at_moment moment step = record { moment = moment; step = step }

abbrev pub steps_in : List TimedStep → List RunStep
steps_in steps = map (λ (s : TimedStep). s.step) steps

abbrev pub moments_in : List TimedStep → List ℕ
moments_in steps = map (λ (s : TimedStep). s.moment) steps

-- the exchange of a step, if it has one
abbrev pub exchange_in : RunStep → List Exchange
exchange_in (ask_step exchange) = exchange ∷ []
exchange_in other = []

-- the exchanges of steps, in order
abbrev pub exchanges_of : List TimedStep → List Exchange
exchanges_of steps = flat_map (λ (s : TimedStep). exchange_in s.step) steps

-- the kept entries that a step made
abbrev pub kept_in : RunStep → List PlainEntry
kept_in (ask_step exchange) = durable_entries exchange.added
kept_in other = []

-- the moment of a step, once for each of them
abbrev pub moments_of_step : TimedStep → List ℕ
moments_of_step s = map (λ (entry : PlainEntry). s.moment) (kept_in s.step)

-- the moments of all kept entries that these steps made, in order
abbrev pub moments_kept : List TimedStep → List ℕ
moments_kept steps = flat_map moments_of_step steps

-- ---- which steps a session has

-- Each request is answered, and then trees and pages are put right.
abbrev pub turns_of : List Exchange → List RunStep
turns_of exchanges = flat_map (λ (e : Exchange). ask_step e ∷ tend_step ∷ []) exchanges

-- A session that ended so may have had a last reply that could not be written: the sink failed, or there was no memory to spell it.
abbrev pub CutsShort : SessionEnd → Type 0
CutsShort ends.WriteFault = Unit {0}
CutsShort ends.Memory = Unit {0}
CutsShort other = ⊥

-- But behind a last reply that could not be written nothing is put right.
abbrev pub AreTurns : SessionEnd → List Exchange → List RunStep → Type 0
AreTurns end exchanges steps = (steps ≡ turns_of exchanges) ⊎ (CutsShort end × (steps ++ tend_step ∷ [] ≡ turns_of exchanges))

-- There is an End where the session's own entries leave it live.
abbrev pub IsEndStep : ℕ → List PlainEntry → List RunStep → Type 0
IsEndStep session own steps = ((is_live own session ≡ true) × (steps ≡ end_step ∷ [])) ⊎ ((is_live own session ≡ false) × (steps ≡ []))

-- The steps of a session that ended so: its Begin, those for its exchanges, and its End; and what was done behind it.
pub record AreSessionSteps (end : SessionEnd) (session : ℕ) (exchanges : List Exchange) (behind steps : List RunStep) : Type 0 where
  pub numbered : session ≢ 0
  pub turns : List RunStep
  pub ending : List RunStep
  pub are_turns : AreTurns end exchanges turns
  pub is_ending : IsEndStep session (begin_entry session ∷ flat_map (λ (e : Exchange). e.added) exchanges) ending
  pub parts : steps ≡ begin_step ∷ (turns ++ (ending ++ behind))

-- The steps where no session came of it, and the end was this: a Begin alone, where each number was taken; nothing or a Begin alone,
-- for want of memory; and nothing at any other end.
abbrev pub WithoutSession : SessionEnd → List RunStep → Type 0
WithoutSession ends.NoNumber steps = steps ≡ begin_step ∷ []
WithoutSession ends.Memory steps = (steps ≡ []) ⊎ (steps ≡ begin_step ∷ [])
WithoutSession other steps = steps ≡ []

-- No session came of it; or these are the steps of a session that ended so, and those behind it.
abbrev pub AreStepsOf : SessionEnd → (session : ℕ) → List Exchange → (behind steps : List RunStep) → Type 0
AreStepsOf end session exchanges behind steps = ((session ≡ 0) × WithoutSession end steps) ⊎ AreSessionSteps end session exchanges behind steps

-- trees and pages were put right, step by step, and nothing else was done
abbrev pub AreTends : List RunStep → Type 0
AreTends steps = AllByRecursion (λ (step : RunStep). step ≡ tend_step) steps
