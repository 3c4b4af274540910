-- Laws on entries that fit: those of accepted changes do, and a history of them is placed.
use Rattle.std.specs.Prelude.{◌≡◌, ℕ, ◌≤◌, true, List, [], ◌∷◌, ◌++◌, All, IsTrue, None, Some}
use Rattle.febe_data.specs.LimitsView.{LimitsView}
use Rattle.febe_data.specs.Plain.{PlainEntry, PlainRequest, began}
use Rattle.world_rules.specs.World.{empty_world}
use Rattle.world_rules.specs.Apply.{world_of}
use Rattle.world_rules.specs.History.{durable_entries, recovered, is_durable, is_live}
use Rattle.world_rules.specs.Effects.{Effect, effect}
use Rattle.world_rules.specs.Legal.{wanted_after, entry_after}
use Rattle.world_rules.specs.Placed.{AllPlaced}
use Rattle.world_rules.specs.Serials.{SerialsCount}
use Rattle.entry_fits.specs.Fits.{Fits, AllFit}

-- ---- accepted changes

-- sessions have numbers from 1 on
abbrev pub BeginsFromOne : List PlainEntry → Type 0
BeginsFromOne history = All (λ (e : PlainEntry). e.change ≡ began → 1 ≤ e.session) history

-- The changes of the history were placed, the serials of the sessions that have begun count up, and the numbers of
-- sessions are from 1. So is each history that requests make, after a restart with entries that fit.
pub record IsRegular (history : List PlainEntry) : Type 0 where
  pub placed : AllPlaced empty_world history
  pub serials : SerialsCount history
  pub sessions : BeginsFromOne history

-- a counted change that a live session's request makes, which nothing refuses
pub record IsAccepted (limits : LimitsView) (history : List PlainEntry) (session : ℕ) (request : PlainRequest) (made : Effect) : Type 0 where
  pub live : IsTrue (is_live history session)
  pub allowed : wanted_after limits history session request ≡ None
  pub effect_is : effect (world_of history) session request ≡ Some made
  pub counted : is_durable made.change ≡ true

-- its entry fits after the kept entries of the history before it
abbrev pub AcceptedFits : Type 0
AcceptedFits = (limits : LimitsView) (history : List PlainEntry) (session : ℕ) (request : PlainRequest) (made : Effect) → limits.text ≤ 1073741824 → IsRegular history
    → IsAccepted limits history session request made → Fits (durable_entries history) (entry_after history session made)

-- ---- entries that fit one after the other

-- all are kept
abbrev pub FittingAreKept : Type 0
FittingAreKept = (entries : List PlainEntry) → AllFit [] entries → durable_entries entries ≡ entries

-- And they are placed, so all laws of placed histories hold of a history of them.
abbrev pub FittingArePlaced : Type 0
FittingArePlaced = (entries : List PlainEntry) → AllFit [] entries → AllPlaced empty_world entries

-- A back end that begins again with them has a regular history.
abbrev pub FittingBegin : Type 0
FittingBegin = (entries : List PlainEntry) → AllFit [] entries → IsRegular (recovered entries)

-- with one more that fits, all fit
abbrev pub OneMoreFits : Type 0
OneMoreFits = (entries : List PlainEntry) (entry : PlainEntry) → AllFit [] entries → Fits entries entry → AllFit [] (entries ++ entry ∷ [])
