-- What a session that was served through a lock leaves in the pass that served it, and in the clock that it asked.
use Rattle.std.specs.Prelude.{◌≡◌, ◌≢◌, ◌⊎◌, ℕ, Bool, true, false, List, [], ◌∷◌, ◌++◌, length, map}
use Rattle.std.specs.List.{flat_map}
use Rattle.febe_data.specs.Plain.{PlainEntry}
use Rattle.history_lock.specs.declared.view.View.{View}
use Rattle.history_lock.specs.declared.view.MarkedAct.{MarkedAct}
use Rattle.world_rules.specs.History.{is_live, entries_of}
use Rattle.world_rules.specs.Legal.{Exchange}
use Rattle.green_store.specs.Durable.{has_risen}
use Rattle.green_store.specs.Marks.{faults_in, last_in}
use Rattle.green_store.specs.Sessions.{begin_entry, end_entry}
use Rattle.green_top.specs.Times.{Coming, GivenBy}

-- of a play: its point, and whether the disk's count of faults rose in it
abbrev pub told_by_act : MarkedAct → ℕ × Bool
told_by_act act = (act.point, has_risen (faults_in act.before) (faults_in act.after))

-- the same of an exchange
abbrev pub told_by_exchange : Exchange → ℕ × Bool
told_by_exchange exchange = (exchange.point, exchange.rose)

-- the moment that a play was given
abbrev pub moment_of : MarkedAct → ℕ
moment_of act = last_in act.after

-- nothing was played, and the clock was not asked
pub record HasNotPlayed (exchanges : List Exchange) (before after : View PlainEntry) (old new : Coming) : Type 0 where
  pub none_answered : exchanges ≡ []
  pub stays : after ≡ before
  pub not_asked : new ≡ old

-- a Begin was played, at the clock's next moment, and no session came of it
pub record HasOnlyBegun (exchanges : List Exchange) (before after : View PlainEntry) (old new : Coming) : Type 0 where
  pub none_answered : exchanges ≡ []
  pub unnumbered : after.number ≡ 0
  pub begin : MarkedAct
  pub acts_are : after.acts ≡ before.acts ++ begin ∷ []
  pub timed : GivenBy (moment_of begin ∷ []) old new

-- Behind the last reply there was this history. Where it left the session live, one more play added its End, perhaps behind
-- entries of others; where it did not, since a quit had ended it, there was no more play.
abbrev pub AreEnds : (session : ℕ) → (left : List PlainEntry) → List MarkedAct → (after : List PlainEntry) → Type 0
AreEnds session left ends after =
    ((is_live left session ≡ true) × (length ends ≡ 1) × ((past : List PlainEntry) × (after ≡ (left ++ past) ++ end_entry (left ++ past) session ∷ [])))
    ⊎ ((is_live left session ≡ false) × (ends ≡ []) × (after ≡ left))

-- A session began by one play. One play was made for each exchange, at its point, in which the disk's count of faults rose where
-- the exchange says so. Behind these the session's entries were its Begin and what the exchanges added, and it had an End. Each
-- play was given the clock's next answer as its moment, and no more was asked of the clock.
pub record HasPlayedSession (exchanges : List Exchange) (before after : View PlainEntry) (old new : Coming) : Type 0 where
  pub numbered : after.number ≢ 0
  pub begin : MarkedAct
  pub asks : List MarkedAct
  pub ends : List MarkedAct
  pub acts_are : after.acts ≡ before.acts ++ begin ∷ (asks ++ ends)
  pub asks_are : map told_by_act asks ≡ map told_by_exchange exchanges
  pub timed : GivenBy (map moment_of (begin ∷ (asks ++ ends))) old new
  pub left : List PlainEntry
  pub own : entries_of after.number left ≡ begin_entry after.number ∷ flat_map (λ (e : Exchange). e.added) exchanges
  pub ends_are : AreEnds after.number left ends after.seen

-- The plays of one session, in the order in which they were made.
abbrev pub HasSatActs : List Exchange → (before after : View PlainEntry) → (old new : Coming) → Type 0
HasSatActs exchanges before after old new = HasNotPlayed exchanges before after old new ⊎ HasOnlyBegun exchanges before after old new ⊎ HasPlayedSession exchanges before after old new
