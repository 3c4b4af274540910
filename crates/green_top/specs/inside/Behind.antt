-- What the steps of a session tell where a pass plays them behind a lock.
use Rattle.std.specs.Prelude.{◌≡◌, ◌≢◌, [], ◌∷◌, ◌++◌}
use Rattle.febe_data.specs.Plain.{PlainEntry}
use Rattle.history_lock.specs.declared.view.View.{View}
use Rattle.history_lock.specs.declared.view.MarkedAct.{MarkedAct}
use Rattle.history_lock.specs.Histories.{StartsWith}
use Rattle.world_rules.specs.History.{entries_of}
use Rattle.world_rules.specs.Legal.{Exchange}
use Rattle.green_io.specs.Clock.{IsNext}
use Rattle.green_store.specs.Sessions.{begin_entry}
use Rattle.green_top.specs.Served.{told_by_act, told_by_exchange, moment_of}
use Rattle.green_top.specs.Times.{Coming}
use Rattle.green_top.specs.inside.Play.{EndsAt}

-- One play was made, of which these are the marks and the point, at the moment that the clock then told. What was seen begins
-- what is seen now.
pub record GainsAct (v : View PlainEntry) (old : Coming) (act : MarkedAct) (w : View PlainEntry) (new : Coming) : Type 0 where
  pub acts_are : w.acts ≡ v.acts ++ act ∷ []
  pub timed : IsNext (moment_of act) old new
  pub starts_with : StartsWith w.seen v.seen
  pub fixed_stays : w.fixed ≡ v.fixed

-- a Begin was played; where a session came of it, its Begin is its one entry
pub record HasBegunBehind (v : View PlainEntry) (old : Coming) (w : View PlainEntry) (new : Coming) : Type 0 where
  pub act : MarkedAct
  pub gains : GainsAct v old act w new
  pub first_entry : w.number ≢ 0 → entries_of w.number w.seen ≡ begin_entry w.number ∷ []

-- a request was played in this exchange
pub record HasAskedBehind (v : View PlainEntry) (old : Coming) (exchange : Exchange) (w : View PlainEntry) (new : Coming) : Type 0 where
  pub act : MarkedAct
  pub gains : GainsAct v old act w new
  pub told : told_by_act act ≡ told_by_exchange exchange
  pub number_stays : w.number ≡ v.number
  pub own : entries_of v.number w.seen ≡ entries_of v.number v.seen ++ exchange.added

-- an End was played
pub record HasEndedBehind (v : View PlainEntry) (old : Coming) (w : View PlainEntry) (new : Coming) : Type 0 where
  pub act : MarkedAct
  pub gains : GainsAct v old act w new
  pub number_stays : w.number ≡ v.number
  pub ends : EndsAt v.number v.seen w.seen
