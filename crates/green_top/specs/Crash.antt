-- What a crash leaves of the log, while a session is served and after. What is written to pages meanwhile leaves the log's part of
-- every image alone.
use Rattle.std.specs.Prelude.{◌≡◌, ◌⊎◌, ℕ, ◌+◌, ◌≤◌, List, [], ◌∷◌, ◌++◌, length, take, Option, IsTrue}
use Rattle.febe_data.specs.LimitsView.{LimitsView}
use Rattle.febe_data.specs.declared.refusal.Refusal.TheVariants.{Disk}
use Rattle.febe_data.specs.Plain.{refused, PlainEntry}
use Rattle.entry_codec.specs.Logged.{PlainLogged, entries_of, timed}
use Rattle.green_io.specs.Areas.{Areas}
use Rattle.green_io.specs.Outside.{HasRisen}
use Rattle.edit_log.specs.Images.{HoldsAsRead}
use Rattle.febe_data.specs.Validity.{IsRequest}
use Rattle.world_rules.specs.History.{durable_entries, is_live}
use Rattle.world_rules.specs.Legal.{Exchange}
use Rattle.green_store.specs.Durable.{IsDurableRow, HoldsWith}
use Rattle.green_store.specs.Opening.{opened_with}
use Rattle.green_store.specs.Sessions.{greatest_session}
use Rattle.green_top.specs.Times.{TimedStep, at_moment, ask_step}
use Rattle.green_top.specs.Words.{HasLimits}

-- the history begins with this front, which has at least so many entries
pub record IsFront (least : ℕ) (history front : List PlainEntry) : Type 0 where
  pub back : List PlainEntry
  pub parts : history ≡ front ++ back
  pub no_shorter : least ≤ length front

-- The front was the history when the next request of the session came: the first steps had been made, and the one behind them
-- answers it in this exchange. Its request makes this edit after the front, at the moment of its step, and nothing refuses it.
pub record MakesDurableEntry (limits : LimitsView) (session : ℕ) (steps : List TimedStep) (front : List PlainEntry) (row : PlainLogged) : Type 0 where
  pub made : List TimedStep
  pub moment : ℕ
  pub exchange : Exchange
  pub later : List TimedStep
  pub parts : steps ≡ made ++ at_moment moment (ask_step exchange) ∷ later
  pub point_is : exchange.point ≡ length (front ++ exchange.added)
  pub live : IsTrue (is_live front session)
  pub valid : IsRequest exchange.request
  pub edit : IsDurableRow limits front session exchange.request moment row

-- the exchange's request was refused since the disk failed meanwhile, and added nothing
pub record IsRefusedExchange (exchange : Exchange) : Type 0 where
  pub reply_is : exchange.reply ≡ refused Disk
  pub failed : IsTrue exchange.rose
  pub nothing : exchange.added ≡ []

-- A whole log: it has the kept entries of some front of the history, with the first of these moments, or with them one edit
-- more, which the request makes that came when that front was the history.
pub record HoldsFront (limits : LimitsView) (session : ℕ) (steps : List TimedStep) (least : ℕ) (history : List PlainEntry) (moments : List ℕ) (image : Areas) : Type 0 where
  pub front : List PlainEntry
  pub is_front : IsFront least history front
  pub holds : HoldsWith (timed (durable_entries front) moments) (MakesDurableEntry limits session steps front) image

-- The edit is the one that a request of the session makes which came when some front was the history, and no entry that came since
-- is kept. So it is not in the history: the request was refused, since the disk failed, whose count of faults rose from this to that.
pub record WasMade (limits : LimitsView) (session : ℕ) (steps : List TimedStep) (least : ℕ) (history : List PlainEntry) (faults_before faults_after : ℕ) (row : PlainLogged) : Type 0 where
  pub front : List PlainEntry
  pub is_front : IsFront least history front
  pub none_kept : durable_entries front ≡ durable_entries history
  pub made : MakesDurableEntry limits session steps front row
  pub refused_is : IsRefusedExchange made.exchange
  pub failed : HasRisen faults_before faults_after

-- While a run goes on over a disk whose log is whole with these entries, a crash leaves what it may leave while they are
-- read; or the kept entries of a front of the history that is reported, with their moments as reported, which has at least those
-- entries and the restart behind them, and perhaps one edit more: that of the request which came then, and was under way or has
-- been refused.
abbrev pub HoldsRun : List (List ℕ) → Option Areas → List PlainLogged → List PlainEntry → List ℕ → List TimedStep → Areas → Type 0
HoldsRun words reads rows history moments steps image =
    HoldsAsRead rows reads image
    ⊎ ((limits : LimitsView) × HasLimits words limits × HoldsFront limits (greatest_session (opened_with (entries_of rows)) + 1) steps (length (opened_with (entries_of rows))) history moments image)

-- The edit was made in a run with these words and steps, by the session that began on so many first entries of the history.
abbrev pub WasMadeInRun : List (List ℕ) → ℕ → List PlainEntry → List TimedStep → ℕ → ℕ → PlainLogged → Type 0
WasMadeInRun words opened history steps faults_before faults_after row =
    (limits : LimitsView) × HasLimits words limits × WasMade limits (greatest_session (take opened history) + 1) steps opened history faults_before faults_after row

-- After a run that opened with so many entries, a crash leaves a whole log with the kept entries of the history that is
-- reported, all of them, with the moments that are reported, and, where the disk failed, perhaps one edit more that was refused.
abbrev pub HoldsAll : List (List ℕ) → ℕ → List PlainEntry → List ℕ → List TimedStep → ℕ → ℕ → Areas → Type 0
HoldsAll words opened history moments steps faults_before faults_after image =
    HoldsWith (timed (durable_entries history) moments) (WasMadeInRun words opened history steps faults_before faults_after) image
