-- What a background round comes to, told by the marks before and after its one play.
use Rattle.std.specs.Prelude.{◌≡◌, ℕ, ◌+◌, ◌<◌, ◌≤◌, IsTrue, List, [], ◌∷◌, ◌++◌, drop}
use Rattle.febe_data.specs.LimitsView.{LimitsView}
use Rattle.febe_data.specs.Plain.{PlainEntry}
use Rattle.history_lock.specs.declared.view.View.{View}
use Rattle.history_lock.specs.declared.view.MarkedAct.{MarkedAct}
use Rattle.history_lock.specs.Histories.{Extends}
use Rattle.green_io.specs.Clock.{IsNext}
use Rattle.green_store.specs.Durable.{has_risen}
use Rattle.green_store.specs.Marks.{owner_of, limits_in, faults_in, debt_in, unsaved_in, due_in, unreached_in, last_in, but_last}
use Rattle.green_top.specs.Times.{Coming}
use Rattle.green_top.specs.declared.round.Round.{Round}
use Rattle.green_top.specs.declared.round.Round.TheVariants as rounds

-- Something is due exactly where the round is not idle. Where the disk failed, its count of faults rose, and all else is as it
-- was. Where there was no memory, all but that count is as it was; and the count is too, unless pages were to be written, which
-- they are once so many kept entries as the limits say stand past those for which the pages stand. The last mark is left out
-- of all this: it is the play's own moment.
abbrev pub RoundIs : LimitsView → Round → (before after : List ℕ) → Type 0
RoundIs limits rounds.Balanced before after = (due_in before ≡ 1) × (debt_in after + 1 ≤ debt_in before)
RoundIs limits rounds.Flushed before after = (due_in before ≡ 1) × (unsaved_in after ≡ 0)
RoundIs limits rounds.Swept before after = (due_in before ≡ 1) × (unreached_in after ≡ 0)
RoundIs limits rounds.Idle before after = (due_in before ≡ 0) × (but_last after ≡ but_last before)
RoundIs limits rounds.Disk before after = (due_in before ≡ 1) × IsTrue (has_risen (faults_in before) (faults_in after)) × (drop 1 (but_last after) ≡ drop 1 (but_last before))
RoundIs limits rounds.Memory before after = (due_in before ≡ 1) × (drop 1 (but_last after) ≡ drop 1 (but_last before)) × (unsaved_in before < limits.flush → but_last after ≡ but_last before)

-- One play was made, at the clock's next moment, and this is what it came to. The history that was seen behind it extends what
-- was seen before, and the pass has its number and its entries still.
pub record HasMadeRound (before : View PlainEntry) (round : Round) (after : View PlainEntry) (old new : Coming) : Type 0 where
  pub act : MarkedAct
  pub acts_are : after.acts ≡ before.acts ++ act ∷ []
  pub timed : IsNext (last_in act.after) old new
  pub extends : Extends owner_of before.number before.seen after.seen
  pub number_stays : after.number ≡ before.number
  pub own_stay : after.mine ≡ before.mine
  pub fixed_stays : after.fixed ≡ before.fixed
  pub round_is : RoundIs (limits_in before.fixed) round act.before act.after
