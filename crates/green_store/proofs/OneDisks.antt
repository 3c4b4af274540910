-- A disk stays the one of its store.
use Rattle.std.proofs.Common.{inl, inr, ℕ, Bool, Option, None, Some, refl}
use Rattle.std.specs.Prelude.{IsSome}
use Rattle.entry_codec.specs.Logged.{PlainLogged}
use Rattle.green_io.specs.declared.disk.Area.{Area}
use Rattle.green_io.specs.declared.disk.Area.TheVariants.{Second}
use Rattle.green_io.specs.Areas.{Areas, is_same}
use Rattle.green_io.specs.Disk.{DiskState, ReadsAsBut, LeavesBut}
use Rattle.page_journal.specs.Images.{is_paged}
use Rattle.green_store.specs.declared.step.Step.{Step}
use Rattle.green_store.specs.declared.step.Step.TheVariants as steps
use Rattle.green_store.specs.declared.step.StepAnswer.{StepAnswer}
use Rattle.green_store.specs.Durable.{Keeps, KeepsStep}
use Rattle.green_store.specs.HousedView.{IsOneDisk}
use Rattle.green_store.specs.IsStep.{UnlessTended, OnTended}
use Rattle.green_store.specs.Paged.{HasPages}
use Rattle.green_store.specs.StoreView.{StoreView}

-- what tells its areas after calls on some of them told them before them
told_before : (touched : Area → Bool) (old new : Option Areas) → ReadsAsBut touched old new → IsSome new → IsSome old
told_before touched None None beside told = told
told_before touched None (Some areas) beside told = absurd beside
told_before touched (Some areas) new beside told = refl

told : (step : Step) (old new : DiskState) → UnlessTended step (LeavesBut (is_same Second) old new) → OnTended step (LeavesBut is_paged old new) → IsSome new.reads → IsSome old.reads
told steps.Background old new others log is = told_before is_paged old.reads new.reads log.reads is
told steps.Begin old new others log is = told_before (is_same Second) old.reads new.reads others.reads is
told (steps.Ask session request) old new others log is = told_before (is_same Second) old.reads new.reads others.reads is
told (steps.End session) old new others log is = told_before (is_same Second) old.reads new.reads others.reads is

kept_by : (before after : StoreView) (pending : Option PlainLogged) (moment : ℕ) (step : Step) (answer : StepAnswer) (disk : DiskState) → KeepsStep before pending moment step after answer disk
    → (now : Option PlainLogged) × Keeps disk after now
kept_by before after pending moment step answer disk (inl keeps) = (None, keeps)
kept_by before after pending moment step answer disk (inr stays) = (Some stays.row, stays.keeps)

pub stays_one_disk : (before after : StoreView) (moment : ℕ) (step : Step) (answer : StepAnswer) (old new : DiskState) → IsOneDisk old before
    → ((pending : Option PlainLogged) → Keeps old before pending → KeepsStep before pending moment step after answer new) → (HasPages old before → HasPages new after)
    → UnlessTended step (LeavesBut (is_same Second) old new) → OnTended step (LeavesBut is_paged old new) → IsOneDisk new after
stays_one_disk before after moment step answer old new one keeps pages others log is =
    let was = one (told step old new others log is) in
    let now = kept_by before after was.pending moment step answer new (keeps was.pending was.keeps) in
    record { pending = now.0; keeps = now.1; pages = pages was.pages }
