-- What a disk has of a store's history, before, while and after a step.
use Rattle.std.specs.Prelude.{◌≡◌, ◌⊎◌, ℕ, ◌+◌, ◌-◌, ◌^◌, min, nat_le, Bool, List, [], ◌∷◌, ◌++◌, Option, None, Some, IsTrue}
use Rattle.febe_data.specs.declared.refusal.Refusal.TheVariants.{Disk}
use Rattle.febe_data.specs.LimitsView.{LimitsView}
use Rattle.febe_data.specs.Plain.{PlainRequest, plain_request, PlainReply, plain_reply, refused, PlainEntry}
use Rattle.entry_codec.specs.Logged.{PlainLogged, timed}
use Rattle.green_io.specs.Areas.{Areas}
use Rattle.green_io.specs.Disk.{DiskState}
use Rattle.world_rules.specs.Apply.{world_of}
use Rattle.world_rules.specs.History.{durable_entries, is_durable}
use Rattle.world_rules.specs.Effects.{Effect, effect}
use Rattle.world_rules.specs.Legal.{wanted_after, entry_after}
use Rattle.edit_log.specs.Images.{IsOpen, IsPending, IsMendable}
use Rattle.edit_log.specs.LogView.{LogView}
use Rattle.edit_log.specs.Second.{HoldsWhole}
use Rattle.green_store.specs.declared.step.Step.{Step}
use Rattle.green_store.specs.declared.step.Step.TheVariants as steps
use Rattle.green_store.specs.declared.step.StepAnswer.{StepAnswer}
use Rattle.green_store.specs.declared.step.StepAnswer.TheVariants as answers
use Rattle.green_store.specs.StoreView.{StoreView}

-- whether a count is greater afterwards than before, or at the greatest number
abbrev pub has_risen : ℕ → ℕ → Bool
has_risen before after = nat_le (min (before + 1) (2 ^ 64 - 1)) after

-- The log over this disk has these entries with their moments, and no edit is pending; or this one is, behind them.
abbrev pub LogHas : DiskState → LogView → List PlainLogged → Option PlainLogged → Type 0
LogHas disk log rows None = IsOpen disk log rows
LogHas disk log rows (Some row) = IsMendable rows row × IsPending disk log rows row

-- a store's kept entries, each with its moment
abbrev pub kept_rows : StoreView → List PlainLogged
kept_rows store = timed (durable_entries store.history) store.moments

-- The disk has the store's kept entries with their moments, and this edit pending behind them, if one is.
abbrev pub Keeps : DiskState → StoreView → Option PlainLogged → Type 0
Keeps disk store pending = LogHas disk store.log (kept_rows store) pending

-- the entry of a change that is logged, which a session's request makes after this history, and which nothing refuses
pub record IsDurableEntry (limits : LimitsView) (history : List PlainEntry) (session : ℕ) (request : PlainRequest) (entry : PlainEntry) : Type 0 where
  pub allowed : wanted_after limits history session request ≡ None
  pub made : Effect
  pub effect_is : effect (world_of history) session request ≡ Some made
  pub counted : IsTrue (is_durable made.change)
  pub entry_is : entry ≡ entry_after history session made

-- such an entry with the moment at which it is made
abbrev pub IsDurableRow : LimitsView → List PlainEntry → ℕ → PlainRequest → ℕ → PlainLogged → Type 0
IsDurableRow limits history session request moment row = (row.moment ≡ moment) × IsDurableEntry limits history session request row.entry

-- the entry is the edit of this step, which is made at this moment
abbrev pub IsDurableRowOf : StoreView → ℕ → Step → PlainLogged → Type 0
IsDurableRowOf before moment (steps.Ask session request) row = IsDurableRow before.limits before.history session (plain_request request) moment row
IsDurableRowOf before moment other row = ⊥

-- the entry is the one that is pending
abbrev pub IsThat : Option PlainLogged → PlainLogged → Type 0
IsThat None row = ⊥
IsThat (Some pending) row = row ≡ pending

-- a whole log with these entries, or with one more, of which this holds
abbrev pub HoldsWith : List PlainLogged → (PlainLogged → Type 0) → Areas → Type 0
HoldsWith rows MayCome image = HoldsWhole rows image ⊎ ((row : PlainLogged) × MayCome row × HoldsWhole (rows ++ row ∷ []) image)

-- While a request is answered at this moment a crash leaves a whole log with the entries that were kept before it, or with one
-- more: the edit that was pending, or the request's own.
abbrev pub HoldsRequest : StoreView → Option PlainLogged → ℕ → ℕ → PlainRequest → Areas → Type 0
HoldsRequest before pending moment session request image =
    HoldsWith (kept_rows before) (λ row. IsThat pending row ⊎ IsDurableRow before.limits before.history session request moment row) image

-- so it is while a step runs
abbrev pub HoldsStep : StoreView → Option PlainLogged → ℕ → Step → Areas → Type 0
HoldsStep before pending moment step image = HoldsWith (kept_rows before) (λ row. IsThat pending row ⊎ IsDurableRowOf before moment step row) image

-- no kept entry was added, and an edit is pending, of which this holds
pub record StaysPending (before after : StoreView) (disk : DiskState) (MayStay : PlainLogged → Type 0) : Type 0 where
  pub row : PlainLogged
  pub which : MayStay row
  pub none_kept : durable_entries after.history ≡ durable_entries before.history
  pub keeps : Keeps disk after (Some row)

-- After a request the disk has the kept entries of the history as it is then, and no edit is pending: so an accepted edit is
-- on the disk whatever comes. Or no entry was kept, and an edit is pending: the one that was before, or the request's own,
-- which was refused since the disk failed.
abbrev pub KeepsRequest : StoreView → Option PlainLogged → ℕ → ℕ → PlainRequest → StoreView → PlainReply → DiskState → Type 0
KeepsRequest before pending moment session request after reply disk =
    Keeps disk after None
    ⊎ StaysPending before after disk (λ row. IsThat pending row ⊎ (IsDurableRow before.limits before.history session request moment row × (reply ≡ refused Disk)))

-- the answer is that the disk failed
abbrev pub IsRefusedForDisk : StepAnswer → Type 0
IsRefusedForDisk (answers.Reply reply point) = plain_reply reply ≡ refused Disk
IsRefusedForDisk other = ⊥

-- so it is after a step
abbrev pub KeepsStep : StoreView → Option PlainLogged → ℕ → Step → StoreView → StepAnswer → DiskState → Type 0
KeepsStep before pending moment step after answer disk =
    Keeps disk after None
    ⊎ StaysPending before after disk (λ row. IsThat pending row ⊎ (IsDurableRowOf before moment step row × IsRefusedForDisk answer))
